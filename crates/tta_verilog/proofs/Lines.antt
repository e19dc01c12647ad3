-- What a line tells of names and numbers.
use Rattle.std.proofs.Common.{◌≡◌, ℕ, ◌<◌, ◌-◌, ◌^◌, true, List, [], ◌∷◌, ◌++◌, refl, sym, ap, ◌∙◌, arith, append_assoc}
use Rattle.std.specs.Prelude.{decimal, drop}
use Rattle.std.proofs.lemmas.Fmt.{decimal_injective}
use Rattle.tta_verilog.specs.Circuits.{range}
use Rattle.tta_verilog.specs.Spelling.{is_name}
use Rattle.tta_verilog.proofs.Words.{stops, cut, run, run_is, name_letters, number_is_name}

-- the first byte of a text
abbrev pub first : List ℕ → ℕ
first [] = 0
first (b ∷ t) = b

-- a name up to a mark
pub word_alike : (v w r s : List ℕ) → is_name v ≡ true → is_name w ≡ true → stops r ≡ true → stops s ≡ true → v ++ r ≡ w ++ s
    → (v ≡ w) × (r ≡ s)
word_alike v w r s p q r_stops s_stops is =
    let one : cut v r ≡ cut w s = sym (run_is v r (name_letters v p) r_stops) ∙ ap run is ∙ run_is w s (name_letters w q) s_stops in
    (ap (λ (x : List ℕ × List ℕ). x.0) one, ap (λ (x : List ℕ × List ℕ). x.1) one)

-- a number up to a mark
pub number_alike : (n k : ℕ) (r s : List ℕ) → n < 2 ^ 64 → k < 2 ^ 64 → stops r ≡ true → stops s ≡ true → decimal n ++ r ≡ decimal k ++ s
    → (n ≡ k) × (r ≡ s)
number_alike n k r s p q r_stops s_stops is =
    let t = word_alike (decimal n) (decimal k) r s (number_is_name n p) (number_is_name k q) r_stops s_stops is in
    (decimal_injective n k p q t.0, t.1)

range_before : (width : ℕ) (r : List ℕ) → range width ++ r ≡ 91 ∷ (decimal (width - 1) ++ (58 ∷ 48 ∷ 93 ∷ 32 ∷ r))
unfolding range
range_before width r = simp append_assoc

-- how many bits there are
pub range_alike : (v w : ℕ) (r s : List ℕ) → 0 < v → 0 < w → v < 2 ^ 64 → w < 2 ^ 64 → range v ++ r ≡ range w ++ s → (v ≡ w) × (r ≡ s)
range_alike v w r s v_some w_some v_small w_small is =
    let t = number_alike (v - 1) (w - 1) (58 ∷ 48 ∷ 93 ∷ 32 ∷ r) (58 ∷ 48 ∷ 93 ∷ 32 ∷ s) (omega (arith, v_small)) (omega (arith, w_small)) refl refl
    (ap (drop 1) (sym (range_before v r) ∙ is ∙ range_before w s)) in
    let e = t.0 in
    (omega (arith, e, v_some, w_some), ap (drop 4) t.1)
