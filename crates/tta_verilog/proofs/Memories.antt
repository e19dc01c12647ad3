-- The text of a memory tells its name, its width and the words that it begins with.
use Rattle.std.proofs.Common.{◌≡◌, ℕ, zero, suc, ◌<◌, ◌+◌, ◌*◌, ◌/◌, ◌%◌, ◌^◌, ◌==◌, Bool, true, false, nat_lt, List, [], ◌∷◌, ◌++◌, length, refl, sym, ap, ap₂, subst, ◌∙◌, arith, append_assoc}
use Rattle.std.specs.Prelude.{if◌then◌else◌, codes, decimal, drop}
use Rattle.std.specs.List.{flat_map, enumerate_from, AllByRecursion}
use Rattle.std.specs.Str.Parse.{AllDigits}
use Rattle.std.proofs.lemmas.Bool.{ltb-true, eqb-true, eqb-false}
use Rattle.std.proofs.lemmas.Fmt.{decimal_is_IsNumeral}
use Rattle.std.proofs.lemmas.List.{append_cancel_left}
use Rattle.std.proofs.lemmas.Nat.{mod-pow-add, mod-mul-add}
use Rattle.tta_verilog.specs.Expressions.{constant}
use Rattle.tta_verilog.specs.Circuits.{range, bits_text, case_line, case_start, case_end}
use Rattle.tta_verilog.specs.Spelling.{is_name}
use Rattle.tta_verilog.proofs.Words.{number_is_name}
use Rattle.tta_verilog.proofs.Lines.{first, word_alike, range_alike}

-- ---- bits

-- so many bits tell a number up to their power of two
low_bits : (w a b : ℕ) (r s : List ℕ) → bits_text w a ++ r ≡ bits_text w b ++ s → (a % 2 ^ w ≡ b % 2 ^ w) × (r ≡ s)
low_bits zero a b r s is = (omega arith, is)
low_bits (suc w) a b r s is = by (λ e. low_bits w a b r s e) (a / 2 ^ w % 2 == 1) (b / 2 ^ w % 2 == 1) refl refl is where
  whole : (n : ℕ) → n % 2 ^ suc w ≡ n / 2 ^ w % 2 * 2 ^ w + n % 2 ^ w
  whole n = ap (λ (v : ℕ). n % 2 ^ v) (let e : suc w ≡ 1 + w = omega arith in e) ∙ mod-pow-add n 1 w

  more : a / 2 ^ w % 2 ≡ b / 2 ^ w % 2 → (a % 2 ^ w ≡ b % 2 ^ w) × (r ≡ s) → (a % 2 ^ suc w ≡ b % 2 ^ suc w) × (r ≡ s)
  more bit rest = (whole a ∙ ap₂ (λ (x y : ℕ). x * 2 ^ w + y) bit rest.0 ∙ sym (whole b), rest.1)

  by : (bits_text w a ++ r ≡ bits_text w b ++ s → (a % 2 ^ w ≡ b % 2 ^ w) × (r ≡ s)) → (c d : Bool) → (a / 2 ^ w % 2 == 1) ≡ c → (b / 2 ^ w % 2 == 1) ≡ d
      → ((if c then codes "1" else codes "0") ++ bits_text w a) ++ r ≡ ((if d then codes "1" else codes "0") ++ bits_text w b) ++ s
      → (a % 2 ^ suc w ≡ b % 2 ^ suc w) × (r ≡ s)
  by again true true c d is =
      more (eqb-true (a / 2 ^ w % 2) 1 c ∙ sym (eqb-true (b / 2 ^ w % 2) 1 d)) (again (ap (drop 1) is))
  by again false false c d is =
      let x = eqb-false (a / 2 ^ w % 2) 1 c in
      let y = eqb-false (b / 2 ^ w % 2) 1 d in
      more (omega (arith, x, y)) (again (ap (drop 1) is))
  by again true false c d is = absurd (let e : 49 ≡ 48 = ap first is in omega (arith, e))
  by again false true c d is = absurd (let e : 48 ≡ 49 = ap first is in omega (arith, e))

-- the bits of a word tell it
bits_alike : (w a b : ℕ) (r s : List ℕ) → a < 2 ^ w → b < 2 ^ w → bits_text w a ++ r ≡ bits_text w b ++ s → (a ≡ b) × (r ≡ s)
bits_alike w a b r s p q is =
    let t = low_bits w a b r s is in
    let e = t.0 in
    (sym (small a p) ∙ e ∙ small b q, t.1) where
      small : (n : ℕ) → n < 2 ^ w → n % 2 ^ w ≡ n
      small n h = ap (λ (v : ℕ). v % 2 ^ w) (let e : n ≡ 0 * 2 ^ w + n = omega arith in e) ∙ mod-mul-add 0 (2 ^ w) n h

-- ---- memories that keep their first words

case_before : (name : List ℕ) (width k word : ℕ) (r : List ℕ) → case_line name width k word ++ r
    ≡ decimal k ++ (58 ∷ 32 ∷ (name ++ (32 ∷ 61 ∷ 32 ∷ (decimal width ++ (39 ∷ 98 ∷ (bits_text width word ++ (59 ∷ 10 ∷ r)))))))
unfolding case_line
case_before name width k word r = simp append_assoc

start_before : (name : List ℕ) (width : ℕ) (r : List ℕ)
    → case_start name width ++ r ≡ codes "function " ++ (range width ++ (name ++ (codes ";\ninput " ++ (range 32 ++ (codes "at;\ncase (at)\n" ++ r)))))
unfolding case_start
start_before name width r = simp append_assoc

end_before : (name : List ℕ) (width : ℕ) (r : List ℕ)
    → case_end name width ++ r ≡ codes "default" ++ (58 ∷ 32 ∷ (name ++ (codes " = " ++ (constant width 0 ++ (codes ";\nendcase\nendfunction\n" ++ r)))))
unfolding case_end
end_before name width r = simp append_assoc

module _ (name : List ℕ) (width : ℕ) where
  -- the words from an address on
  abbrev cases_from : (k : ℕ) → (words : List ℕ) → List ℕ
  cases_from k words = flat_map (λ x. case_line name width x.0 x.1) (enumerate_from k words)

  abbrev Fit : List ℕ → Type 0
  Fit words = AllByRecursion (λ w. nat_lt w (2 ^ width) ≡ true) words

  cases_more : (k x : ℕ) (xs r : List ℕ) → cases_from k (x ∷ xs) ++ r
      ≡ decimal k ++ (58 ∷ 32 ∷ (name ++ (32 ∷ 61 ∷ 32 ∷ (decimal width ++ (39 ∷ 98 ∷ (bits_text width x ++ (59 ∷ 10 ∷ (cases_from (k + 1) xs ++ r))))))))
  cases_more k x xs r = append_assoc (case_line name width k x) (cases_from (k + 1) xs) r ∙ case_before name width k x (cases_from (k + 1) xs ++ r)

  -- an address is no `default`
  no_default : (k : ℕ) (r s : List ℕ) → k < 2 ^ 64 → decimal k ++ (58 ∷ r) ≡ codes "default" ++ (58 ∷ s) → ⊥
  no_default k r s small is =
      let t = word_alike (decimal k) (codes "default") (58 ∷ r) (58 ∷ s) (number_is_name k small) refl refl refl is in
      let d : AllDigits 10 (codes "default") = subst (AllDigits 10) t.0 (decimal_is_IsNumeral k small).0.1 in
      omega (arith, d.0)

  cases_alike : (k : ℕ) (xs ys r s : List ℕ) → k + length xs < 2 ^ 64 → k + length ys < 2 ^ 64 → Fit xs → Fit ys
      → cases_from k xs ++ (case_end name width ++ r) ≡ cases_from k ys ++ (case_end name width ++ s) → (xs ≡ ys) × (r ≡ s)
  cases_alike k [] [] r s p q fit_x fit_y is = (refl, append_cancel_left (case_end name width) r s is)
  cases_alike k [] (y ∷ ys) r s p q fit_x fit_y is =
      absurd (no_default k _ _ (omega (arith, q)) (sym (sym (end_before name width r) ∙ is ∙ cases_more k y ys (case_end name width ++ s))))
  cases_alike k (x ∷ xs) [] r s p q fit_x fit_y is =
      absurd (no_default k _ _ (omega (arith, p)) (sym (cases_more k x xs (case_end name width ++ r)) ∙ is ∙ end_before name width s))
  cases_alike k (x ∷ xs) (y ∷ ys) r s p q fit_x fit_y is =
      let at = append_cancel_left (decimal k) _ _ (sym (cases_more k x xs (case_end name width ++ r)) ∙ is ∙ cases_more k y ys (case_end name width ++ s)) in
      let named = append_cancel_left name _ _ (ap (drop 2) at) in
      let wide = append_cancel_left (decimal width) _ _ (ap (drop 3) named) in
      let word = bits_alike width x y _ _ (ltb-true x (2 ^ width) fit_x.0) (ltb-true y (2 ^ width) fit_y.0) (ap (drop 2) wide) in
      let t = cases_alike (k + 1) xs ys r s (omega (arith, p)) (omega (arith, q)) fit_x.1 fit_y.1 (ap (drop 2) word.1) in
      (ap₂ (λ h t. h ∷ t) word.0 t.0, t.1)

-- the text of such a memory
abbrev pub function_of : (name : List ℕ) → (width : ℕ) → (words : List ℕ) → List ℕ
function_of name width words =
    case_start name width ++ (flat_map (λ x. case_line name width x.0 x.1) (enumerate_from 0 words) ++ case_end name width)

-- its text before another, from its width on
pub function_text_before : (name : List ℕ) (width : ℕ) (words r : List ℕ) → function_of name width words ++ r
    ≡ codes "function " ++ (range width ++ (name ++ (59 ∷ 10 ∷ (codes "input " ++ (range 32 ++ (codes "at;\ncase (at)\n"
    ++ (flat_map (λ x. case_line name width x.0 x.1) (enumerate_from 0 words) ++ (case_end name width ++ r))))))))
function_text_before name width words r =
    append_assoc (case_start name width) _ r
    ∙ ap (λ t. case_start name width ++ t) (append_assoc (flat_map (λ x. case_line name width x.0 x.1) (enumerate_from 0 words)) (case_end name width) r)
    ∙ start_before name width _

-- The text of such a memory tells its name, its width and its words.
pub function_alike : (a b : List ℕ) (v w : ℕ) (xs ys r s : List ℕ) → is_name a ≡ true → is_name b ≡ true
    → 0 < v → 0 < w → v < 2 ^ 64 → w < 2 ^ 64 → length xs < 2 ^ 64 → length ys < 2 ^ 64
    → AllByRecursion (λ n. nat_lt n (2 ^ v) ≡ true) xs → AllByRecursion (λ n. nat_lt n (2 ^ w) ≡ true) ys
    → function_of a v xs ++ r ≡ function_of b w ys ++ s → (a ≡ b) × (v ≡ w) × (xs ≡ ys) × (r ≡ s)
function_alike a b v w xs ys r s a_named b_named v_some w_some v_small w_small p q fit_x fit_y is =
    let at = append_cancel_left (codes "function ") _ _ (sym (function_text_before a v xs r) ∙ is ∙ function_text_before b w ys s) in
    let wide = range_alike v w _ _ v_some w_some v_small w_small at in
    let name = word_alike a b _ _ a_named b_named refl refl wide.1 in
    let input = append_cancel_left (range 32) _ _ (append_cancel_left (codes "input ") _ _ (ap (drop 2) name.1)) in
    let lines = append_cancel_left (codes "at;\ncase (at)\n") _ _ input in
    let t = cases_alike a v 0 xs ys r s (omega (arith, p)) (omega (arith, q)) fit_x
    (subst (λ (k : ℕ). AllByRecursion (λ n. nat_lt n (2 ^ k) ≡ true) ys) (sym wide.0) fit_y)
    (lines ∙ sym (ap₂ (λ n k. flat_map (λ x. case_line n k x.0 x.1) (enumerate_from 0 ys) ++ (case_end n k ++ s)) name.0 wide.0)) in
    (name.0, wide.0, t.0, t.1)
