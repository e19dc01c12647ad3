-- The first of some cores, with the others.
use Rattle.std.proofs.Common.{◌≡◌, ℕ, suc, ◌+◌, ◌-◌, ◌<◌, ◌≤◌, List, [], ◌∷◌, ◌++◌, length, map, take, drop, refl, sym, ap, subst, ◌∙◌, arith}
use Rattle.std.specs.Prelude.{slice_index_or}
use Rattle.std.specs.List.{remove}
use Rattle.tta_ops.specs.Units.{Units}
use Rattle.tta_kahn.specs.declared.cores.Core.{Core}
use Rattle.tta_netlist.specs.Net.{AreSound, core_module, core_modules}

-- a list is its first element and what is left without it
pub first_is : {A : Type 0} (all rest : List A) (x : A) → 0 < length all → x ≡ slice_index_or all 0 x → rest ≡ remove all 0 → all ≡ x ∷ rest
first_is [] rest x some is left = absurd (omega (arith, some))
first_is {A} (y ∷ ys) rest x some is left = ap (λ (z : A). z ∷ ys) (sym is) ∙ ap (λ (zs : List A). x ∷ zs) (sym left)

-- all of a list
whole : {A : Type 0} (xs : List A) → take (length xs) xs ≡ xs
whole [] = refl
whole {A} (x ∷ xs) = ap (λ (l : List A). x ∷ l) (whole xs)

-- a list is its first element and all after it
pub first_then : {A : Type 0} (xs : List A) (x : A) → 1 ≤ length xs → x ≡ slice_index_or xs 0 x → xs ≡ x ∷ take (length xs - 1) (drop 1 xs)
first_then [] x some is = absurd (omega (arith, some))
first_then {A} (y ∷ ys) x some is =
    let count : length (y ∷ ys) - 1 ≡ length ys = omega arith in
    ap (λ (z : A). z ∷ ys) (sym is) ∙ ap (λ (l : List A). x ∷ l) (sym (ap (λ (n : ℕ). take n ys) count ∙ whole ys))

-- there is one more than the others
pub one_more : (all rest : List Core) (c : Core) → all ≡ c ∷ rest → length all ≡ suc (length rest)
one_more all rest c is = ap length is

pub fewer : (all rest : List Core) (c : Core) → all ≡ c ∷ rest → length rest < length all
fewer all rest c is = let e = one_more all rest c is in omega (arith, e)

pub few_others : (k : ℕ) (all rest : List Core) (c : Core) → all ≡ c ∷ rest → k + length all ≤ 255 → k + 1 + length rest ≤ 255
few_others k all rest c is few = let e = one_more all rest c is in omega (arith, e, few)

-- what holds of cores holds of the others, with the words after the first
pub others_sound : {V : Type 0} (f : V → List ℕ) (all rest : List Core) (c : Core) (ms : List V) → all ≡ c ∷ rest → 1 ≤ length ms
    → AreSound all (map f ms) → AreSound rest (map f (take (length ms - 1) (drop 1 ms)))
others_sound f all rest c [] is some sound = absurd (omega (arith, some))
others_sound {V} f all rest c (m ∷ ms) is some sound =
    let split = first_then (m ∷ ms) m some refl in
    (subst (λ (ns : List V). AreSound (c ∷ rest) (map f ns)) split (subst (λ (l : List Core). AreSound l (map f (m ∷ ms))) is sound)).1

-- the text of all is that of the first and that of the others
pub first_text : {V : Type 0} (f : V → List ℕ) (u : Units) (k : ℕ) (all rest : List Core) (c : Core) (ms : List V) (m : V) → all ≡ c ∷ rest
    → 1 ≤ length ms → m ≡ slice_index_or ms 0 m
    → core_module u k c (f m) ++ core_modules u (k + 1) rest (map f (take (length ms - 1) (drop 1 ms))) ≡ core_modules u k all (map f ms)
first_text {V} f u k all rest c ms m is some first =
    ap (λ (ns : List V). core_modules u k (c ∷ rest) (map f ns)) (sym (first_then ms m some first))
    ∙ ap (λ (l : List Core). core_modules u k l (map f ms)) (sym is)

-- without words there is no text
pub no_text : {V : Type 0} (f : V → List ℕ) (u : Units) (k : ℕ) (all : List Core) (ms : List V) → length ms < 1 → core_modules u k all (map f ms) ≡ []
no_text f u k [] [] none = refl
no_text f u k (c ∷ cs) [] none = refl
no_text f u k all (m ∷ ms) none = absurd (omega (arith, none))

-- a text of the same words
pub put_same : (u : Units) (k : ℕ) (c : Core) (a b old new : List ℕ) → new ≡ old ++ core_module u k c a → a ≡ b → new ≡ old ++ core_module u k c b
put_same u k c a b old new put same = put ∙ ap (λ (l : List ℕ). old ++ core_module u k c l) same
