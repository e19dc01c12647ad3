-- Many steps are some and then the others, and a state that a step leaves as it is stays.
use Rattle.std.proofs.Common.{◌≡◌, ◌≤◌, ◌+◌, ◌-◌, ℕ, zero, suc, ap, refl, ◌∙◌, arith}
use Rattle.tta_list.specs.Iterate.{iterate}

-- so many steps and then more
pub iterate-add : {S : Type 0} (m n : ℕ) (f : S → S) (s : S) → iterate (m + n) f s ≡ iterate n f (iterate m f s)
iterate-add m zero f s = ap (λ k. iterate k f s) (let e : m + zero ≡ m = omega arith in e)
iterate-add m (suc n) f s = ap (λ k. iterate k f s) (let e : m + suc n ≡ suc (m + n) = omega arith in e) ∙ ap f (iterate-add m n f s)

-- the same with those that come last named first
pub iterate-more : {S : Type 0} (m n : ℕ) (f : S → S) (s : S) → iterate (m + n) f s ≡ iterate m f (iterate n f s)
iterate-more m n f s = ap (λ k. iterate k f s) (let e : m + n ≡ n + m = omega arith in e) ∙ iterate-add n m f s

-- a state that is its own next one stays
pub iterate-still : {S : Type 0} → (next : S → S) (n : ℕ) (s : S) → next s ≡ s → iterate n next s ≡ s
iterate-still next zero s is = refl
iterate-still next (suc n) s is = ap next (iterate-still next n s is) ∙ is

-- a state that stays is the one after more steps
pub iterate-later : {S : Type 0} → (next : S → S) (m n : ℕ) (s : S) → m ≤ n → next (iterate m next s) ≡ iterate m next s
    → iterate n next s ≡ iterate m next s
iterate-later next m n s le still =
    let e : n ≡ m + (n - m) = omega (arith, le) in
    ap (λ k. iterate k next s) e ∙ iterate-add m (n - m) next s ∙ iterate-still next (n - m) (iterate m next s) still
