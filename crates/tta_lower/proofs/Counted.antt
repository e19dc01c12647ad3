-- Numbers that are walked one by one.
use Rattle.std.proofs.Common.{◌≡◌, ◌<◌, ◌+◌, ◌-◌, ◌++◌, ◌∷◌, [], ℕ, suc, Bool, true, false, List, filter, refl, sym, ap, ◌∙◌, arith, append_assoc}
use Rattle.std.specs.Prelude.{if◌then◌else◌}
use Rattle.std.specs.List.{list_any}
use Rattle.tta_lower.specs.Lower.{numbers}

-- the first of some numbers
pub numbers-more : (x n : ℕ) → x < n → numbers x (n - x) ≡ x ∷ numbers (x + 1) (n - (x + 1))
numbers-more x n lt = let e : n - x ≡ suc (n - (x + 1)) = omega (arith, lt) in rw e refl

-- a number that does not pass
pub any_skip : (f : ℕ → Bool) (x n : ℕ) → x < n → f x ≡ false → list_any f (numbers x (n - x)) ≡ list_any f (numbers (x + 1) (n - (x + 1)))
any_skip f x n lt is = rw (numbers-more x n lt, is) refl

-- a number that passes
pub any_here : (f : ℕ → Bool) (x n : ℕ) → x < n → f x ≡ true → list_any f (numbers x (n - x)) ≡ true
any_here f x n lt is = rw (numbers-more x n lt, is) refl

-- one value before those that pass
filter-by : (g : ℕ → Bool) (b : Bool) (x : ℕ) (xs : List ℕ) → g x ≡ b → filter g (x ∷ xs) ≡ (if b then x ∷ [] else []) ++ filter g xs
filter-by g true x xs is = rw is refl
filter-by g false x xs is = rw is refl

-- one number more
pub filter_more : (g : ℕ → Bool) (b : Bool) (x n : ℕ) (prefix made : List ℕ) → x < n → b ≡ g x → made ≡ prefix ++ (if b then x ∷ [] else [])
    → made ++ filter g (numbers (x + 1) (n - (x + 1))) ≡ prefix ++ filter g (numbers x (n - x))
filter_more g b x n prefix made lt read is =
    ap (λ l. l ++ filter g (numbers (x + 1) (n - (x + 1)))) is
    ∙ append_assoc prefix (if b then x ∷ [] else []) (filter g (numbers (x + 1) (n - (x + 1))))
    ∙ ap (λ l. prefix ++ l) (sym (ap (filter g) (numbers-more x n lt) ∙ filter-by g b x (numbers (x + 1) (n - (x + 1))) (sym read)))
