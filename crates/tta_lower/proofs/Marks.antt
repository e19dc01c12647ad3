-- Marks of home registers, and the registers that are marked.
use Rattle.std.proofs.Common.{◌≡◌, ◌<◌, ◌+◌, ◌-◌, ◌∷◌, ℕ, zero, suc, Bool, true, false, List, filter, length, replicate, refl, sym, ap, ◌∙◌, arith}
use Rattle.std.specs.Prelude.{◌||◌}
use Rattle.std.specs.List.{list_any}
use Rattle.std.proofs.lemmas.List.{get_or-replicate}
use Rattle.std.proofs.Math.Bool.{or-false}
use Rattle.tta_lower.specs.Liveness.{Homes}
use Rattle.tta_lower.specs.Lower.{numbers}
use Rattle.tta_lower.specs.Tables.{marked}
use Rattle.tta_lower.specs.Laid.{is_kept_by, kept_one, kept_by}
use Rattle.tta_lower.proofs.Counted.{numbers-more}

-- at first nothing is marked
pub unmarked : (n k : ℕ) (marks : List Bool) → marks ≡ replicate n false → k < n → marked marks k ≡ false
unmarked n k marks is lt = ap (λ l. marked l k) is ∙ get_or-replicate n k false false lt

-- some variables are still to be marked
abbrev pub IsMarkedTo : Homes → (vars owner : ℕ) → (test : ℕ → Bool) → (x : ℕ) → (marks : List Bool) → Type 0
IsMarkedTo home vars owner test x marks = (k : ℕ) → k < length marks
    → (marked marks k || list_any (is_kept_by home owner test k) (numbers x (vars - x))) ≡ kept_one home vars owner test k

-- three tests in turn
or_more : (a b c : Bool) → ((a || b) || c) ≡ (a || (b || c))
or_more true b c = refl
or_more false b c = refl

-- false or a test
or_front : (a b : Bool) → a ≡ false → (a || b) ≡ b
or_front true b is = cc
or_front false b is = refl

-- nothing is marked yet
pub marked_none : (home : Homes) (vars owner : ℕ) (test : ℕ → Bool) (marks : List Bool) → ((k : ℕ) → k < length marks → marked marks k ≡ false)
    → IsMarkedTo home vars owner test 0 marks
marked_none home vars owner test marks none k lt =
    let z : vars - 0 ≡ vars = omega arith in
    rw z (or_front (marked marks k) (kept_one home vars owner test k) (none k lt))

-- one variable more is marked
pub marked_more : (home : Homes) (vars owner : ℕ) (test : ℕ → Bool) (x : ℕ) (marks made : List Bool) → x < vars → length made ≡ length marks
    → ((k : ℕ) → k < length marks → marked made k ≡ (marked marks k || is_kept_by home owner test k x))
    → IsMarkedTo home vars owner test x marks → IsMarkedTo home vars owner test (x + 1) made
marked_more home vars owner test x marks made lt size more to k small =
    let low : k < length marks = omega (arith, small, size) in
    ap (λ b. b || list_any (is_kept_by home owner test k) (numbers (x + 1) (vars - (x + 1)))) (more k low)
    ∙ or_more (marked marks k) (is_kept_by home owner test k x) (list_any (is_kept_by home owner test k) (numbers (x + 1) (vars - (x + 1))))
    ∙ ap (λ l. marked marks k || list_any (is_kept_by home owner test k) l) (sym (numbers-more x vars lt))
    ∙ to k low

-- all variables are marked
pub marked_all : (home : Homes) (vars owner : ℕ) (test : ℕ → Bool) (x : ℕ) (marks : List Bool) → x ≡ vars → IsMarkedTo home vars owner test x marks
    → (k : ℕ) → k < length marks → marked marks k ≡ kept_one home vars owner test k
marked_all home vars owner test x marks end to k lt =
    let none : vars - x ≡ 0 = omega (arith, end) in
    sym (or-false (marked marks k))
    ∙ ap (λ n. marked marks k || list_any (is_kept_by home owner test k) (numbers x n)) (sym none)
    ∙ to k lt

-- the marked registers are those that are kept
filter-same : (f g : ℕ → Bool) (x n : ℕ) → ((k : ℕ) → k < x + n → f k ≡ g k) → filter f (numbers x n) ≡ filter g (numbers x n)
filter-same f g x zero same = refl
filter-same f g x (suc n) same =
    let here = same x (omega arith) in
    let rest = filter-same f g (x + 1) n (λ k lt. same k (omega (arith, lt))) in
    by (g x) here refl rest where
      by : (b : Bool) → f x ≡ g x → g x ≡ b → filter f (numbers (x + 1) n) ≡ filter g (numbers (x + 1) n) → filter f (x ∷ numbers (x + 1) n) ≡ filter g (x ∷ numbers (x + 1) n)
      by true e is rest = let first : f x ≡ true = e ∙ is in rw (first, is) (ap (λ l. x ∷ l) rest)
      by false e is rest = let first : f x ≡ false = e ∙ is in rw (first, is) rest

-- the registers that are marked are those that are kept
pub kept_same : (home : Homes) (vars owner : ℕ) (test : ℕ → Bool) (n : ℕ) (marks : List Bool) (kept : List ℕ) → length marks ≡ n
    → ((k : ℕ) → k < length marks → marked marks k ≡ kept_one home vars owner test k) → kept ≡ filter (marked marks) (numbers 0 (length marks))
    → kept ≡ kept_by home vars n owner test
kept_same home vars owner test n marks kept size all is =
    is ∙ filter-same (marked marks) (kept_one home vars owner test) 0 (length marks) (λ k lt. all k (omega (arith, lt)))
    ∙ ap (λ m. filter (kept_one home vars owner test) (numbers 0 m)) size
