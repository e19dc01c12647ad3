-- What tests over lists come to.
use Rattle.std.proofs.Common.{◌≡◌, ℕ, zero, suc, ◌+◌, ◌<◌, ◌≤◌, ◌==◌, Bool, true, false, not, ◌&&◌, ◌||◌, List, [], ◌∷◌, map, filter, slice_get, Option, Some, None, refl, sym, ap, ◌∙◌, arith}
use Rattle.std.specs.Prelude.{is_some, is_none, if◌then◌else◌}
use Rattle.std.specs.Option.{option_or}
use Rattle.std.specs.List.{list_any, find, range_with_len, enumerate_from}
use Rattle.std.proofs.lemmas.Option.{none-some, same_Some}
use Rattle.std.proofs.lemmas.Bool.{or_parts, or_left, or_right, eqb-true}
use Rattle.tta_hardware.specs.Cited.{Units, Expr, is_set, value}
use Rattle.tta_hardware.specs.Chains.{any_of}
use Rattle.tta_hardware.proofs.Chained.{set_bit}

-- ---- tests

pub or_none : (b : Bool) → (b || false) ≡ b
or_none true = refl
or_none false = refl

-- there is one of two where there is the first or the second
pub some_or : {A : Type 0} (a b : Option A) → is_some (option_or a b) ≡ (is_some a || is_some b)
some_or None b = refl
some_or (Some x) b = refl

-- there is none where there is not one
pub not_some : {A : Type 0} (o : Option A) → not (is_some o) ≡ is_none o
not_some None = refl
not_some (Some x) = refl

-- ---- lists

-- one of some tests holds
pub any_set : {N M A : Type 0} (u : Units) (ms : M → List ℕ) (env : N → ℕ) (f : A → Expr N M) (xs : List A)
    → is_set (value u ms env (any_of (map f xs))) ≡ list_any (λ x. is_set (value u ms env (f x))) xs
any_set u ms env f [] = refl
any_set u ms env f (x ∷ xs) =
    set_bit (is_set (value u ms env (f x)) || is_set (value u ms env (any_of (map f xs))))
    ∙ ap (λ b. is_set (value u ms env (f x)) || b) (any_set u ms env f xs)

-- a test holds of one where one is found
pub any_finds : {A : Type 0} (p : A → Bool) (xs : List A) → list_any p xs ≡ is_some (find p xs)
any_finds p [] = refl
any_finds p (x ∷ xs) = by (p x) (any_finds p xs) where
  by : (b : Bool) → list_any p xs ≡ is_some (find p xs) → (b || list_any p xs) ≡ is_some (if b then Some x else find p xs)
  by true rest = refl
  by false rest = rest

-- tests that are alike of all numbers
pub any_range : (p q : ℕ → Bool) (a n : ℕ) → ((k : ℕ) → a ≤ k → k < a + n → p k ≡ q k) → list_any p (range_with_len a n)
    ≡ list_any q (range_with_len a n)
any_range p q a zero same = refl
any_range p q a (suc n) same =
    ap (λ b. b || list_any p (range_with_len (a + 1) n)) (same a (omega arith) (omega arith))
    ∙ ap (λ b. q a || b) (any_range p q (a + 1) n (λ k least below. same k (omega (arith, least)) (omega (arith, below))))

-- a test of what each element is made into
pub any_made : {A B : Type 0} (q : B → Bool) (f : A → B) (xs : List A) → list_any q (map f xs) ≡ list_any (λ x. q (f x)) xs
any_made q f [] = refl
any_made q f (x ∷ xs) = ap (λ b. q (f x) || b) (any_made q f xs)

-- two tests of which one comes first
pub any_filter : {A : Type 0} (p q r : A → Bool) (xs : List A) → list_any (λ x. q x && r x) (filter p xs)
    ≡ list_any q (filter (λ x. p x && r x) xs)
any_filter p q r [] = refl
any_filter p q r (x ∷ xs) = by (p x) (r x) refl (any_filter p q r xs) where
  kept_too : (c a b : Bool) → a ≡ b → ((c && true) || a) ≡ (c || b)
  kept_too true a b is = refl
  kept_too false a b is = is

  without : (c a b : Bool) → a ≡ b → ((c && false) || a) ≡ b
  without true a b is = is
  without false a b is = is

  by : (b d : Bool) → r x ≡ d → list_any (λ x. q x && r x) (filter p xs) ≡ list_any q (filter (λ x. p x && r x) xs)
      → list_any (λ x. q x && r x) (if b then x ∷ filter p xs else filter p xs)
      ≡ list_any q (if b && d then x ∷ filter (λ x. p x && r x) xs else filter (λ x. p x && r x) xs)
  by false d is rest = rest
  by true true is rest =
      ap (λ c. (q x && c) || list_any (λ x. q x && r x) (filter p xs)) is
      ∙ kept_too (q x) (list_any (λ x. q x && r x) (filter p xs)) (list_any q (filter (λ x. p x && r x) xs)) rest
  by true false is rest =
      ap (λ c. (q x && c) || list_any (λ x. q x && r x) (filter p xs)) is
      ∙ without (q x) (list_any (λ x. q x && r x) (filter p xs)) (list_any q (filter (λ x. p x && r x) xs)) rest

-- ---- one number

-- where no number passes, this one does not
pub none_range : (p : ℕ → Bool) (a n k : ℕ) → a ≤ k → k < a + n → list_any p (range_with_len a n) ≡ false → p k ≡ false
none_range p a zero k least below none = absurd (omega (arith, least, below))
none_range p a (suc n) k least below none =
    let parts = or_parts (p a) (list_any p (range_with_len (a + 1) n)) none in
    by (a == k) refl parts.0 (λ more. none_range p (a + 1) n k more (omega (arith, below)) parts.1)
  where
    by : (b : Bool) → (a == k) ≡ b → p a ≡ false → (a + 1 ≤ k → p k ≡ false) → p k ≡ false
    by true is here rest = let same : a ≡ k = eqb-true a k is in ap p (sym same) ∙ here
    by false is here rest = rest (grind (arith, is, least))

-- where one passes, one does
pub some_range : (p : ℕ → Bool) (a n k : ℕ) → a ≤ k → k < a + n → p k ≡ true → list_any p (range_with_len a n) ≡ true
some_range p a n k least below pass = by (list_any p (range_with_len a n)) refl where
  by : (b : Bool) → list_any p (range_with_len a n) ≡ b → b ≡ true
  by true is = refl
  by false is = sym (none_range p a n k least below is) ∙ pass

-- where each fails, none passes
pub all_fail : (p : ℕ → Bool) (a n : ℕ) → ((k : ℕ) → a ≤ k → k < a + n → p k ≡ false) → list_any p (range_with_len a n) ≡ false
all_fail p a zero fails = refl
all_fail p a (suc n) fails =
    ap (λ b. b || list_any p (range_with_len (a + 1) n)) (fails a (omega arith) (omega arith))
    ∙ all_fail p (a + 1) n (λ k least below. fails k (omega (arith, least)) (omega (arith, below)))

-- an element with its number that passes both tests
pub some_numbered : {A : Type 0} (p q : ℕ × A → Bool) (xs : List A) (j k op : ℕ) (x : A) → j + k ≡ op → slice_get xs k ≡ Some x
    → p (op, x) ≡ true → q (op, x) ≡ true → list_any q (filter p (enumerate_from j xs)) ≡ true
some_numbered p q [] j k op x e at pass pass' = absurd (none-some x at)
some_numbered p q (y ∷ xs) j zero op x e at pass pass' =
    let here : (j, y) ≡ (op, x) = let same : j ≡ op = omega (arith, e) in ap (λ n. (n, y)) same ∙ ap (λ z. (op, z)) (same_Some y x at) in
    ap (λ b. list_any q (if b then (j, y) ∷ filter p (enumerate_from (j + 1) xs) else filter p (enumerate_from (j + 1) xs)))
    (ap p here ∙ pass)
    ∙ or_left (q (j, y)) (list_any q (filter p (enumerate_from (j + 1) xs))) (ap q here ∙ pass')
some_numbered p q (y ∷ xs) j (suc k) op x e at pass pass' =
    by (p (j, y)) (some_numbered p q xs (j + 1) k op x (omega (arith, e)) at pass pass')
  where
    by : (b : Bool) → list_any q (filter p (enumerate_from (j + 1) xs)) ≡ true
        → list_any q (if b then (j, y) ∷ filter p (enumerate_from (j + 1) xs) else filter p (enumerate_from (j + 1) xs)) ≡ true
    by true rest = or_right (q (j, y)) (list_any q (filter p (enumerate_from (j + 1) xs))) rest
    by false rest = rest
