-- Texts of lists, which are told item by item.
use Rattle.std.proofs.Common.{◌≡◌, ◌+◌, ◌-◌, ◌<◌, List, [], ◌∷◌, ◌++◌, ℕ, zero, suc, sym, ap, ap₂, ◌∙◌, append_assoc, refl, arith}
use Rattle.std.specs.List.{flat_map, range_with_len, AllByRecursion}

-- two lists of one length, whose items are alike one by one
abbrev pub Paired : {X : Type 0} → (X → X → Type 0) → List X → List X → Type 0
Paired like [] [] = Unit {0}
Paired like [] (y ∷ ys) = ⊥
Paired like (x ∷ xs) [] = ⊥
Paired like (x ∷ xs) (y ∷ ys) = like x y × Paired like xs ys

-- what holds of each item both by one rule and by another
pub all_and : {X : Type 0} (P Q : X → Type 0) (xs : List X) → AllByRecursion P xs → AllByRecursion Q xs → AllByRecursion (λ x. P x × Q x) xs
all_and P Q [] p q = tt
all_and P Q (x ∷ xs) p q = ((p.0, q.0), all_and P Q xs p.1 q.1)

-- lists that are alike in a way by which items are one
pub one_list : {X : Type 0} (like : X → X → Type 0) (P Q : X → Type 0) → ((x y : X) → like x y → P x → Q y → x ≡ y) → (xs ys : List X)
    → Paired like xs ys → AllByRecursion P xs → AllByRecursion Q ys → xs ≡ ys
one_list like P Q one [] [] are p q = refl
one_list like P Q one [] (y ∷ ys) are p q = absurd are
one_list like P Q one (x ∷ xs) [] are p q = absurd are
one_list like P Q one (x ∷ xs) (y ∷ ys) are p q =
    ap₂ (λ h t. h ∷ t) (one x y are.0 p.0 q.0) (one_list like P Q one xs ys are.1 p.1 q.1)

module _ {X : Type 0} (f : X → List ℕ) (P Q : X → Type 0) where
  -- an item's text before those of the others
  more : (x : X) (xs : List X) (r : List ℕ) → flat_map f (x ∷ xs) ++ r ≡ f x ++ (flat_map f xs ++ r)
  more x xs r = append_assoc (f x) (flat_map f xs) r

  -- Texts of lists tell lists that are alike, where the text of an item tells it, and what follows begins as no item does.
  pub each_alike : (like : X → X → Type 0) → ((x y : X) (r s : List ℕ) → P x → Q y → f x ++ r ≡ f y ++ s → like x y × (r ≡ s))
      → (r s : List ℕ) → ((x : X) (t : List ℕ) → P x → f x ++ t ≡ s → ⊥) → ((y : X) (t : List ℕ) → Q y → f y ++ t ≡ r → ⊥)
      → (xs ys : List X) → AllByRecursion P xs → AllByRecursion Q ys → flat_map f xs ++ r ≡ flat_map f ys ++ s → Paired like xs ys × (r ≡ s)
  each_alike like one r s ends_s ends_r [] [] p q is = (tt, is)
  each_alike like one r s ends_s ends_r [] (y ∷ ys) p q is = absurd (ends_r y (flat_map f ys ++ s) q.0 (sym (is ∙ more y ys s)))
  each_alike like one r s ends_s ends_r (x ∷ xs) [] p q is = absurd (ends_s x (flat_map f xs ++ r) p.0 (sym (more x xs r) ∙ is))
  each_alike like one r s ends_s ends_r (x ∷ xs) (y ∷ ys) p q is =
      let h = one x y (flat_map f xs ++ r) (flat_map f ys ++ s) p.0 q.0 (sym (more x xs r) ∙ is ∙ more y ys s) in
      let t = each_alike like one r s ends_s ends_r xs ys p.1 q.1 h.1 in
      ((h.0, t.0), t.1)

  -- The same of lists of which one thing is known, and another is told.
  pub each_along : (known like : X → X → Type 0)
      → ((x y : X) (r s : List ℕ) → known x y → P x → Q y → f x ++ r ≡ f y ++ s → like x y × (r ≡ s))
      → (r s : List ℕ) (xs ys : List X) → Paired known xs ys → AllByRecursion P xs → AllByRecursion Q ys
      → flat_map f xs ++ r ≡ flat_map f ys ++ s → Paired like xs ys × (r ≡ s)
  each_along known like one r s [] [] are p q is = (tt, is)
  each_along known like one r s [] (y ∷ ys) are p q is = absurd are
  each_along known like one r s (x ∷ xs) [] are p q is = absurd are
  each_along known like one r s (x ∷ xs) (y ∷ ys) are p q is =
      let h = one x y (flat_map f xs ++ r) (flat_map f ys ++ s) are.0 p.0 q.0 (sym (more x xs r) ∙ is ∙ more y ys s) in
      let t = each_along known like one r s xs ys are.1 p.1 q.1 h.1 in
      ((h.0, t.0), t.1)

-- lists that are alike in two ways
pub paired_and : {X : Type 0} (A B : X → X → Type 0) (xs ys : List X) → Paired A xs ys → Paired B xs ys → Paired (λ x y. A x y × B x y) xs ys
paired_and A B [] [] a b = tt
paired_and A B [] (y ∷ ys) a b = absurd a
paired_and A B (x ∷ xs) [] a b = absurd a
paired_and A B (x ∷ xs) (y ∷ ys) a b = ((a.0, b.0), paired_and A B xs ys a.1 b.1)

-- texts of numbers: that of the first, and those after it
pub one_more : (f : ℕ → List ℕ) (a n : ℕ) → 0 < n → flat_map f (range_with_len a n) ≡ f a ++ flat_map f (range_with_len (a + 1) (n - 1))
one_more f a zero some = absurd (omega arith)
one_more f a (suc n) some =
    let e : suc n - 1 ≡ n = omega arith in
    ap (λ (k : ℕ). f a ++ flat_map f (range_with_len (a + 1) k)) (sym e)
