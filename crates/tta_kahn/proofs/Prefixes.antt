-- Lists that begin others.
use Rattle.std.proofs.Common.{◌≡◌, inl, inr, ⊎_elim, ℕ, List, [], ◌∷◌, ◌++◌, refl, sym, ap, ◌∙◌}
use Rattle.tta_kahn.specs.Cited.{IsPrefixOf}
use Rattle.tta_kahn.specs.Network.{AreComparable}

-- of two lists that begin one, one begins the other
pub prefixes_meet : (xs ys zs : List ℕ) → IsPrefixOf xs zs → IsPrefixOf ys zs → AreComparable xs ys
prefixes_meet [] ys zs p q = inl (ys, refl)
prefixes_meet (x ∷ xs) [] zs p q = inr (x ∷ xs, refl)
prefixes_meet (x ∷ xs) (y ∷ ys) zs p q =
    let both : x ∷ (xs ++ p.0) ≡ y ∷ (ys ++ q.0) = sym p.1 ∙ q.1 in
    let first : x ≡ y = cc in
    let others : xs ++ p.0 ≡ ys ++ q.0 = cc in
    ⊎_elim
    (λ h. inl (h.0, sym (ap (λ (n : ℕ). n ∷ ys) first) ∙ ap (λ (l : List ℕ). x ∷ l) h.1))
    (λ h. inr (h.0, ap (λ (n : ℕ). n ∷ xs) first ∙ ap (λ (l : List ℕ). y ∷ l) h.1))
    (prefixes_meet xs ys (xs ++ p.0) (p.0, refl) (q.0, others))

-- two lists that begin each other are one
pub prefixes_same : (xs ys : List ℕ) → IsPrefixOf xs ys → IsPrefixOf ys xs → xs ≡ ys
prefixes_same [] [] p q = refl
prefixes_same [] (y ∷ ys) p q = absurd (let e : [] ≡ y ∷ (ys ++ q.0) = q.1 in cc)
prefixes_same (x ∷ xs) [] p q = absurd (let e : [] ≡ x ∷ (xs ++ p.0) = p.1 in cc)
prefixes_same (x ∷ xs) (y ∷ ys) p q =
    let e : y ∷ ys ≡ x ∷ (xs ++ p.0) = p.1 in
    let f : x ∷ xs ≡ y ∷ (ys ++ q.0) = q.1 in
    let first : x ≡ y = cc in
    let one : ys ≡ xs ++ p.0 = cc in
    let two : xs ≡ ys ++ q.0 = cc in
    ap (λ (n : ℕ). n ∷ xs) first ∙ ap (λ (l : List ℕ). y ∷ l) (prefixes_same xs ys (p.0, one) (q.0, two))
