-- Texts of lists.
use Rattle.std.proofs.Common.{◌≡◌, ◌++◌, ◌∷◌, [], ℕ, List, map, refl, sym, ap, ◌∙◌}
use Rattle.std.specs.List.{flat_map}
use Rattle.tta_trap_rtl.proofs.Wires.{by_each}

-- texts of what is made of elements, one element after another
pub each_by : {A B : Type 0} (g : B → List ℕ) (f : A → B) (line : A → List ℕ) → ((x : A) → g (f x) ≡ line x) → (xs : List A)
    → flat_map g (map f xs) ≡ flat_map line xs
each_by g f line is [] = refl
each_by g f line is (x ∷ xs) =
    ap (λ (t : List ℕ). t ++ flat_map g (map f xs)) (is x) ∙ ap (λ (t : List ℕ). line x ++ t) (each_by g f line is xs)

-- texts of two lists that are made of each element, and have one text
pub by_both : {A B C : Type 0} (g : B → List ℕ) (h : C → List ℕ) (f : A → List B) (k : A → List C)
    → ((x : A) → flat_map g (f x) ≡ flat_map h (k x)) → (xs : List A) → flat_map g (flat_map f xs) ≡ flat_map h (flat_map k xs)
by_both g h f k is xs =
    by_each g f (λ x. flat_map h (k x)) is xs ∙ sym (by_each h k (λ x. flat_map h (k x)) (λ x. refl) xs)
