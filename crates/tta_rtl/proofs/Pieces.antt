-- Texts written one after another.
use Rattle.std.proofs.Common.{◌≡◌, ◌++◌, ℕ, List, ap, refl, sym, ◌∙◌, append_assoc}

-- a text of two pieces
pub two : (old a b all x : List ℕ) → x ≡ old ++ a → all ≡ a ++ b → x ++ b ≡ old ++ all
two old a b all x first is =
    ap (λ (r : List ℕ). r ++ b) first ∙ append_assoc old a b ∙ ap (λ (r : List ℕ). old ++ r) (sym is)

-- a text of three
pub three : (old a b d all x y : List ℕ) → x ≡ old ++ a → y ≡ x ++ b → all ≡ a ++ (b ++ d) → y ++ d ≡ old ++ all
three old a b d all x y first second is =
    two old (a ++ b) d all y (second ∙ ap (λ (r : List ℕ). r ++ b) first ∙ append_assoc old a b) (is ∙ sym (append_assoc a b d))

-- a text of five
pub five : (old a b d e f all x y z v : List ℕ) → x ≡ old ++ a → y ≡ x ++ b → z ≡ y ++ d → v ≡ z ++ e
    → all ≡ a ++ (b ++ (d ++ (e ++ f))) → v ++ f ≡ old ++ all
five old a b d e f all x y z v first second third fourth is =
    three y d e f (d ++ (e ++ f)) z v third fourth refl
    ∙ three old a b (d ++ (e ++ f)) all x y first second is
