-- Texts that are put piece by piece.
use Rattle.std.proofs.Common.{◌≡◌, ℕ, List, [], ◌++◌, sym, ap, append_assoc, ◌∙◌}
use Rattle.std.proofs.lemmas.List.{append-nil}

-- a text that is put last
pub alone : (old new a : List ℕ) → new ≡ old ++ a → new ≡ old ++ (a ++ [])
alone old new a put = put ∙ ap (λ (t : List ℕ). old ++ t) (sym (append-nil a))

-- a piece of which four end
pub four_ends : (a b c d e : List ℕ) → (((a ++ b) ++ c) ++ d) ++ e ≡ a ++ (b ++ (c ++ (d ++ e)))
four_ends a b c d e = append_assoc ((a ++ b) ++ c) d e ∙ append_assoc (a ++ b) c (d ++ e) ∙ append_assoc a b (c ++ (d ++ e))

-- a piece of which three end
pub three_ends : (a b c d : List ℕ) → ((a ++ b) ++ c) ++ d ≡ a ++ (b ++ (c ++ d))
three_ends a b c d = append_assoc (a ++ b) c d ∙ append_assoc a b (c ++ d)

-- a piece with two within it, of which three end
pub two_end : (a m b c d e : List ℕ) → ((a ++ (m ++ (b ++ c))) ++ d) ++ e ≡ a ++ (m ++ (b ++ (c ++ (d ++ e))))
two_end a m b c d e =
    append_assoc (a ++ (m ++ (b ++ c))) d e ∙ append_assoc a (m ++ (b ++ c)) (d ++ e)
    ∙ ap (λ (t : List ℕ). a ++ t) (append_assoc m (b ++ c) (d ++ e) ∙ ap (λ (t : List ℕ). m ++ t) (append_assoc b c (d ++ e)))
