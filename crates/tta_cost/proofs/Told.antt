-- What is told does not depend on the words of memories, but on how many there are.
use Rattle.std.proofs.Common.{◌≡◌, ℕ, ◌*◌, List, [], ◌++◌, codes, length, replicate, ap, ◌∙◌, append_assoc, append-nil, sym}
use Rattle.std.proofs.lemmas.List.{length-replicate}
use Rattle.tta_cost.specs.Cited.{Units, Machine, circuit_with, word_width}
use Rattle.tta_cost.specs.Operations.{operation_depths}
use Rattle.tta_cost.specs.Tally.{parts_of}
use Rattle.tta_cost.specs.CostText.{circuit_text, cost_text, machine_text, memory_text, memories_text, parts_text, spaces_text, table_text, told_text}

-- a piece after two others
pub three : (old a b c first second : List ℕ) → first ≡ old ++ a → second ≡ first ++ b → second ++ c ≡ old ++ (a ++ (b ++ c))
three old a b c first second is_first is_second =
    ap (λ (l : List ℕ). l ++ c) (is_second ∙ ap (λ (l : List ℕ). l ++ b) is_first) ∙ append_assoc (old ++ a) b c ∙ append_assoc old a (b ++ c)

module _ (m : Machine) (words memory : List ℕ) (n : ℕ) (many : length words ≡ n) (full : length memory ≡ m.data_words) where
  zeros : List ℕ
  zeros = replicate m.frame_words 0

  memories : memories_text (circuit_with m words memory).memories ≡ spaces_text m n
  unfolding spaces_text zeros
  memories =
      ap (λ (k : ℕ). memory_text (codes "code") (word_width m * k)
      ++ (memory_text (codes "data") (32 * length memory)
      ++ (memory_text (codes "frame") (32 * length zeros) ++ []))) many
      ∙ ap (λ (k : ℕ). memory_text (codes "code") (word_width m * n) ++ (memory_text (codes "data") (32 * k)
      ++ (memory_text (codes "frame") (32 * length zeros) ++ []))) full
      ∙ ap (λ (k : ℕ). memory_text (codes "code") (word_width m * n) ++ (memory_text (codes "data") (32 * m.data_words)
      ++ (memory_text (codes "frame") (32 * k) ++ []))) (length-replicate m.frame_words 0)
      ∙ ap (λ (l : List ℕ). memory_text (codes "code") (word_width m * n) ++ (memory_text (codes "data") (32 * m.data_words) ++ l))
      (append-nil (memory_text (codes "frame") (32 * m.frame_words)))

  pub told : (u : Units) → told_text (operation_depths u) m n ≡ cost_text u m (circuit_with m words memory)
  unfolding told_text circuit_text cost_text
  told u =
      ap (λ (l : List ℕ). machine_text m ++ (l ++ (parts_text (parts_of (operation_depths u) m (circuit_with m words memory)) ++ table_text)))
      (sym memories)
