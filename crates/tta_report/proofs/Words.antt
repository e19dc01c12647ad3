-- Lines one by one, and those of a memory word by word.
use Rattle.std.proofs.Common.{◌≡◌, ◌<◌, ℕ, ◌+◌, ◌==◌, Bool, true, false, if◌then◌else◌, List, [], ◌∷◌, ◌++◌, length, drop, slice_index, slice_index_or, refl, sym, ap, ◌∙◌, append-nil}
use Rattle.std.proofs.lemmas.List.{drop_more}
use Rattle.tta_report.specs.declared.line.Line.TheVariants as line
use Rattle.tta_report.specs.declared.line.Line.{Line}
use Rattle.tta_report.specs.Lines.{line_text, lines_text, memory_lines, word_lines}

-- the line of the first word, if it has one, and then the others
pub first_word : (address word : ℕ) (words : List ℕ)
    → lines_text (memory_lines address (word ∷ words)) ≡ lines_text (memory_lines address (word ∷ [])) ++ lines_text (memory_lines (address + 1) words)
first_word address word words = parts (word == 0) where
  rest : List Line
  rest = memory_lines (address + 1) words

  it : Line
  it = line.Memory address word

  parts : (none : Bool) → lines_text (if none then rest else it ∷ rest) ≡ lines_text (if none then [] else it ∷ []) ++ lines_text rest
  parts true = refl
  parts false = ap (λ l. l ++ lines_text rest) (sym (append-nil (line_text it)))

-- the lines from a word on, the first of them at this address
pub word_at : (words : List ℕ) (address k : ℕ) → k < length words
    → lines_text (memory_lines address (drop k words))
    ≡ lines_text (memory_lines address (slice_index words k ∷ [])) ++ lines_text (memory_lines (address + 1) (drop (k + 1) words))
word_at words address k below =
    ap (λ l. lines_text (memory_lines address l)) (drop_more words k 0 below) ∙ first_word address (slice_index words k) (drop (k + 1) words)

-- the text of the lines from one on: its own, and that of the others
pub line_at : (lines : List Line) (other : Line) (k : ℕ) → k < length lines
    → lines_text (drop k lines) ≡ line_text (slice_index_or lines k other) ++ lines_text (drop (k + 1) lines)
line_at lines other k below = ap lines_text (drop_more lines k other below)

-- the text of the words from one on: its own line, and those of the others
pub output_at : (words : List ℕ) (k : ℕ) → k < length words
    → lines_text (word_lines (drop k words)) ≡ line_text (line.Word (slice_index words k)) ++ lines_text (word_lines (drop (k + 1) words))
output_at words k below = ap (λ l. lines_text (word_lines l)) (drop_more words k 0 below)
