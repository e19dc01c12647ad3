-- The text of a report, part by part.
use Rattle.std.proofs.Common.{◌≡◌, ℕ, List, [], ◌∷◌, ◌++◌, ap, ◌∙◌, append-nil}
use Rattle.std.proofs.lemmas.List.{map-append}
use Rattle.std.proofs.lemmas.Grind.{flat_map-append}
use Rattle.tta_report.specs.declared.line.Line.{Line}
use Rattle.tta_report.specs.declared.line.Line.TheVariants as line
use Rattle.tta_report.specs.Lines.{line_text, lines_text, memory_lines, report_lines, word_lines, core_lines}

-- how a run ended, then its data words, then how long it was
pub report_text : (outcome : Line) (memory : List ℕ) (count : Line)
    → lines_text (report_lines outcome memory count)
    ≡ line_text outcome ++ (lines_text (memory_lines 0 memory) ++ line_text count)
report_text outcome memory count =
    ap (λ l. line_text outcome ++ l)
    (flat_map-append line_text (memory_lines 0 memory) (count ∷ []) ∙ ap (λ l. lines_text (memory_lines 0 memory) ++ l) (append-nil (line_text count)))

-- the number of a core, then its words, then how its last turn ended
pub core_text : (core : ℕ) (words : List ℕ) (last : Line)
    → lines_text (core_lines core words last) ≡ line_text (line.Core core) ++ (lines_text (word_lines words) ++ line_text last)
core_text core words last =
    ap (λ l. line_text (line.Core core) ++ l)
    (flat_map-append line_text (word_lines words) (last ∷ []) ∙ ap (λ l. lines_text (word_lines words) ++ l) (append-nil (line_text last)))

-- the lines of some words and then of others
pub lines_of_both : (xs ys : List ℕ) → lines_text (word_lines (xs ++ ys)) ≡ lines_text (word_lines xs) ++ lines_text (word_lines ys)
lines_of_both xs ys = ap lines_text (map-append line.Word xs ys) ∙ flat_map-append line_text (word_lines xs) (word_lines ys)
