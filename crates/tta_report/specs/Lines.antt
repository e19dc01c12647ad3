-- What lines say.
use Rattle.std.specs.Prelude.{ℕ, true, false, ◌+◌, ◌==◌, if◌then◌else◌, List, [], ◌∷◌, ◌++◌, map, codes, decimal}
use Rattle.std.specs.List.{flat_map}
use Rattle.tta_report.specs.declared.line.Line.{Line}
use Rattle.tta_report.specs.declared.line.Line.TheVariants as line

-- a line with its end
abbrev pub line_text : Line → List ℕ
line_text (line.Word word) = decimal word ++ codes "\n"
line_text line.Halted = codes "halted\n"
line_text line.Running = codes "running\n"
line_text line.Waiting = codes "waiting\n"
line_text (line.Fault code cycle) = codes "fault " ++ decimal code ++ codes " " ++ decimal cycle ++ codes "\n"
line_text (line.Memory address word) = codes "mem " ++ decimal address ++ codes " " ++ decimal word ++ codes "\n"
line_text (line.Steps count) = codes "steps " ++ decimal count ++ codes "\n"
line_text (line.Cycles count) = codes "cycles " ++ decimal count ++ codes "\n"
line_text (line.Lines count) = codes "lines " ++ decimal count ++ codes "\n"
line_text (line.Words count) = codes "words " ++ decimal count ++ codes "\n"
line_text (line.Outputs count) = codes "outputs " ++ decimal count ++ codes "\n"
line_text (line.Core core) = codes "core " ++ decimal core ++ codes "\n"
line_text (line.Equal true) = codes "equal yes\n"
line_text (line.Equal false) = codes "equal no\n"

-- lines one after another
abbrev pub lines_text : List Line → List ℕ
lines_text lines = flat_map line_text lines

-- a line for each word that is not 0, the first of them at this address
abbrev pub memory_lines : (address : ℕ) → List ℕ → List Line
memory_lines address [] = []
memory_lines address (word ∷ words) =
    if word == 0 then memory_lines (address + 1) words else line.Memory address word ∷ memory_lines (address + 1) words

-- a line for each word that was output
abbrev pub word_lines : List ℕ → List Line
word_lines words = map line.Word words

-- what follows the words of a run: how it ended, the data words that are not 0, and how long it was
abbrev pub report_lines : (outcome : Line) → (memory : List ℕ) → (count : Line) → List Line
report_lines outcome memory count = outcome ∷ (memory_lines 0 memory ++ count ∷ [])

-- what is printed of a core: its number, the words that it has output, and how its last turn ended
abbrev pub core_lines : (core : ℕ) → (words : List ℕ) → (last : Line) → List Line
core_lines core words last = line.Core core ∷ (word_lines words ++ last ∷ [])
