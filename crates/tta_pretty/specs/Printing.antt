-- How a line is put together, word by word.
use Rattle.std.specs.Prelude.{ℕ, List, [], ◌∷◌, ◌++◌}
use Rattle.std.specs.List.{flat_map}
use Rattle.tta_pretty.specs.Cited.{Line, Units, Proc}
use Rattle.tta_pretty.specs.Printed.{Words, line_text, proc_line, step_lines}

-- words with a blank before each
abbrev pub spaced_after : Line → List ℕ
spaced_after [] = []
spaced_after (w ∷ ws) = 32 ∷ (w.text ++ spaced_after ws)

-- the text of a procedure
abbrev pub proc_text : Units → (main k : ℕ) → Proc → List ℕ
proc_text u main k q = line_text (Words (proc_line main k q.params)) ++ flat_map line_text (step_lines u main q.steps 0 q.steps)
