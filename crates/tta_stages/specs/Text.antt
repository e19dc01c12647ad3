-- What is told of the stages of a program.
use Rattle.std.specs.Prelude.{ℕ, List, [], ◌++◌, Option, codes}
use Rattle.std.specs.Option.{option_map_or}
use Rattle.tta_stages.specs.Cited.{Units, Machine, Choice, Program, starts_from}
use Rattle.tta_stages.specs.declared.stages.Stages.{Stages}
use Rattle.tta_stages.specs.ProgramText.{program_text, variables_from}
use Rattle.tta_stages.specs.RegisterText.{register_text}
use Rattle.tta_stages.specs.ListText.{lists_text, code_rows}

-- whether the pair is a direct one: nothing is chosen on its machine
abbrev pub kind_text : Option Choice → List ℕ
kind_text choice = option_map_or (λ c. codes "pair covered\n") choice (codes "pair direct\n")

-- the registers of the machine that are home registers
abbrev pub homes_in : Option Choice → List (ℕ × ℕ)
homes_in choice = option_map_or (λ c. c.homes) choice []

-- All that is told, where the code of the blocks begins at these addresses: the program by its blocks, the homes and intervals
-- of its variables, its register code, the lists of each block from the selected one to the one that is placed, and the code.
unfoldable pub told_text : Units → Machine → Program → Stages → (starts : List ℕ) → List ℕ
told_text u m p s starts =
    kind_text s.choice
    ++ (program_text u p s.lowered.live s.lowered.flow.blocks
    ++ (variables_from m (homes_in s.choice) p s.lowered 0 0 p.procs
    ++ (register_text u m (homes_in s.choice) p starts s.planned.placed.items s.lowered.code.blocks s.lowered.parts.items
    ++ (lists_text u m p s.lowered.parts.items s.planned.trails.items s.planned.selected.items
    ++ code_rows u m p s.lowered.parts.items s.code.words starts s.planned.placed.items))))

-- the same, by the addresses at which the code of the blocks begins
abbrev pub stages_text : Units → Machine → Program → Stages → List ℕ
stages_text u m p s = told_text u m p s (starts_from 0 s.planned.placed.items)
