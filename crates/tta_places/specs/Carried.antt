-- The words that the moves of the next instruction carry.
use Rattle.std.specs.Prelude.{ℕ, if◌then◌else◌, List, [], Option, None, slice_get, option_and_then}
use Rattle.std.specs.Option.{option_map_or}
use Rattle.tta_places.specs.Cited.{moved, Move, Instruction, State, read_source, effect_of, is_halted}

-- the instruction that a state comes to: none where the run has halted
abbrev pub coming : List Instruction → State → Option Instruction
coming words s = if is_halted s.outcome then None else slice_get words s.pc

-- its slots
abbrev pub slots_of : Option Instruction → List (Option Move)
slots_of coming = option_map_or (λ i. i.moves) coming []

-- the word that the move of a slot carries, if it acts
abbrev pub carried : State → Option Move → Option ℕ
carried s slot = option_and_then (λ v. moved (read_source s) (effect_of v)) slot
