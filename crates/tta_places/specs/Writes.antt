-- What an instruction writes, slot by slot.
use Rattle.std.specs.Prelude.{ℕ, ◌+◌, List, [], ◌++◌, Option, Some, option_to_list, option_and_then, slice_get}
use Rattle.std.specs.Option.{option_map_or}
use Rattle.std.specs.List.{flat_map}
use Rattle.tta_places.specs.Cited.{Machine, Written, KeptImm, target_of, write_of, Move, Long, Instruction, Code, State}
use Rattle.tta_places.specs.Carried.{coming, carried}

-- what the move of a slot writes where it carries a word
abbrev pub slot_writes : Machine → (back : ℕ) → Option Move → (word : Option ℕ) → Written
slot_writes m back slot word =
    option_to_list (option_and_then (λ v. option_and_then (λ w. write_of m back (target_of v.dst, w)) word) slot)

-- what the moves of slots write in a state
abbrev pub moves_write : Machine → (back : ℕ) → State → List (Option Move) → Written
moves_write m back s slots = flat_map (λ slot. slot_writes m back slot (carried s slot)) slots

-- what a long immediate writes
abbrev pub long_writes : Machine → Option Long → Written
long_writes m long =
    option_to_list (option_and_then (λ l. option_and_then (λ t. Some (KeptImm t.imm t.reg, l.value)) (slice_get m.templates l.template)) long)

-- what an instruction writes in a state
abbrev pub writes_in : Machine → (back : ℕ) → State → Instruction → Written
writes_in m back s i = moves_write m back s i.moves ++ long_writes m i.long

-- what the instruction that a state comes to writes, the address to come back to included
abbrev pub cycle_writes : Machine → Code → State → Written
cycle_writes m code s = option_map_or (writes_in m (s.pc + 1 + m.control.delay) s) (coming code.words s) []
