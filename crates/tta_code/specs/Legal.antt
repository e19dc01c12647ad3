-- Which instructions a machine can carry out.
use Rattle.std.specs.Prelude.{◌≡◌, ℕ, ◌≤◌, ◌^◌, ◌==◌, Bool, true, ◌&&◌, nat_lt, map, length, slice_get, is_some, IsTrue, option_map}
use Rattle.std.specs.Option.{option_map_or}
use Rattle.std.specs.List.{AllByRecursion}
use Rattle.tta_code.specs.Cited.{Machine, Ends, Slots, can_move}
use Rattle.tta_code.specs.declared.code.Move.{Move}
use Rattle.tta_code.specs.declared.code.Long.{Long}
use Rattle.tta_code.specs.declared.code.Instruction.{Instruction}
use Rattle.tta_code.specs.declared.code.Code.{Code}
use Rattle.tta_code.specs.Whole.{Whole, rises, fits}

-- a move with its guard and ends
abbrev pub ends_of : Move → Ends
ends_of v = record { guard = v.guard; src = v.src; dst = v.dst }

-- the moves of an instruction by their buses
abbrev pub slots_of : Instruction → Slots
slots_of i = map (option_map ends_of) i.moves

-- the buses that an instruction's template takes
abbrev pub taken : Machine → Instruction → ℕ
taken m i = option_map_or (λ l. option_map_or (λ t. t.buses) (slice_get m.templates l.template) 0) i.long 0

-- a long immediate of a machine: a template that there is, and a word
abbrev pub is_long : Machine → Long → Bool
is_long m l = is_some (slice_get m.templates l.template) && nat_lt l.value (2 ^ 32)

-- an instruction of a machine: an entry for each bus, and a long immediate of the machine if any
abbrev pub is_instruction : Machine → Instruction → Bool
is_instruction m i = length i.moves == length m.buses && option_map_or (is_long m) i.long true

-- an instruction that a machine can carry out
unfoldable pub is_legal : Machine → Instruction → Bool
is_legal m i = is_instruction m i && can_move m (taken m i) (slots_of i)

-- code that a machine can carry out: legal instructions, no more than it has addresses
pub record IsLegalCode (m : Machine) (code : Code) : Type 0 where
  pub words : AllByRecursion (λ i. IsTrue (is_legal m i)) code.words
  pub room : length code.words ≤ 2 ^ m.control.address

-- code that a machine can carry out, with data whose addresses ascend in its data space
pub record IsLegalWhole (m : Machine) (whole : Whole) : Type 0 where
  pub code : IsLegalCode m whole.code
  pub rises : rises whole.init ≡ true
  pub fits : fits m.data_words whole.init ≡ true
