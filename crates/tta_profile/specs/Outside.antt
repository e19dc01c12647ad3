-- How often a run loads and stores at addresses outside its spaces.
use Rattle.std.specs.Prelude.{◌≡◌, ℕ, ◌==◌, Bool, false, nat_le, ◌&&◌, List, length, Option, None, Some, slice_get, slice_index, option_and_then}
use Rattle.std.specs.Option.{option_map_or}
use Rattle.std.specs.List.{count_by, list_any}
use Rattle.tta_profile.specs.Cited.{Op, Ldw, Stw, Ldf, Stf, Out, Take, Set, Machine, Brought, Written, operand_word, start_of, target_of, Move, Instruction, State, carried, slots_of}
use Rattle.tta_profile.specs.declared.outside.Space.{Space}
use Rattle.tta_profile.specs.declared.outside.Space.TheVariants.{Data, Frame}
use Rattle.tta_profile.specs.Counts.{Counts, is_made, states}

-- ---- accesses

-- the address at which an operation loads from a space or stores into it: a load has it in its word, and a store in its operand
abbrev pub address_in : Space → Op → (operand word : ℕ) → Option ℕ
address_in Data Ldw operand word = Some word
address_in Data Stw operand word = Some operand
address_in Data Ldf operand word = None
address_in Data Stf operand word = None
address_in Data Out operand word = None
address_in Data Take operand word = None
address_in Data (Set id) operand word = None
address_in Frame Ldw operand word = None
address_in Frame Stw operand word = None
address_in Frame Ldf operand word = Some word
address_in Frame Stf operand word = Some operand
address_in Frame Out operand word = None
address_in Frame Take operand word = None
address_in Frame (Set id) operand word = None

-- the same of the operation, if any, that starts where a word is brought; its operand is the one that the cycle leaves
abbrev pub address_of : Machine → Space → (after : Written) → Brought → Option ℕ
address_of m space after b = option_and_then (λ t. address_in space t.does.op (operand_word t) t.word) (start_of m after b)

-- the same of the move of a slot that carries a word, if it does
abbrev pub slot_address : Machine → Space → (after : Written) → Option Move → (word : Option ℕ) → Option ℕ
slot_address m space after slot word = option_and_then (λ v. option_and_then (λ w. address_of m space after (target_of v.dst, w)) word) slot

-- ---- outside

-- the words of a space
abbrev pub words_of : Space → State → List ℕ
words_of Data s = s.memory
words_of Frame s = s.frame

-- whether an address, if there is one, is not below this number of words
abbrev pub is_past : (count : ℕ) → Option ℕ → Bool
is_past count address = option_map_or (λ a. nat_le count a) address false

-- whether the move of a slot acts in a state, and loads from a space or stores into it at an address outside
abbrev pub is_outside : Machine → Space → (after : Written) → State → Option Move → Bool
is_outside m space after s slot = is_past (length (words_of space s)) (slot_address m space after slot (carried s slot))

-- whether the cycle of a state carries out the instruction of an address, and one of its moves does so
abbrev pub strays : (step : State → State) → Machine → List Instruction → Space → (address : ℕ) → State → Bool
strays step m words space address s =
    is_made step s && (address == s.pc && list_any (is_outside m space (step s).written s) (slots_of (slice_get words address)))

-- ---- counts

-- How often the instruction of an address accesses a space outside in the first n cycles. One unit alone serves a space, and it starts
-- one operation a cycle, so each cycle has one such access or none.
abbrev pub outside : (step : State → State) → Machine → List Instruction → State → (n : ℕ) → Space → (address : ℕ) → ℕ
outside step m words s n space address = count_by (strays step m words space address) (states step s n)

-- the counts of accesses outside the spaces are those of the first n cycles from a state
pub record AreOutside (step : State → State) (m : Machine) (words : List Instruction) (s : State) (n : ℕ) (c : Counts) : Type 0 where
  pub of_data : (address : ℕ) → slice_index c.outside_data address ≡ outside step m words s n Data address
  pub of_frame : (address : ℕ) → slice_index c.outside_frame address ≡ outside step m words s n Frame address
  pub sizes : (length c.outside_data ≡ length words) × (length c.outside_frame ≡ length words)
