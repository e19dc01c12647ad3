-- The word of each signal in a state.
use Rattle.std.specs.Prelude.{ℕ, ◌==◌, Bool, false, ◌&&◌, if◌then◌else◌, List, map, Option, Some, None, slice_index_or}
use Rattle.std.specs.Option.{option_map_or}
use Rattle.std.specs.List.{list_any}
use Rattle.tta_waves.specs.Cited.{Dest, Machine, KeptReg, KeptImm, KeptOperand, KeptRa, kept, is_active, Move, Instruction, State, read_source, effect_of, port, is_halted, carried, coming, slots_of}
use Rattle.tta_arch.specs.declared.ends.Dest.TheVariants as dest
use Rattle.tta_waves.specs.declared.level.Level.{Level}
use Rattle.tta_waves.specs.declared.signal.Signal.{Signal}
use Rattle.tta_waves.specs.declared.signal.Signal.TheVariants.{Address, Halted, Acts, Carried, Starts, Operand, Shown, Register, Immediate, ReturnAddress}
use Rattle.tta_waves.specs.Signals.{signals_of, is_wide}

-- ---- what acts

-- whether a slot has a move that acts
abbrev pub acts : State → Option Move → Bool
acts s slot = option_map_or (λ v. is_active (read_source s) (effect_of v)) slot false

-- whether a destination starts an operation of a unit
abbrev pub is_start : (unit op : ℕ) → Dest → Bool
is_start unit op (dest.Trigger other which) = other == unit && which == op
is_start unit op (dest.Reg file index) = false
is_start unit op (dest.Operand other) = false
is_start unit op dest.Jump = false
is_start unit op dest.Call = false
is_start unit op dest.Halt = false

-- whether a slot has a move that acts and starts it
abbrev pub starts : State → (unit op : ℕ) → Option Move → Bool
starts s unit op slot = option_map_or (λ v. is_start unit op v.dst && is_active (read_source s) (effect_of v)) slot false

-- ---- levels

-- a truth as a word
abbrev pub bit : Bool → ℕ
bit truth = if truth then 1 else 0

-- the word of a signal in a state that comes to these slots; none where no word was ever written, or where a bus carries none
abbrev pub word_in : State → List (Option Move) → Signal → Option ℕ
word_in s slots Address = Some s.pc
word_in s slots Halted = Some (bit (is_halted s.outcome))
word_in s slots (Acts bus) = Some (bit (acts s (slice_index_or slots bus None)))
word_in s slots (Carried bus) = carried s (slice_index_or slots bus None)
word_in s slots (Starts unit op) = Some (bit (list_any (starts s unit op) slots))
word_in s slots (Operand unit) = kept s.written (KeptOperand unit)
word_in s slots (Shown unit) = port s unit
word_in s slots (Register file index) = kept s.written (KeptReg file index)
word_in s slots (Immediate unit index) = kept s.written (KeptImm unit index)
word_in s slots ReturnAddress = kept s.written KeptRa

-- what is told of a signal: its word, and whether it has more than one bit
abbrev pub level_in : Machine → State → List (Option Move) → Signal → Level
level_in m s slots signal = record { wide = is_wide m signal; word = word_in s slots signal }

-- the levels of all signals in a state
unfoldable pub levels_in : Machine → List Instruction → State → List Level
levels_in m words s = map (level_in m s (slots_of (coming words s))) (signals_of m)
