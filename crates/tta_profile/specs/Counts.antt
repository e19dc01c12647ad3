-- How often a run carries out each instruction, and how often the guard of each move stops it.
use Rattle.std.specs.Prelude.{◌≡◌, ℕ, ◌+◌, ◌*◌, ◌<◌, ◌==◌, Bool, false, not, ◌&&◌, List, map, length, Option, None, slice_get, slice_index, slice_index_or, option_and_then}
use Rattle.std.specs.Option.{option_map_or}
use Rattle.std.specs.List.{count_by, range_with_len}
use Rattle.tta_profile.specs.Cited.{iterate, is_active, Move, Instruction, State, read_source, effect_of}

-- how many buses an instruction can have
abbrev pub most_buses : ℕ
most_buses = 16

-- the states before each of the first n cycles
abbrev pub states : (step : State → State) → State → ℕ → List State
states step s n = map (λ k. iterate k step s) (range_with_len 0 n)

-- whether the cycle of a state is carried out: the run is not over, and the cycle neither faults nor waits
abbrev pub is_made : (step : State → State) → State → Bool
is_made step s = (step s).cycle == s.cycle + 1

-- the move of a bus in the instruction of an address
abbrev pub slot_at : List Instruction → (address bus : ℕ) → Option Move
slot_at words address bus = option_and_then (λ i. slice_index_or i.moves bus None) (slice_get words address)

-- whether the guard of a move, which it has, stops it
abbrev pub is_stopped : State → Move → Bool
is_stopped s v = not (is_active (read_source s) (effect_of v))

-- whether the cycle of a state carries out the instruction of an address
abbrev pub carries : (step : State → State) → (address : ℕ) → State → Bool
carries step address s = is_made step s && address == s.pc

-- whether it does, and the guard of the move of a bus stops that move
abbrev pub stops : (step : State → State) → List Instruction → (address bus : ℕ) → State → Bool
stops step words address bus s = is_made step s && (address == s.pc && option_map_or (is_stopped s) (slot_at words address bus) false)

-- how often the instruction of an address is carried out in the first n cycles
abbrev pub executed : (step : State → State) → State → (n address : ℕ) → ℕ
executed step s n address = count_by (carries step address) (states step s n)

-- how often the move of a bus is passed over there by its guard
abbrev pub passed : (step : State → State) → List Instruction → State → (n address bus : ℕ) → ℕ
passed step words s n address bus = count_by (stops step words address bus) (states step s n)

-- What is counted: of each instruction how often it was carried out, and of each of these buses how often its move was passed over; and of
-- each instruction how often it accessed the data space, and the frame, at an address outside.
pub record Counts : Type 0 where
  pub executed : List ℕ
  pub passed : List ℕ
  pub outside_data : List ℕ
  pub outside_frame : List ℕ

-- the counts are those of the first n cycles from a state
pub record AreCounts (step : State → State) (words : List Instruction) (s : State) (n : ℕ) (c : Counts) : Type 0 where
  pub executed : (address : ℕ) → slice_index c.executed address ≡ executed step s n address
  pub passed : (address bus : ℕ) → bus < most_buses → slice_index c.passed (most_buses * address + bus) ≡ passed step words s n address bus
  pub sizes : (length c.executed ≡ length words) × (length c.passed ≡ most_buses * length words)
