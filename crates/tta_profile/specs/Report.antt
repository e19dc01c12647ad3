-- What is told of the counts of a run.
use Rattle.std.specs.Prelude.{◌≡◌, ℕ, ◌+◌, ◌-◌, ◌*◌, ◌/◌, ◌^◌, ◌==◌, Bool, false, nat_lt, if◌then◌else◌, List, [], ◌++◌, Option, Some, None, slice_get, slice_index, is_some, codes, decimal, IsPermutation}
use Rattle.std.specs.Option.{option_map_or}
use Rattle.std.specs.List.{flat_map, filter_map, enumerate_from, sum_by}
use Rattle.std.specs.List.Sorted.{IsNonDecreasingBy}
use Rattle.tta_profile.specs.Cited.{Units, Bus, Dest, Machine, Move, Instruction, instruction_text}
use Rattle.tta_arch.specs.declared.parts.Unit.{Unit as OpUnit}
use Rattle.tta_arch.specs.declared.ends.Dest.TheVariants as dest
use Rattle.tta_profile.specs.declared.sums.Test.{Test}
use Rattle.tta_profile.specs.declared.sums.Test.TheVariants as test
use Rattle.tta_profile.specs.declared.hot.Hot.{Hot}
use Rattle.tta_profile.specs.Counts.{Counts, most_buses}

-- ---- sums

-- how often the move of a bus in the instruction of an address was active
abbrev pub active : Counts → (address bus : ℕ) → ℕ
active c address bus = slice_index c.executed address - slice_index c.passed (most_buses * address + bus)

-- whether a destination starts an operation of a unit
abbrev pub starts : (unit : ℕ) → Dest → Bool
starts unit (dest.Trigger u op) = u == unit
starts unit d = false

-- whether a move of a bus is one that is asked for: one of this bus, or one that starts an operation of this unit
abbrev pub is_asked : Test → (bus : ℕ) → Move → Bool
is_asked (test.Bus b) bus v = bus == b
is_asked (test.Unit unit) bus v = starts unit v.dst

-- how often the move of a slot was active, if it is asked for
abbrev pub slot_sum : Counts → Test → (address bus : ℕ) → Option Move → ℕ
slot_sum c t address bus slot = option_map_or (λ v. if is_asked t bus v then active c address bus else 0) slot 0

-- the sum of those of an instruction
abbrev pub instruction_sum : Counts → Test → (address : ℕ) → List (Option Move) → ℕ
instruction_sum c t address slots = sum_by (λ o. slot_sum c t address o.0 o.1) (enumerate_from 0 slots)

-- the sum of those of code
abbrev pub code_sum : Counts → Test → List Instruction → ℕ
code_sum c t words = sum_by (λ i. instruction_sum c t i.0 i.1.moves) (enumerate_from 0 words)

-- how many cycles were made: one for each instruction that was carried out
abbrev pub cycles_sum : Counts → ℕ
cycles_sum c = sum_by (λ n. n) c.executed

-- a share of a whole, in percent, 0 of nothing
abbrev pub percent : (part whole : ℕ) → ℕ
percent part whole = if whole == 0 then 0 else 100 * part / whole

-- how often the instruction of an address accessed the spaces at addresses outside
abbrev pub outside_of : Counts → (address : ℕ) → ℕ
outside_of c address = slice_index c.outside_data address + slice_index c.outside_frame address

-- ---- lines

-- a number and its share
unfoldable pub share_text : (part whole : ℕ) → List ℕ
share_text part whole = decimal part ++ (codes " share " ++ decimal (percent part whole))

-- what a bus or unit is, its name, and how often it was used
unfoldable pub used_text : (what name told : List ℕ) → (part whole : ℕ) → List ℕ
used_text what name told part whole = what ++ (name ++ (told ++ (share_text part whole ++ codes "\n")))

-- a bus, and how many moves it carried
abbrev pub bus_text : Counts → List Instruction → (whole bus : ℕ) → Bus → List ℕ
bus_text c words whole bus b = used_text (codes "bus ") b.name (codes " moves ") (code_sum c (test.Bus bus) words) whole

-- buses
abbrev pub buses_text : Counts → List Instruction → (whole : ℕ) → List Bus → List ℕ
buses_text c words whole buses = flat_map (λ b. bus_text c words whole b.0 b.1) (enumerate_from 0 buses)

-- a unit, and how many of its operations were started
abbrev pub unit_text : Counts → List Instruction → (whole unit : ℕ) → OpUnit → List ℕ
unit_text c words whole unit q = used_text (codes "unit ") q.name (codes " starts ") (code_sum c (test.Unit unit) words) whole

-- units
abbrev pub units_text : Counts → List Instruction → (whole : ℕ) → List OpUnit → List ℕ
units_text c words whole units = flat_map (λ q. unit_text c words whole q.0 q.1) (enumerate_from 0 units)

-- the name of a bus
abbrev pub bus_name : Machine → (bus : ℕ) → List ℕ
bus_name m bus = option_map_or (λ b. b.name) (slice_get m.buses bus) []

-- whether a slot has a move with a guard
abbrev pub is_guarded : Option Move → Bool
is_guarded slot = option_map_or (λ v. is_some v.guard) slot false

-- how often the move of a bus was passed over
unfoldable pub count_text : (name : List ℕ) → ℕ → List ℕ
count_text name n = codes " passed " ++ (name ++ (codes " " ++ decimal n))

-- the same, if it has a guard
abbrev pub passed_text : Machine → Counts → (address bus : ℕ) → Option Move → List ℕ
passed_text m c address bus slot = if is_guarded slot then count_text (bus_name m bus) (slice_index c.passed (most_buses * address + bus)) else []

-- the same of all moves of an instruction
abbrev pub all_passed_text : Machine → Counts → (address : ℕ) → List (Option Move) → List ℕ
all_passed_text m c address slots = flat_map (λ o. passed_text m c address o.0 o.1) (enumerate_from 0 slots)

-- how often an instruction was carried out
unfoldable pub times_text : Counts → (whole address : ℕ) → List ℕ
times_text c whole address = codes "at " ++ (decimal address ++ (codes " times " ++ share_text (slice_index c.executed address) whole))

-- how many accesses were outside, if some were
unfoldable pub outside_text : ℕ → List ℕ
outside_text n = if n == 0 then [] else codes " outside " ++ decimal n

-- an instruction: its address, how often it was carried out, what was passed over, its accesses outside the spaces, and its assembly
unfoldable pub hot_text : Units → Machine → Counts → (whole address : ℕ) → Instruction → List ℕ
hot_text u m c whole address i =
    times_text c whole address
    ++ (all_passed_text m c address i.moves ++ (outside_text (outside_of c address) ++ (codes " : " ++ instruction_text u m i)))

-- the same of the instruction of an address
abbrev pub hot_at_text : Units → Machine → Counts → List Instruction → (whole : ℕ) → Hot → List ℕ
hot_at_text u m c words whole h = option_map_or (hot_text u m c whole h.address) (slice_get words h.address) []

-- instructions, in this order
abbrev pub hottest_text : Units → Machine → Counts → List Instruction → (whole : ℕ) → List Hot → List ℕ
hottest_text u m c words whole order = flat_map (hot_at_text u m c words whole) order

-- how many accesses to a space were outside it
unfoldable pub space_text : (name : List ℕ) → List ℕ → List ℕ
space_text name counts = codes "outside " ++ (name ++ (codes " " ++ (decimal (sum_by (λ n. n) counts) ++ codes "\n")))

-- how many cycles were made, what was used, and how many accesses were outside
unfoldable pub uses_text : Machine → List Instruction → Counts → (whole : ℕ) → List ℕ
uses_text m words c whole =
    codes "cycles " ++ (decimal whole ++ (codes "\n" ++ (buses_text c words whole m.buses ++ (units_text c words whole m.units
    ++ (space_text (codes "data") c.outside_data ++ space_text (codes "frame") c.outside_frame)))))

-- these, and the instructions in this order
unfoldable pub told_text : Units → Machine → List Instruction → Counts → (whole : ℕ) → List Hot → List ℕ
told_text u m words c whole order = uses_text m words c whole ++ hottest_text u m c words whole order

-- ---- the order

-- an instruction that was carried out
abbrev pub hot_if : (address times : ℕ) → Option Hot
hot_if address times = if nat_lt 0 times then Some (record { address = address; times = times }) else None

-- those that were carried out, by their addresses
abbrev pub all_hot : Counts → List Hot
all_hot c = filter_map (λ n. hot_if n.0 n.1) (enumerate_from 0 c.executed)

-- an order of them in which each was carried out no more often than the one before it
pub record IsHottestFirst (c : Counts) (order : List Hot) : Type 0 where
  pub all : IsPermutation (all_hot c) order
  pub falls : IsNonDecreasingBy (λ (h : Hot). 2 ^ 64 - 1 - h.times) order

-- a text tells of the counts of code, the hottest instructions first
pub record IsReport (u : Units) (m : Machine) (words : List Instruction) (c : Counts) (text : List ℕ) : Type 0 where
  pub order : List Hot
  pub hottest : IsHottestFirst c order
  pub is : text ≡ told_text u m words c (cycles_sum c) order
