-- Rings of cells in one row, and what the calls of a region do to them.
use Rattle.std.specs.Prelude.{◌≡◌, ◌≢◌, ℕ, zero, suc, ◌+◌, ◌-◌, ◌*◌, ◌<◌, ◌≤◌, ◌==◌, Bool, true, false, ◌&&◌, nat_lt, nat_le, if◌then◌else◌, List, [], ◌∷◌, length, Option, None, Some, is_some, slice_index_or}
use Rattle.std.specs.Option.{option_or}
use Rattle.tta_flight.specs.declared.ring.Ring.{Ring}
use Rattle.tta_flight.specs.declared.marked.Marked.{Marked}
use Rattle.tta_flight.specs.Marked.{has, AreBits}

-- the rings of the units, the cells of all rings, the units whose rings have to turn, and those of which a result is due at this
-- very moment: it is the one that shows
pub record Rings : Type 0 where
  pub rings : List Ring
  pub cells : List (Option ℕ)
  pub moving : Marked
  pub fresh : Marked

-- rings, cells and two sets of units together
abbrev pub rings_of : List Ring → List (Option ℕ) → (moving fresh : Marked) → Rings
rings_of rings cells moving fresh = record { rings = rings; cells = cells; moving = moving; fresh = fresh }

-- the cell of what is due so many cycles after the next one
abbrev pub place_of : Ring → (past : ℕ) → ℕ
place_of r past = r.first + (if nat_le (r.at + past) r.longest then r.at + past else r.at + past - suc r.longest)

-- how far after the first cell that of the cycle after the next one is
abbrev pub at_next : Ring → ℕ
at_next r = if r.at == r.longest then 0 else r.at + 1

-- a ring that has turned to the next cycle, before what is due then shows
abbrev pub turned : Ring → Ring
turned r = record r { at = at_next r; turns = r.turns - 1 }

-- the ring of no unit
abbrev pub no_ring : Ring
no_ring = record { first = 0; longest = 0; at = 0; turns = 0; shown = None }

-- the ring of a unit
abbrev pub ring_of : Rings → (unit : ℕ) → Ring
ring_of r unit = slice_index_or r.rings unit no_ring

-- the longest delay of a unit
abbrev pub longest_of : Rings → (unit : ℕ) → ℕ
longest_of r unit = (ring_of r unit).longest

-- after how many turns a unit's ring is empty
abbrev pub turns_of : Rings → (unit : ℕ) → ℕ
turns_of r unit = (ring_of r unit).turns

-- what a unit's port shows
abbrev pub shown_in : Rings → (unit : ℕ) → Option ℕ
shown_in r unit = (ring_of r unit).shown

-- what a ring has for so many cycles after the next one; nothing is due later than so many cycles after it as its longest delay
abbrev pub cell_of : List (Option ℕ) → Ring → (past : ℕ) → Option ℕ
cell_of cells ring past = if nat_le past ring.longest then slice_index_or cells (place_of ring past) None else None

-- the result of a unit that is due so many cycles after the next one
abbrev pub later_in : Rings → (unit past : ℕ) → Option ℕ
later_in r unit past = cell_of r.cells (ring_of r unit) past

-- the result of a unit that is due in so many cycles
abbrev pub due_in : Rings → (unit delay : ℕ) → Option ℕ
due_in r unit zero = if has r.fresh unit then shown_in r unit else None
due_in r unit (suc past) = later_in r unit past

-- ---- rings in a row

-- the rings of units with these longest delays, the first from this cell on
abbrev pub rings_from : (first : ℕ) → List ℕ → List Ring
rings_from first [] = []
rings_from first (l ∷ ls) = record { first = first; longest = l; at = 0; turns = 0; shown = None } ∷ rings_from (first + suc l) ls

-- the cell after them
abbrev pub size_of : (first : ℕ) → List ℕ → ℕ
size_of first [] = first
size_of first (l ∷ ls) = size_of (first + suc l) ls

-- each ring begins where the one before it ends, and the last ends within so many cells
abbrev pub AreCarved : (first cells : ℕ) → List Ring → Type 0
AreCarved first cells [] = first ≤ cells
AreCarved first cells (r ∷ rs) = ((r.first ≡ first) × (r.at ≤ r.longest)) × AreCarved (first + suc r.longest) cells rs

-- Rings that lie one after another among the cells.
pub record AreApart (r : Rings) : Type 0 where
  pub carved : AreCarved 0 (length r.cells) r.rings
  pub few : length r.cells ≤ 65536

-- The set has exactly the units whose rings have a result: each ring is empty after its turns, the ring of a unit that is not in
-- the set needs no turn, and the ring of one in the set has a result for its last turn.
pub record AreMoving (r : Rings) : Type 0 where
  pub few : length r.rings ≤ 256
  pub empty : (unit past : ℕ) → unit < length r.rings → turns_of r unit ≤ past → later_in r unit past ≡ None
  pub still : (unit : ℕ) → unit < length r.rings → has r.moving unit ≡ false → turns_of r unit ≡ 0
  pub needed : (unit : ℕ) → unit < length r.rings → has r.moving unit ≡ true → is_some (later_in r unit (turns_of r unit - 1)) ≡ true

-- What a region keeps of its rings.
pub record IsRegion (r : Rings) : Type 0 where
  pub apart : AreApart r
  pub moving : AreMoving r

-- ---- what the calls do

-- whether a unit is one of so many from one on
abbrev pub is_among : (base count unit : ℕ) → Bool
is_among base count unit = nat_le base unit && nat_lt unit (base + count)

-- a unit, or the nearest of those from one on up to an end
abbrev pub nearest : (base end unit : ℕ) → ℕ
nearest base end unit = if nat_le unit base then base else if nat_le end unit then end else unit

-- A result was added, which shows if it is due at once: every other unit and every other delay is as before.
pub record IsStarted (unit delay value : ℕ) (old new : Rings) : Type 0 where
  pub units : length new.rings ≡ length old.rings
  pub longest : (u : ℕ) → longest_of new u ≡ longest_of old u
  pub shown : (u : ℕ) → shown_in new u ≡ (if u == unit && delay == 0 then Some value else shown_in old u)
  pub here : due_in new unit delay ≡ Some value
  pub unit_apart : (u d : ℕ) → u < length old.rings → u ≢ unit → due_in new u d ≡ due_in old u d
  pub delay_apart : (d : ℕ) → d ≢ delay → due_in new unit d ≡ due_in old unit d

-- Some units went to their next cycle: every delay is one less, and what is due then shows. Every other unit is as before.
pub record IsAdvanced (base count : ℕ) (old new : Rings) : Type 0 where
  pub units : length new.rings ≡ length old.rings
  pub longest : (u : ℕ) → longest_of new u ≡ longest_of old u
  pub shown : (u : ℕ) → u < length old.rings
      → shown_in new u ≡ (if is_among base count u then option_or (due_in old u 1) (shown_in old u) else shown_in old u)
  pub due : (u d : ℕ) → u < length old.rings
      → due_in new u d ≡ (if is_among base count u then due_in old u (d + 1) else due_in old u d)

-- A unit's ring turned: what it has for each cycle to come is one cycle nearer, and what it had for the next one is taken out. All
-- else is as before.
pub record IsTurned (unit : ℕ) (old new : Rings) : Type 0 where
  pub units : length new.rings ≡ length old.rings
  pub longest : (u : ℕ) → longest_of new u ≡ longest_of old u
  pub shown : (u : ℕ) → shown_in new u ≡ shown_in old u
  pub now : (u : ℕ) → due_in new u 0 ≡ due_in old u 0
  pub later : (past : ℕ) → later_in new unit past ≡ later_in old unit (past + 1)
  pub unit_apart : (u past : ℕ) → u < length old.rings → u ≢ unit → later_in new u past ≡ later_in old u past

-- What was due at this moment of some units is over. All else is as before.
pub record AreOver (base count : ℕ) (old new : Rings) : Type 0 where
  pub units : length new.rings ≡ length old.rings
  pub longest : (u : ℕ) → longest_of new u ≡ longest_of old u
  pub shown : (u : ℕ) → shown_in new u ≡ shown_in old u
  pub now : (u : ℕ) → due_in new u 0 ≡ (if is_among base count u then None else due_in old u 0)
  pub later : (u past : ℕ) → later_in new u past ≡ later_in old u past

-- What was due at this moment is over, of every unit. All else is as before.
pub record AreAllOver (old new : Rings) : Type 0 where
  pub units : length new.rings ≡ length old.rings
  pub longest : (u : ℕ) → longest_of new u ≡ longest_of old u
  pub shown : (u : ℕ) → shown_in new u ≡ shown_in old u
  pub now : (u : ℕ) → due_in new u 0 ≡ None
  pub later : (u past : ℕ) → later_in new u past ≡ later_in old u past

-- What is to come of a unit is one cycle nearer, and what comes shows. Where nothing comes, what is due at this moment stays.
pub record HasCome (unit : ℕ) (old new : Rings) : Type 0 where
  pub shown : shown_in new unit ≡ option_or (due_in old unit 1) (shown_in old unit)
  pub now : due_in new unit 0 ≡ option_or (due_in old unit 1) (due_in old unit 0)
  pub later : (past : ℕ) → later_in new unit past ≡ later_in old unit (past + 1)

-- A unit is as before.
pub record IsSame (unit : ℕ) (old new : Rings) : Type 0 where
  pub shown : shown_in new unit ≡ shown_in old unit
  pub due : (d : ℕ) → due_in new unit d ≡ due_in old unit d

-- What is to come of one unit is one cycle nearer, and every other unit is as before.
pub record IsCome (unit : ℕ) (old new : Rings) : Type 0 where
  pub units : length new.rings ≡ length old.rings
  pub longest : (u : ℕ) → longest_of new u ≡ longest_of old u
  pub here : HasCome unit old new
  pub others : (u : ℕ) → u < length old.rings → u ≢ unit → IsSame u old new

-- What is to come of the units before an end is one cycle nearer, and every other unit is as before.
pub record HaveCome (end : ℕ) (old new : Rings) : Type 0 where
  pub units : length new.rings ≡ length old.rings
  pub longest : (u : ℕ) → longest_of new u ≡ longest_of old u
  pub come : (u : ℕ) → u < length old.rings → u < end → HasCome u old new
  pub rest : (u : ℕ) → u < length old.rings → end ≤ u → IsSame u old new

-- Nothing is due of the units from one on and before an end.
abbrev pub AreEmpty : (from end : ℕ) → Rings → Type 0
AreEmpty from end r = (unit delay : ℕ) → from ≤ unit → unit < end → due_in r unit delay ≡ None

-- ---- the units of one word of a set

-- Those of 64 units, from unit 64 × number on, that have one of these bits went to their next cycle.
abbrev pub AdvancesWord : (number bits : ℕ) (old new : Rings) → Type 0
AdvancesWord number bits old new =
    (base end : ℕ) → base ≤ end → AreBits number base end bits
    → IsAdvanced (nearest base end (64 * number)) (nearest base end (64 * number + 64) - nearest base end (64 * number)) old new

-- What was due of them at this moment is over.
abbrev pub EndsWord : (number bits : ℕ) (old new : Rings) → Type 0
EndsWord number bits old new =
    (base end : ℕ) → base ≤ end → AreBits number base end bits
    → AreOver (nearest base end (64 * number)) (nearest base end (64 * number + 64) - nearest base end (64 * number)) old new
