-- The results of units: those that show, and those that are still to come.
use Rattle.std.specs.Prelude.{◌≡◌, ℕ, ◌+◌, ◌<◌, ◌≤◌, List, length, Option, IfSome}
use Rattle.tta_sim.specs.Cited.{Machine, op_at, Result', latest, due_at, word_due, Rings, shown_in, due_in, longest_of}
use Rattle.tta_sim.specs.declared.results.Part.{Part}

-- the result of a unit that is due `latency` cycles from now
abbrev pub due_after : (now unit latency value : ℕ) → Result'
due_after now unit latency value = record { unit = unit; due = now + latency; value = value }

-- so many units of a region from one on
pub record Results : Type 0 where
  pub base : ℕ
  pub units : ℕ
  pub rings : Rings

-- these units of a region
abbrev pub results_at : Part → Rings → Results
results_at part rings = record { base = part.base; units = part.count; rings = rings }

-- the units of a machine in a region, from one on
abbrev pub units_of : (base : ℕ) → Machine → Rings → Results
units_of base m rings = record { base = base; units = length m.units; rings = rings }

-- what a unit's result port shows
abbrev pub shown_by : Results → (unit : ℕ) → Option ℕ
shown_by r unit = shown_in r.rings (r.base + unit)

-- the result of a unit that is due in so many cycles
abbrev pub due_by : Results → (unit delay : ℕ) → Option ℕ
due_by r unit delay = due_in r.rings (r.base + unit) delay

-- the longest delay of a unit's results
abbrev pub longest_by : Results → (unit : ℕ) → ℕ
longest_by r unit = longest_of r.rings (r.base + unit)

-- units that are there
pub record AreThere (r : Results) : Type 0 where
  pub few : r.base + r.units ≤ 256
  pub there : r.base + r.units ≤ length r.rings.rings

-- A region has a machine's units from one on, each with room for its longest latency.
pub record HasUnits (base : ℕ) (m : Machine) (r : Rings) : Type 0 where
  pub few : base + length m.units ≤ 256
  pub there : base + length m.units ≤ length r.rings
  pub longest : (unit op : ℕ) → IfSome (op_at m unit op) (λ o. o.latency ≤ longest_of r (base + unit))

-- The results of all that was ever started, in a cycle: each port shows the unit's latest result, and no other result is due.
pub record AreResultsOf (started : List Result') (now : ℕ) (r : Results) : Type 0 where
  pub shown : (unit : ℕ) → unit < r.units → shown_by r unit ≡ word_due (latest unit now started)
  pub due : (unit delay : ℕ) → unit < r.units → due_by r unit delay ≡ word_due (due_at unit (now + delay) started)

-- ---- results that begin

-- each unit has the room that it had
pub record AreKept (old new : Rings) : Type 0 where
  pub units : length new.rings ≡ length old.rings
  pub longest : (unit : ℕ) → longest_of new unit ≡ longest_of old unit
