-- The results that operations show.
use Rattle.std.specs.Prelude.{◌≡◌, ℕ, ◌+◌, ◌-◌, ◌<◌, ◌≤◌, ◌==◌, true, false, if◌then◌else◌, List, Option, None, Some, is_some, length}
use Rattle.std.specs.List.{list_any, AllByRecursion}
use Rattle.tta_sim.specs.Cited.{Units, are_different, Start, has_result, result_word, Result', Rings, due_in, longest_of, IsStarted}
use Rattle.tta_sim.specs.declared.dues.Due.{Due}
use Rattle.tta_sim.specs.declared.store.Store.{Store}
use Rattle.tta_sim.specs.Results.{Results, due_after, due_by, longest_by}

-- the result of an operation that shows this word
abbrev pub due_with : Start → (value : ℕ) → Due
due_with t value = record { unit = t.unit; latency = t.does.latency; value = value }

-- the result that an operation shows, if it has one
abbrev pub shows : Units → (memory frame : List ℕ) → (next : ℕ) → Start → Option Due
shows u memory frame next t = if has_result t.does.op then Some (due_with t (result_word u memory frame next t t.does.op)) else None

-- the result that an operation shows of the words that a run holds
abbrev pub shown_from : Units → (next : ℕ) → Store → Start → Option Due
shown_from u next store t = shows u store.memory.items store.frame.items next t

-- a result that was started in a cycle
abbrev pub started_at : (now : ℕ) → Due → Result'
started_at now d = due_after now d.unit d.latency d.value

-- ---- results that begin

-- A result of one of the units, which shows after at least one cycle, and within the unit's longest delay.
pub record IsFittingDue (r : Results) (d : Due) : Type 0 where
  pub unit : d.unit < r.units
  pub later : 0 < d.latency
  pub soon : d.latency ≤ longest_by r d.unit

-- Results that can begin at once: each fits, no two are of one unit, and none is due at the time of another of its unit.
pub record CanAllBegin (r : Results) (dues : List Due) : Type 0 where
  pub fitting : AllByRecursion (IsFittingDue r) dues
  pub apart : are_different (λ a b. a.unit == b.unit) dues ≡ true
  pub free : list_any (λ d. is_some (due_by r d.unit d.latency)) dues ≡ false

-- A result can begin, where its unit is in the next cycle already: its unit and its latency are there, and no other is due then.
pub record CanBegin (base : ℕ) (r : Rings) (d : Due) : Type 0 where
  pub few : base + d.unit < 256
  pub there : base + d.unit < length r.rings
  pub later : 0 < d.latency
  pub soon : d.latency ≤ longest_of r (base + d.unit)
  pub free : due_in r (base + d.unit) (d.latency - 1) ≡ None

-- a result has begun
abbrev pub HasBegun : (base : ℕ) → Due → (old new : Rings) → Type 0
HasBegun base d old new = IsStarted (base + d.unit) (d.latency - 1) d.value old new
