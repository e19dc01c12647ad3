-- The intervals of all variables of a program.
use Rattle.std.specs.Prelude.{◌≡◌, ℕ, ◌<◌, List, length, get_or, Option, Some, None, slice_get}
use Rattle.std.specs.Option.{option_map_or, MatchOption}
use Rattle.tta_alloc.specs.Cited.{Proc}
use Rattle.tta_program.specs.Program.{Program}
use Rattle.tta_alloc.specs.declared.interval.Interval.{Interval}
use Rattle.tta_alloc.specs.declared.intervals.Intervals.{Intervals}
use Rattle.tta_alloc.specs.Intervals.{Counts, IsInterval}

-- what `get` answers
unfoldable pub interval_in : Intervals → (owner x : ℕ) → Option Interval
interval_in all owner x = option_map_or (λ l. get_or l.items x None) (slice_get all.procs.items owner) None

-- an interval is that of a variable; there is none where no position counts for the variable
abbrev pub IsIntervalOf : Proc → (x : ℕ) → Option Interval → Type 0
IsIntervalOf q x o = MatchOption o ((at : ℕ) → Counts q x at → ⊥) (λ iv. (iv.var ≡ x) × IsInterval q x iv.start iv.end)

-- the intervals of all variables of a procedure
pub record AreIntervalsOf (q : Proc) (all : List (Option Interval)) : Type 0 where
  pub count : length all ≡ q.vars
  pub each : (x : ℕ) → x < q.vars → IsIntervalOf q x (get_or all x None)

-- the intervals of all variables of a program
pub record AreIntervals (p : Program) (all : Intervals) : Type 0 where
  pub each : (owner x : ℕ) (q : Proc) → slice_get p.procs owner ≡ Some q → x < q.vars → IsIntervalOf q x (interval_in all owner x)
