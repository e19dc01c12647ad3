-- Home registers in turn.
use Rattle.std.specs.Prelude.{◌≡◌, ℕ, ◌<◌, ◌≤◌, Bool, true, false, List, Some, slice_get}
use Rattle.std.specs.Option.{option_map_or}
use Rattle.tta_alloc.specs.Cited.{Proc, Program}
use Rattle.tta_alloc.specs.declared.interval.Interval.{Interval}
use Rattle.tta_alloc.specs.declared.home.Home.{Home}
use Rattle.tta_alloc.specs.declared.home.Home.TheVariants.{Reg, Slot}
use Rattle.tta_alloc.specs.declared.homes.Homes.{Homes}
use Rattle.tta_alloc.specs.Intervals.{IsBefore, TakesPart}
use Rattle.tta_alloc.specs.Homes.{count_of, home_of}
use Rattle.tta_alloc.specs.Allotted.{AreAllottedOf, SlotsAsScanned}

-- an interval that is taken before another has a home register
pub record Had (q : Proc) (answer : List Home) (a : Interval) (k : ℕ) (b : Interval) : Type 0 where
  pub part : TakesPart q b
  pub before : IsBefore b a
  pub home : slice_get answer b.var ≡ Some (Reg k)

-- The home register of an interval is the one that is free longest, one that none had before all others, ties to the least:
-- all intervals that had it before have ended. One of those that had a lesser register ends later than all of these, and
-- one of those that had a greater register ends later or at the same position.
pub record IsFreeLongest (q : Proc) (homes : ℕ) (answer : List Home) (a : Interval) (k : ℕ) : Type 0 where
  pub ended : (b : Interval) → Had q answer a k b → b.end < a.start
  pub lesser : (j : ℕ) → j < k → (c : Interval) × (Had q answer a j c × ((b : Interval) → Had q answer a k b → b.end < c.end))
  pub greater : (j : ℕ) → k < j → j < homes → (b : Interval) → Had q answer a k b → (c : Interval) × (Had q answer a j c × (b.end ≤ c.end))

-- homes of a procedure that are given in turn: each home register is the one that is free longest
pub record AreInTurnOf (q : Proc) (homes : ℕ) (answer : List Home) : Type 0 where
  pub allotted : AreAllottedOf q homes answer
  pub turns : (a : Interval) (k : ℕ) → TakesPart q a → slice_get answer a.var ≡ Some (Reg k) → IsFreeLongest q homes answer a k

-- Homes of a program are given in turn, with so many home registers.
pub record AreInTurn (p : Program) (homes : ℕ) (h : Homes) : Type 0 where
  pub count : count_of h ≡ homes
  pub turns : (owner : ℕ) (q : Proc) → slice_get p.procs owner ≡ Some q
      → (answer : List Home) × (AreInTurnOf q homes answer × ((x : ℕ) → x < q.vars → slice_get answer x ≡ Some (home_of h owner x)))

-- to give home registers in turn is another
abbrev pub TurnsAllot : Type 0
TurnsAllot = (p : Program) (homes : ℕ) (h : Homes) → AreInTurn p homes h → SlotsAsScanned p homes h

-- whether a home is a register
abbrev pub is_reg : Home → Bool
is_reg (Reg k) = true
is_reg (Slot x) = false

-- whether a variable has a home register
abbrev pub in_reg : List Home → ℕ → Bool
in_reg answer x = option_map_or is_reg (slice_get answer x) false
