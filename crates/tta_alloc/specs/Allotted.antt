-- What code may rely on of the homes of variables, however the home registers are chosen.
use Rattle.std.specs.Prelude.{◌≡◌, ◌↔◌, ℕ, ◌<◌, List, Some, length, slice_get}
use Rattle.tta_alloc.specs.Cited.{Proc, Program}
use Rattle.tta_alloc.specs.declared.home.Home.{Home}
use Rattle.tta_alloc.specs.declared.home.Home.TheVariants.{Slot}
use Rattle.tta_alloc.specs.declared.homes.Homes.{Homes}
use Rattle.tta_alloc.specs.Homes.{count_of, home_of, IsScanOf, IsScan}
use Rattle.tta_alloc.specs.Law.{KeepsLaw}

-- Each variable of a procedure has a home; the homes keep the law; and those variables have their slots that have them by
-- the linear scan.
pub record AreAllottedOf (q : Proc) (homes : ℕ) (answer : List Home) : Type 0 where
  pub each : length answer ≡ q.vars
  pub law : KeepsLaw q homes answer
  pub first : List Home
  pub scanned : IsScanOf q homes first
  pub slots : (x : ℕ) → x < q.vars → (slice_get answer x ≡ Some (Slot x)) ↔ (slice_get first x ≡ Some (Slot x))

-- Homes of a program keep the law and have the slots of the linear scan, with so many home registers.
pub record SlotsAsScanned (p : Program) (homes : ℕ) (h : Homes) : Type 0 where
  pub count : count_of h ≡ homes
  pub allotted : (owner : ℕ) (q : Proc) → slice_get p.procs owner ≡ Some q
      → (answer : List Home) × (AreAllottedOf q homes answer × ((x : ℕ) → x < q.vars → slice_get answer x ≡ Some (home_of h owner x)))

-- a linear scan is one way to give homes
abbrev pub ScansAllot : Type 0
ScansAllot = (p : Program) (homes : ℕ) (h : Homes) → IsScan p homes h → SlotsAsScanned p homes h
