-- The homes of the variables of a program.
use Rattle.std.specs.Prelude.{◌≡◌, ℕ, ◌<◌, List, Some, slice_get}
use Rattle.std.specs.Option.{option_map_or}
use Rattle.tta_alloc.specs.Cited.{Proc, Program}
use Rattle.tta_alloc.specs.declared.interval.Interval.{Interval}
use Rattle.tta_alloc.specs.declared.home.Home.{Home}
use Rattle.tta_alloc.specs.declared.home.Home.TheVariants.{Slot}
use Rattle.tta_alloc.specs.declared.homes.Homes.{Homes}
use Rattle.tta_alloc.specs.Intervals.{AreTaken}
use Rattle.tta_alloc.specs.Scan.{scan}

-- what `count` answers
unfoldable pub count_of : Homes → ℕ
count_of h = h.count

-- what `home` answers
unfoldable pub home_of : Homes → (owner x : ℕ) → Home
home_of h owner x =
    option_map_or (λ l. option_map_or (λ home. home) (slice_get l.items x) (Slot x)) (slice_get h.procs.items owner) (Slot x)

-- the scan of the intervals of a procedure gives these homes
pub record IsScanOf (q : Proc) (homes : ℕ) (answer : List Home) : Type 0 where
  pub taken : List Interval
  pub are : AreTaken q taken
  pub is : answer ≡ scan homes q.vars taken

-- Homes are those of a program: the scan of each procedure gives them, with so many home registers.
pub record IsScan (p : Program) (homes : ℕ) (h : Homes) : Type 0 where
  pub count : count_of h ≡ homes
  pub scanned : (owner : ℕ) (q : Proc) → slice_get p.procs owner ≡ Some q
      → (answer : List Home) × (IsScanOf q homes answer × ((x : ℕ) → x < q.vars → slice_get answer x ≡ Some (home_of h owner x)))
