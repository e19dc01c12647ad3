-- What every linear scan keeps.
use Rattle.std.specs.Prelude.{◌≡◌, ◌≢◌, ℕ, ◌<◌, ◌≤◌, nat_le, Bool, ◌&&◌, List, Some, slice_get, count_by, ◌⊎◌}
use Rattle.tta_alloc.specs.Cited.{Proc}
use Rattle.tta_alloc.specs.declared.interval.Interval.{Interval}
use Rattle.tta_alloc.specs.declared.home.Home.{Home}
use Rattle.tta_alloc.specs.declared.home.Home.TheVariants.{Reg, Slot}
use Rattle.tta_alloc.specs.Intervals.{Counts, IsInterval, IsKept, AreTaken}

-- whether an interval stands at a position
abbrev pub stands_at : ℕ → Interval → Bool
stands_at at iv = nat_le iv.start at && nat_le at iv.end

-- at a position there stand more intervals that take part than there are home registers
pub record IsCrowded (q : Proc) (homes at : ℕ) : Type 0 where
  pub taken : List Interval
  pub are : AreTaken q taken
  pub more : homes < count_by (stands_at at) taken

-- Variables whose intervals share a position have different homes; and a variable that no call keeps has its slot only
-- where at some position of its interval there are too few home registers. So variables for which one position counts have
-- different homes; one that a call keeps has its slot; and a home is the variable's slot or a home register that there is.
pub record KeepsLaw (q : Proc) (homes : ℕ) (answer : List Home) : Type 0 where
  pub apart : (x y a b c d at : ℕ) → x < q.vars → y < q.vars → x ≢ y → IsInterval q x a b → IsInterval q y c d
      → a ≤ at → at ≤ b → c ≤ at → at ≤ d → slice_get answer x ≢ slice_get answer y
  pub slots : (x a b : ℕ) → x < q.vars → IsInterval q x a b → (IsKept q x → ⊥) → slice_get answer x ≡ Some (Slot x)
      → (at : ℕ) × ((a ≤ at) × ((at ≤ b) × IsCrowded q homes at))
  pub meet : (x y at : ℕ) → x < q.vars → y < q.vars → x ≢ y → Counts q x at → Counts q y at → slice_get answer x ≢ slice_get answer y
  pub kept : (x : ℕ) → x < q.vars → IsKept q x → slice_get answer x ≡ Some (Slot x)
  pub range : (x : ℕ) (home : Home) → slice_get answer x ≡ Some home → (home ≡ Slot x) ⊎ ((k : ℕ) × ((k < homes) × (home ≡ Reg k)))
