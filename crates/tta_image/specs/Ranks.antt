-- The order of the sources and destinations of machines, which those of each bus keep.
use Rattle.std.specs.Prelude.{◌≡◌, ℕ, ◌+◌, ◌*◌, ◌≤◌, true, false, nat_lt, List, [], ◌∷◌}
use Rattle.std.specs.List.{AllByRecursion}
use Rattle.std.specs.List.Sorted.{IsPartitionPoint}
use Rattle.tta_image.specs.Cited.{Source, Dest, BusFields}
use Rattle.tta_arch.specs.declared.ends.Source.TheVariants as source
use Rattle.tta_arch.specs.declared.ends.Dest.TheVariants as dest

-- a number that says where a source stands: registers by file and index, immediates by unit and index, result ports by unit
abbrev pub source_rank : Source → ℕ
source_rank (source.Reg f i) = f * 256 + i
source_rank (source.Imm u i) = 4096 + u * 256 + i
source_rank (source.Shown u) = 8192 + u
source_rank source.Ra = 16384
source_rank (source.Value w) = 16385

-- the same of a destination: registers by file and index, the operand port and the operations unit by unit, control's three
abbrev pub dest_rank : Dest → ℕ
dest_rank (dest.Reg f i) = f * 256 + i
dest_rank (dest.Operand u) = 4096 + u * 256
dest_rank (dest.Trigger u i) = 4096 + u * 256 + 1 + i
dest_rank dest.Jump = 16384
dest_rank dest.Call = 16385
dest_rank dest.Halt = 16386

-- the ranks rise, from a least one on and below a bound
abbrev pub Rising : {X : Type 0} → (X → ℕ) → (low : ℕ) → List X → (high : ℕ) → Type 0
Rising rank low [] high = low ≤ high
Rising rank low (x ∷ xs) high = (low ≤ rank x) × Rising rank (rank x + 1) xs high

-- a place before which each item has a lower rank than this one, and from which on none has
abbrev pub IsPlaceOf : {X : Type 0} → (X → ℕ) → (rank : ℕ) → List X → (place : ℕ) → Type 0
IsPlaceOf rank_of rank xs place =
    IsPartitionPoint (λ x. nat_lt (rank_of x) rank ≡ true) (λ x. nat_lt (rank_of x) rank ≡ false) xs place

-- the sources and the destinations of a bus stand in order
pub record IsInOrder (f : BusFields) : Type 0 where
  pub sources : Rising source_rank 0 f.sources 16385
  pub dests : Rising dest_rank 0 f.dests 16387

-- the same for each bus
abbrev pub AreInOrder : List BusFields → Type 0
AreInOrder fs = AllByRecursion IsInOrder fs
