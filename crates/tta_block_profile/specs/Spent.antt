-- How many cycles a run spends in each block of its code.
use Rattle.std.specs.Prelude.{ℕ, ◌-◌, ◌^◌, nat_lt, if◌then◌else◌, List, Option, Some, None, slice_get, take, drop, IsPermutation}
use Rattle.std.specs.Option.{option_map_or}
use Rattle.std.specs.List.{filter_map, sum_by, enumerate_from}
use Rattle.std.specs.List.Sorted.{IsNonDecreasingBy}
use Rattle.tta_moves.specs.declared.items.Placed.{Placed}
use Rattle.tta_profile.specs.Counts.{Counts}
use Rattle.tta_block_profile.specs.declared.costly.Spent.{Spent}

-- the cycles that were spent at so many addresses from one on: one for each time that one of their instructions was carried out
abbrev pub block_sum : Counts → (start cycles : ℕ) → ℕ
block_sum c start cycles = sum_by (λ n. n) (take cycles (drop start c.executed))

-- the same of a block by its number and its placement: its code begins at one of these addresses and takes as many as it has cycles
abbrev pub sum_of : Counts → (starts : List ℕ) → (k : ℕ) → Placed → ℕ
sum_of c starts k p = option_map_or (λ a. block_sum c a p.length) (slice_get starts k) 0

-- the same of the block of a number, 0 where there is none
abbrev pub sum_at : Counts → (starts : List ℕ) → List Placed → (k : ℕ) → ℕ
sum_at c starts placed k = option_map_or (sum_of c starts k) (slice_get placed k) 0

-- a block in which cycles were spent
abbrev pub spent_if : (block cycles : ℕ) → Option Spent
spent_if block cycles = if nat_lt 0 cycles then Some (record { block = block; cycles = cycles }) else None

-- those in which cycles were spent, in the order of the code
abbrev pub all_spent : Counts → (starts : List ℕ) → List Placed → List Spent
all_spent c starts placed = filter_map (λ x. spent_if x.0 (sum_of c starts x.0 x.1)) (enumerate_from 0 placed)

-- an order of them in which in each no more cycles were spent than in the one before it
pub record IsCostliestFirst (c : Counts) (starts : List ℕ) (placed : List Placed) (order : List Spent) : Type 0 where
  pub all : IsPermutation (all_spent c starts placed) order
  pub falls : IsNonDecreasingBy (λ (s : Spent). 2 ^ 128 - 1 - s.cycles) order
