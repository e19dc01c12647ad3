-- What lowering knows of a program, as its functions are handed it.
use Rattle.std.specs.Prelude.{ℕ, Bool, slice_index}
use Rattle.tta_lower.specs.Cited.{RBlock, count_of}
use Rattle.tta_lower.specs.declared.plan.Plan.{Plan}
use Rattle.tta_lower.specs.declared.numbers.Numbers.{Numbers}
use Rattle.tta_lower.specs.Liveness.{Homes}
use Rattle.tta_lower.specs.Lower.{Part}
use Rattle.tta_lower.specs.LoweringInput.{home_by, first_by, after_by}
use Rattle.tta_lower.specs.Tables.{number_in}
use Rattle.tta_lower.specs.Laid.{test_of, block_by}

-- where the variables are kept
abbrev pub homes_in : Plan → Homes
homes_in s = home_by s.p.now s.homes.now

-- the variables that are live where a part ends; at an entry, where it begins
abbrev pub live_in : Plan → Part → ℕ → Bool
live_in s x = test_of (first_by s.p.now s.live.now) (after_by s.p.now s.live.now) x

-- the block of a part, with the numbers of blocks as they are held
abbrev pub block_in : Plan → Numbers → Part → RBlock
block_in s n x =
    block_by s.p.now (homes_in s) (number_in n.rows.items) (slice_index n.entries.items) (count_of s.homes.now) (live_in s x) x
