-- The depths of a machine's signals, and the costs of expressions over them.
use Rattle.std.specs.Prelude.{ℕ, zero, suc, List, slice_index}
use Rattle.tta_cost.specs.Cited.{Machine, Expression, signal_width, store_width, made_of, Cost, cost}
use Rattle.tta_hardware.specs.Signals.{Signal as Named}

-- The depths of operations are those of a list, by their numbers.
module _ (applied : List ℕ) (m : Machine) where
  -- The depth of a signal as far as so many ranks of wires go. A wire reads only signals of lower ranks, and there are eight ranks.
  abbrev pub depth_within : (ranks : ℕ) → Named → ℕ
  depth_within zero n = 0
  depth_within (suc k) n =
      (cost (signal_width m) (store_width m) (depth_within k) (slice_index applied) (made_of m n)).depth

  -- the depth of a signal: 0 for registers and inputs
  unfoldable pub depth_of : Named → ℕ
  depth_of n = depth_within 8 n

  -- the cost of an expression
  abbrev pub cost_of : Expression → Cost
  cost_of e = cost (signal_width m) (store_width m) depth_of (slice_index applied) e
