-- The depths that are counted with are those of the machine's circuit.
use Rattle.std.specs.Prelude.{ℕ, List, slice_index}
use Rattle.tta_cost.specs.Cited.{Machine, AreDepths, circuit_with, signal_width, store_width}
use Rattle.tta_cost.specs.Depths.{depth_of}

-- Those of inputs and registers are 0, and that of a wire is that of its word.
abbrev pub DepthsAre : Type 0
DepthsAre =
    (applied : List ℕ) (m : Machine) (words memory : List ℕ)
    → AreDepths (signal_width m) (store_width m) (depth_of applied m) (slice_index applied) (circuit_with m words memory)
