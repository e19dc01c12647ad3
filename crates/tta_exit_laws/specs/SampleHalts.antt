-- The program of a sample halts within its bound: so `sample` never ends because its program goes on or waits.
use Rattle.std.specs.Prelude.{◌≢◌, ◌<◌, ◌^◌, ℕ, List}
use Rattle.tta_exit_laws.specs.Cited.{World, Output, Units, Status, Samples, CountsRounds}
use Rattle.tta_load.specs.declared.status.Status.TheVariants as status

-- with units whose `sub` and `eq` are the standard ones
abbrev pub SampleHalts : Type 0
SampleHalts =
    (u : Units) (seed lines : ℕ) (M : List ℕ) (before after : World) (old new : Output) (s : Status) → CountsRounds u → lines < 2 ^ 32
    → Samples u seed lines M before after old new s → (s ≢ status.Running) × (s ≢ status.Waiting)
