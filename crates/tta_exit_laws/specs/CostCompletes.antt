-- What `cost` of a machine with code takes without fail.
use Rattle.std.specs.Prelude.{◌≡◌, ◌⊎◌, ℕ, List, Option}
use Rattle.tta_ports.specs.declared.fault.Fault.{Fault}
use Rattle.tta_exit_laws.specs.Cited.{Store, World, Output, Units, Status, ShowsCost}
use Rattle.tta_load.specs.declared.status.Status.TheVariants as status
use Rattle.tta_exit_laws.specs.CircuitCompletes.{HasCircuitFiles}
use Rattle.tta_exit_laws.specs.Completes.{showing}
use Rattle.tta_exit_laws.specs.PutCompletes.{IsUndisturbed}
use Rattle.tta_exit_laws.specs.ViewCompletes.{IsTooLong}

-- `cost` of what `rtl` takes, where no call fails, puts its text, is out of memory, or finds the program's code too long; and it ends in
-- no other way
abbrev pub CostCompletes : Type 0
CostCompletes =
    (u : Units) (store : Store) (faults : ℕ) (latest : Option Fault) (M F : List ℕ) (after : World) (old new : Output) (s : Status)
    (has : HasCircuitFiles u store M F) → IsUndisturbed (showing store faults latest) after old new
    → ShowsCost u M F (showing store faults latest) after old new s
    → (s ≡ status.Ok) ⊎ (s ≡ status.NoMemory) ⊎ IsTooLong u has.pair.machine.value.machine has.pair.second.value s
