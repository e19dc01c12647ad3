-- Which nets `net` takes without fail.
use Rattle.std.specs.Prelude.{◌≡◌, ◌⊎◌, ℕ, false, List, length, Option, Some, None}
use Rattle.tta_ports.specs.declared.fault.Fault.{Fault}
use Rattle.tta_exit_laws.specs.Cited.{Store, World, Output, Units, joined, cycles, first_states, StepResult, fault_at, HasEnded, Status, Held, AreLinks, cores_in, HasCores, first_fault, Nets}
use Rattle.tta_load.specs.declared.status.Status.TheVariants as status
use Rattle.tta_exit_laws.specs.Completes.{showing}
use Rattle.tta_exit_laws.specs.PutCompletes.{IsUndisturbed}

-- Files hold links and the cores that they join. Within so many rounds comes one in which no core runs, and none is at a fault then.
pub record HasRestingNet (u : Units) (store : Store) (rounds : ℕ) (LINKS : List ℕ) (names : List (List ℕ)) : Type 0 where
  pub links : Held (AreLinks (cores_in (length names))) (Some store) LINKS
  pub has : HasCores u (Some store) names (cores_in (length names))
  pub last : List StepResult
  pub ended : HasEnded (cycles u has.cores links.value) (length has.cores) (joined (first_states has.cores has.memories)) rounds false last
      (λ cs. first_fault (fault_at cs) (length last) ≡ None)

-- `net` of these, where no call fails, is done or out of memory, and ends in no other way
abbrev pub NetCompletes : Type 0
NetCompletes =
    (u : Units) (store : Store) (faults : ℕ) (latest : Option Fault) (rounds : ℕ) (LINKS : List ℕ) (names : List (List ℕ)) (after : World) (old new : Output) (s : Status)
    → HasRestingNet u store rounds LINKS names → IsUndisturbed (showing store faults latest) after old new
    → Nets u rounds LINKS names (showing store faults latest) after old new s → (s ≡ status.Ok) ⊎ (s ≡ status.NoMemory)
