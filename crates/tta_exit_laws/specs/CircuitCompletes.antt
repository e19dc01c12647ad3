-- What `rtl` and `rtl net` take without fail.
use Rattle.std.specs.Prelude.{◌≡◌, ◌⊎◌, ℕ, List, length, Option, Some}
use Rattle.tta_ports.specs.declared.fault.Fault.{Fault}
use Rattle.tta_exit_laws.specs.Cited.{Store, World, Output, Units, Status, Held, HasPair, AreLinks, cores_in, HasCores, IsSubject, ShowsCircuit, ShowsNet}
use Rattle.tta_inspect.specs.declared.view.CircuitView.{CircuitView}
use Rattle.tta_load.specs.declared.status.Status.TheVariants as status
use Rattle.tta_exit_laws.specs.Completes.{showing}
use Rattle.tta_exit_laws.specs.PutCompletes.{IsUndisturbed}
use Rattle.tta_exit_laws.specs.ViewCompletes.{IsRunnable, IsTooLong}

-- files hold a machine, and code for it or a program that is accepted with it
pub record HasCircuitFiles (u : Units) (store : Store) (M F : List ℕ) : Type 0 where
  pub pair : HasPair u (IsSubject u) (Some store) M F
  pub runnable : IsRunnable u pair.machine.value.machine pair.second.value

-- `rtl` of these, where no call fails, puts its text, is out of memory, or finds the program's code too long; and it ends in no
-- other way
abbrev pub CircuitCompletes : Type 0
CircuitCompletes =
    (u : Units) (store : Store) (faults : ℕ) (latest : Option Fault) (view : CircuitView) (M F : List ℕ) (after : World) (old new : Output) (s : Status)
    (has : HasCircuitFiles u store M F) → IsUndisturbed (showing store faults latest) after old new
    → ShowsCircuit u view M F (showing store faults latest) after old new s
    → (s ≡ status.Ok) ⊎ (s ≡ status.NoMemory) ⊎ IsTooLong u has.pair.machine.value.machine has.pair.second.value s

-- files hold links and the cores that they join
pub record HasNetFiles (u : Units) (store : Store) (LINKS : List ℕ) (names : List (List ℕ)) : Type 0 where
  pub links : Held (AreLinks (cores_in (length names))) (Some store) LINKS
  pub has : HasCores u (Some store) names (cores_in (length names))

-- `rtl net` of these, where no call fails, puts its text or is out of memory, and ends in no other way
abbrev pub NetTextCompletes : Type 0
NetTextCompletes =
    (u : Units) (store : Store) (faults : ℕ) (latest : Option Fault) (depths LINKS : List ℕ) (names : List (List ℕ)) (after : World)
    (old new : Output) (s : Status) → HasNetFiles u store LINKS names → IsUndisturbed (showing store faults latest) after old new
    → ShowsNet u depths LINKS names (showing store faults latest) after old new s → (s ≡ status.Ok) ⊎ (s ≡ status.NoMemory)
