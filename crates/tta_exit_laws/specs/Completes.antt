-- Which pairs `build` takes without fail, with the word `convert` and without it.
use Rattle.std.specs.Prelude.{◌≡◌, ◌⊎◌, ℕ, Bool, List, Option, Some}
use Rattle.tta_ports.specs.declared.fault.Fault.{Fault}
use Rattle.tta_exit_laws.specs.Cited.{Store, Rose, World, Units, IsRoomy, Status, IsProgramFor, HasPair, Builds}
use Rattle.tta_load.specs.declared.status.Status.TheVariants as status

-- files hold a machine and a program whose data lie in its data space; the pair is accepted, and has room
pub record HasRoomyPair (u : Units) (store : Store) (M P : List ℕ) : Type 0 where
  pub pair : HasPair u (IsProgramFor u) (Some store) M P
  pub roomy : IsRoomy u pair.machine.value.machine pair.second.value

-- files that hold this, and have failed so often
abbrev pub showing : Store → (faults : ℕ) → (latest : Option Fault) → World
showing store faults latest = record { contents = Some store; faults = faults; latest = latest }

-- `build` of such a pair, where no call on the files fails, writes an image of it or is out of memory, and ends in no
-- other way
abbrev pub BuildCompletes : Type 0
BuildCompletes =
    (converts : Bool) (u : Units) (store : Store) (faults : ℕ) (latest : Option Fault) (M P OUT : List ℕ) (after : World) (s : Status)
    → HasRoomyPair u store M P → (Rose faults after.faults → ⊥) → Builds converts u M P OUT (showing store faults latest) after s
    → (s ≡ status.Ok) ⊎ (s ≡ status.NoMemory)
