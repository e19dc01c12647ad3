-- Two files: a machine, which word 1 names, and something for it, which word 2 names.
use Rattle.std.specs.Prelude.{◌⊎◌, ℕ, List, Option, Result, Ok, Err}
use Rattle.tta_load.specs.Cited.{Store, World, IsUntouched, Units}
use Rattle.tta_load.specs.declared.machine.MachineFile.{MachineFile}
use Rattle.tta_load.specs.declared.status.Status.{Status}
use Rattle.tta_load.specs.Held.{IsHeld, Held, FileFails}
use Rattle.tta_load.specs.Machines.{IsDescribed, HasMachine, MachineFails}

-- one file holds a machine, and another what bytes say for it
pub record HasPair {V : Type 0} (u : Units) (Says : MachineFile → List ℕ → V → Type 0) (files : Option Store) (M name : List ℕ) : Type 0 where
  pub machine : HasMachine u files M
  pub second : Held (Says machine.value) files name

-- why there is no such pair: the machine is refused, or it is not and the other file is
abbrev pub PairFails : Units → (Refuses : MachineFile → List ℕ → Status → Type 0) → (M name : List ℕ) → (before after : World) → Status → Type 0
PairFails u Refuses M name before after s =
    MachineFails u M 1 before after s
    ⊎ ((m : HasMachine u before.contents M) × FileFails (Refuses m.value) name 2 before after s)

-- these are the two, and no file was touched
pub record ReadsPair {V : Type 0} (u : Units) (Says : MachineFile → List ℕ → V → Type 0) (M name : List ℕ) (file : MachineFile) (value : V)
    (before after : World) : Type 0 where
  pub machine : IsHeld (IsDescribed u) before.contents M file
  pub second : IsHeld (Says file) before.contents name value
  pub untouched : IsUntouched before after

-- a pair was read, or there is a cause
abbrev pub PairEnds : {T V : Type 0} → Units → (Says : MachineFile → List ℕ → V → Type 0) → (Refuses : MachineFile → List ℕ → Status → Type 0)
    → (M name : List ℕ) → (before after : World) → (file : T → MachineFile) → (value : T → V) → Result T Status → Type 0
PairEnds u Says Refuses M name before after file value (Ok v) = ReadsPair u Says M name (file v) (value v) before after
PairEnds u Says Refuses M name before after file value (Err s) = PairFails u Refuses M name before after s
