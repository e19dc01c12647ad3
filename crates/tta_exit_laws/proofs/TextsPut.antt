-- Where files hold what a command shows, and no call fails, its text is put, unless memory lacks or there is a cause to make none.
use Rattle.std.proofs.Common.{◌≡◌, ◌⊎◌, ℕ, List, Option, Some, refl, inl, inr}
use Rattle.tta_ports.specs.declared.fault.Fault.{Fault}
use Rattle.tta_exit_laws.specs.Cited.{Store, Rose, World, Output, Units, MachineFile, Status, HasPair, PutEnds, TextEnds, Puts}
use Rattle.tta_load.specs.declared.status.Status.TheVariants as status
use Rattle.tta_exit_laws.specs.Completes.{showing}
use Rattle.tta_exit_laws.specs.PutCompletes.{IsUndisturbed}
use Rattle.tta_exit_laws.proofs.PairsTaken.{for_pair, pair_only}

-- a text is put
put_only : (text : List ℕ) (old new : Output) (s : Status) → (Rose old.faults new.faults → ⊥) → PutEnds text old new s → s ≡ status.Ok
put_only text old new status.Ok none ends = refl
put_only text old new status.WriteFault none ends = absurd (none ends.rose)
put_only text old new s none ends = absurd ends

-- and so is one that is made
pub text_only : (Makes : List ℕ → Type 0) (Lacks : Status → Type 0) (old new : Output) (s : Status) → (Rose old.faults new.faults → ⊥)
    → TextEnds Makes Lacks old new s → (s ≡ status.Ok) ⊎ Lacks s
text_only Makes Lacks old new s none (inl (text, makes, put)) = inl (put_only text old new s none put)
text_only Makes Lacks old new s none (inr (lacks, q)) = inr lacks

module _ (u : Units) (store : Store) (faults : ℕ) (latest : Option Fault) (after : World) (old new : Output)
    (calm : IsUndisturbed (showing store faults latest) after old new) where
  -- a command that puts a text of two files is done, or lacks memory, or has a cause to make none
  pub puts_only : {V : Type 0} → (Says : MachineFile → List ℕ → V → Type 0) (Refuses : MachineFile → List ℕ → Status → Type 0)
      (Makes : MachineFile → V → List ℕ → Type 0) (Lacks : MachineFile → V → Status → Type 0) (M name : List ℕ) (s : Status)
      (a : HasPair u Says (Some store) M name)
      → ((bytes : List ℕ) → Says a.machine.value bytes a.second.value → Refuses a.machine.value bytes s → s ≡ status.NoMemory)
      → ((bytes : List ℕ) (v : V) → Says a.machine.value bytes v → Says a.machine.value bytes a.second.value → v ≡ a.second.value)
      → Puts u Says Refuses Makes Lacks M name (showing store faults latest) after old new s
      → (s ≡ status.Ok) ⊎ (s ≡ status.NoMemory) ⊎ Lacks a.machine.value a.second.value s
  puts_only Says Refuses Makes Lacks M name s a only one (inl (fails, q)) =
      inr (inl (pair_only u store faults latest after calm.files Says Refuses M name s a only fails))
  puts_only Says Refuses Makes Lacks M name s a only one (inr (b, same, ends)) =
      let made = for_pair u store Says M name a b one (λ file v. TextEnds (Makes file v) (Lacks file v) old new s) ends in
      elim (text_only (Makes a.machine.value a.second.value) (Lacks a.machine.value a.second.value) old new s calm.output made) [
        | inl done ↦ inl done
        | inr lacks ↦ inr (inr lacks)
      ]
