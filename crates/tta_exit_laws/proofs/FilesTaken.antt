-- Where a file holds what is asked of it, and no call on the files fails, it is taken, unless memory lacks.
use Rattle.std.proofs.Common.{◌≡◌, ℕ, List, Option, Some, None, Ok, refl, sym, ◌∙◌, ap, subst, inl, inr}
use Rattle.std.specs.Prelude.{Result}
use Rattle.tta_ports.specs.declared.fault.Fault.{Fault}
use Rattle.tta_exit_laws.specs.Cited.{Store, Rose, World, Units, first_outside, MachineFile, Status, IsHeld, ReadFails, FileFails, IsDescribed, RefusesMachine, IsProgramIn, RefusesProgram}
use Rattle.tta_program.specs.Program.{Program}
use Rattle.tta_load.specs.declared.status.Status.TheVariants as status
use Rattle.tta_exit_laws.specs.Completes.{showing}
use Rattle.tta_exit_laws.proofs.OneProgram.{one_program, not_refused}
use Rattle.tta_exit_laws.proofs.TooLongs.{too_long_alone}

-- what two things have in common that are there
pub same_some : {A : Type 0} (a b : A) → ◌≡◌ {A = Option A} (Some a) (Some b) → a ≡ b
same_some a b e = cc

-- a machine that was read is the one that the text describes
pub same_read : {A E : Type 0} (r : Result A E) (a b : A) → r ≡ Ok a → r ≡ Ok b → a ≡ b
same_read r a b e f = cc

-- ---- texts

-- a text that describes a machine is refused only for lack of memory
pub machine_only : (u : Units) (text : List ℕ) (file : MachineFile) (s : Status) → IsDescribed u text file → RefusesMachine u text s → s ≡ status.NoMemory
machine_only u text file (status.BadMachine line code) is bad = let read = is.read in let refused = bad.refused in absurd cc
machine_only u text file status.NoMemory is bad = refl
machine_only u text file s is bad = absurd bad

-- and so is one of a program whose data lie in the space
pub program_only : (u : Units) (space : ℕ) (text : List ℕ) (p : Program) (s : Status) → IsProgramIn u space text p → RefusesProgram u space text s
    → s ≡ status.NoMemory
program_only u space text p (status.BadProgram line code) is bad = absurd (not_refused u text p line bad.refusal is.read bad.refused)
program_only u space text p (status.DataRange line have) is bad =
    let program = one_program u text p bad.program is.read bad.read in
    let inside : first_outside space bad.program.init ≡ None = ap (λ (q : Program). first_outside space q.init) (sym program) ∙ is.inside in
    let outside = bad.outside in
    absurd cc
program_only u space text p status.NoMemory is bad = refl
program_only u space text p s is bad = absurd bad

-- ---- files

module _ (store : Store) (faults : ℕ) (latest : Option Fault) (after : World) (none : Rose faults after.faults → ⊥) where
  abbrev before : World
  before = showing store faults latest

  -- a file that is not too long is not read only for lack of memory
  pub read_only : {V : Type 0} → (Says : List ℕ → V → Type 0) (name : List ℕ) (value : V) (word : ℕ) (s : Status)
      → IsHeld Says (Some store) name value → ReadFails name word before after s → s ≡ status.NoMemory
  read_only Says name value word (status.ReadFault w) held fails = absurd (none fails.1.rose)
  read_only Says name value word (status.TooLong w) held fails =
      absurd (too_long_alone store name (λ text. Unit {0}) fails.1.count fails.1.more fails.1.holds
      (record { text = held.bytes; holds = held.holds; short = held.short; is = tt }))
  read_only Says name value word status.NoMemory held fails = refl
  read_only Says name value word s held fails = absurd fails

  -- and not taken only for that, where its bytes are refused only for that
  pub file_only : {V : Type 0} → (Says : List ℕ → V → Type 0) (Refuses : List ℕ → Status → Type 0) (name : List ℕ) (value : V) (word : ℕ) (s : Status)
      → ((bytes : List ℕ) → Says bytes value → Refuses bytes s → s ≡ status.NoMemory)
      → IsHeld Says (Some store) name value → FileFails Refuses name word before after s → s ≡ status.NoMemory
  file_only Says Refuses name value word s only held (inl fails) = read_only Says name value word s held fails
  file_only Says Refuses name value word s only held (inr fails) =
      let text = same_some fails.1.text held.bytes (sym fails.1.holds ∙ held.holds) in
      only held.bytes held.says (subst (λ t. Refuses t s) text fails.1.is)
