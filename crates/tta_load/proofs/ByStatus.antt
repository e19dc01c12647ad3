-- A clause of stages says of each status what its row does, of the commands that make a file of a machine and what is for it, and of those
-- that put a text of it.
use Rattle.std.proofs.Common.{◌↔◌, ℕ, List, inl, inr}
use Rattle.tta_load.specs.Cited.{World, Output, Units}
use Rattle.tta_load.specs.declared.machine.MachineFile.{MachineFile}
use Rattle.tta_load.specs.declared.status.Status.{Status}
use Rattle.tta_load.specs.declared.status.Status.TheVariants as status
use Rattle.tta_load.specs.Held.{ReadFailed, IsTooLong}
use Rattle.tta_load.specs.Pairs.{HasPair}
use Rattle.tta_load.specs.Ends.{Writes, TextEnds, Puts}
use Rattle.tta_load.specs.Endings.{WriteEndings, TextRows, PutEndings}
use Rattle.tta_load.proofs.Stages.{none, pair_at, WriteStages, write_stages, PutStages, put_stages}
use Rattle.tta_load.proofs.Statuses.{IsRefusal, IsLack, kept, made}

-- ---- a file

module _ {V : Type 0} (u : Units) (Says : MachineFile → List ℕ → V → Type 0) (Refuses : MachineFile → List ℕ → Status → Type 0)
    (Makes : MachineFile → V → List ℕ → Type 0) (Lacks : MachineFile → V → Status → Type 0) (M name OUT : List ℕ) (before after : World)
    (refuses : (file : MachineFile) (bytes : List ℕ) (s : Status) → Refuses file bytes s → IsRefusal s)
    (lacks : (file : MachineFile) (value : V) (s : Status) → Lacks file value s → IsLack s) where
  to : (s : Status) (G : Type 0) → WriteStages u Says Refuses Makes Lacks M name OUT before after s G
  to s G = write_stages u Says Refuses Makes Lacks M name OUT before after s G

  pub write_by_status : (s : Status) → Writes u Says Refuses Makes Lacks M name OUT before after s
      ↔ WriteEndings u Says Refuses Makes Lacks M name OUT before after s
  write_by_status status.Ok = (
    to status.Ok _ absurd none (λ m. absurd) (λ m. kept refuses status.Ok (λ x. x) m.value) (λ p. made lacks status.Ok (λ x. x) p.machine.value p.second.value) (λ p e. (p, e)),
    λ e. inr (e.0, inr e.1),
  )
  write_by_status status.WriteFault = (
    to status.WriteFault _ absurd none (λ m. absurd) (λ m. kept refuses status.WriteFault (λ x. x) m.value) (λ p. made lacks status.WriteFault (λ x. x) p.machine.value p.second.value) (λ p e. (p, e)),
    λ e. inr (e.0, inr e.1),
  )
  write_by_status (status.BadMachine line code) = (
    to (status.BadMachine line code) _ absurd (λ e. e) (λ m. absurd) (λ m. kept refuses (status.BadMachine line code) (λ x. x) m.value)
        (λ p. made lacks (status.BadMachine line code) (λ x. x) p.machine.value p.second.value) (λ p. absurd),
    λ e. inl (inl (inr e)),
  )
  write_by_status (status.BadImage code word bus) = (
    to (status.BadImage code word bus) _ absurd none (λ m. absurd) (λ m e. (e.0, (m, e.1))) (λ p. made lacks (status.BadImage code word bus) (λ x. x) p.machine.value p.second.value) (λ p. absurd),
    λ e. inl (inr (e.1.0, inr (e.0, e.1.1))),
  )
  write_by_status (status.BadProgram line code) = (
    to (status.BadProgram line code) _ absurd none (λ m. absurd) (λ m e. (e.0, (m, e.1))) (λ p. made lacks (status.BadProgram line code) (λ x. x) p.machine.value p.second.value) (λ p. absurd),
    λ e. inl (inr (e.1.0, inr (e.0, e.1.1))),
  )
  write_by_status (status.DataRange line have) = (
    to (status.DataRange line have) _ absurd none (λ m. absurd) (λ m e. (e.0, (m, e.1))) (λ p. made lacks (status.DataRange line have) (λ x. x) p.machine.value p.second.value) (λ p. absurd),
    λ e. inl (inr (e.1.0, inr (e.0, e.1.1))),
  )
  write_by_status (status.BadAsm line code) = (
    to (status.BadAsm line code) _ absurd none (λ m. absurd) (λ m e. (e.0, (m, e.1))) (λ p. made lacks (status.BadAsm line code) (λ x. x) p.machine.value p.second.value) (λ p. absurd),
    λ e. inl (inr (e.1.0, inr (e.0, e.1.1))),
  )
  write_by_status (status.ReadFault word) = (
    to (status.ReadFault word) _ inl none (λ m e. inr (e.0, m, e.1)) (λ m. kept refuses (status.ReadFault word) (λ x. x) m.value)
        (λ p. made lacks (status.ReadFault word) (λ x. x) p.machine.value p.second.value) (λ p. absurd),
    λ e. inl (pair_at u Refuses M name before after (status.ReadFault word) (λ n. ReadFailed n before after) word (λ k n a. a) e),
  )
  write_by_status (status.TooLong word) = (
    to (status.TooLong word) _ inl none (λ m e. inr (e.0, m, e.1)) (λ m. kept refuses (status.TooLong word) (λ x. x) m.value)
        (λ p. made lacks (status.TooLong word) (λ x. x) p.machine.value p.second.value) (λ p. absurd),
    λ e. inl (pair_at u Refuses M name before after (status.TooLong word) (λ n. IsTooLong n before after) word (λ k n a. a) e),
  )
  write_by_status status.NoMemory = (to status.NoMemory _ (λ e. e) (λ e. e.0) (λ m e. e) (λ m e. e.0) (λ p e. e.0) (λ p e. e), λ e. inl (inl (inl e)))
  write_by_status s = (
    to s _ absurd none (λ m. absurd) (λ m. kept refuses s (λ x. x) m.value) (λ p e. (e.0, (p, e.1))) (λ p. absurd),
    λ e. inr (e.1.0, inl (e.0, e.1.1)),
  )

-- ---- a text

module _ (Makes : List ℕ → Type 0) (Lacks : Status → Type 0) (old new : Output) (lacks : (s : Status) → Lacks s → IsLack s) where
  -- the stage of a text says what its row does
  pub text_row : (s : Status) → TextEnds Makes Lacks old new s → TextRows Makes Lacks old new s
  text_row status.Ok (inl put) = put
  text_row status.Ok (inr lack) = absurd (lacks status.Ok lack.0)
  text_row status.WriteFault (inl put) = put
  text_row status.WriteFault (inr lack) = absurd (lacks status.WriteFault lack.0)
  text_row s (inl put) = absurd put.2
  text_row s (inr lack) = (lack.1, lack.0)

pub text_of_row : (Makes : List ℕ → Type 0) (Lacks : Status → Type 0) (old new : Output) (s : Status)
    → TextRows Makes Lacks old new s → TextEnds Makes Lacks old new s
text_of_row Makes Lacks old new status.Ok e = inl e
text_of_row Makes Lacks old new status.WriteFault e = inl e
text_of_row Makes Lacks old new s e = inr (e.1, e.0)

module _ {V : Type 0} (u : Units) (Says : MachineFile → List ℕ → V → Type 0) (Refuses : MachineFile → List ℕ → Status → Type 0)
    (Makes : MachineFile → V → List ℕ → Type 0) (Lacks : MachineFile → V → Status → Type 0) (M name : List ℕ) (before after : World)
    (old new : Output) (refuses : (file : MachineFile) (bytes : List ℕ) (s : Status) → Refuses file bytes s → IsRefusal s)
    (lacks : (file : MachineFile) (value : V) (s : Status) → Lacks file value s → IsLack s) where
  of : (s : Status) (G : Type 0) → PutStages u Says Refuses Makes Lacks M name before after old new s G
  of s G = put_stages u Says Refuses Makes Lacks M name before after old new s G

  -- a text of what was read, or the cause for which there is none
  row : (s : Status) (p : HasPair u Says before.contents M name)
      → TextEnds (Makes p.machine.value p.second.value) (Lacks p.machine.value p.second.value) old new s
      → TextRows (Makes p.machine.value p.second.value) (Lacks p.machine.value p.second.value) old new s
  row s p e = text_row (Makes p.machine.value p.second.value) (Lacks p.machine.value p.second.value) old new (lacks p.machine.value p.second.value) s e

  pub put_by_status : (s : Status) → Puts u Says Refuses Makes Lacks M name before after old new s
      ↔ PutEndings u Says Refuses Makes Lacks M name before after old new s
  put_by_status (status.BadMachine line code) = (
    of (status.BadMachine line code) _ absurd (λ e quiet. ((e.0, quiet), e.1)) (λ m. absurd) (λ m. kept refuses (status.BadMachine line code) (λ x. x) m.value)
        (λ p same e. made lacks (status.BadMachine line code) (λ x. x) p.machine.value p.second.value (row (status.BadMachine line code) p e)),
    λ e. inl (inl (inr (e.0.0, e.1)), e.0.1),
  )
  put_by_status (status.BadImage code word bus) = (
    of (status.BadImage code word bus) _ absurd none (λ m. absurd) (λ m e quiet. ((e.0, quiet), (m, e.1)))
        (λ p same e. made lacks (status.BadImage code word bus) (λ x. x) p.machine.value p.second.value (row (status.BadImage code word bus) p e)),
    λ e. inl (inr (e.1.0, inr (e.0.0, e.1.1)), e.0.1),
  )
  put_by_status (status.BadProgram line code) = (
    of (status.BadProgram line code) _ absurd none (λ m. absurd) (λ m e quiet. ((e.0, quiet), (m, e.1)))
        (λ p same e. made lacks (status.BadProgram line code) (λ x. x) p.machine.value p.second.value (row (status.BadProgram line code) p e)),
    λ e. inl (inr (e.1.0, inr (e.0.0, e.1.1)), e.0.1),
  )
  put_by_status (status.DataRange line have) = (
    of (status.DataRange line have) _ absurd none (λ m. absurd) (λ m e quiet. ((e.0, quiet), (m, e.1)))
        (λ p same e. made lacks (status.DataRange line have) (λ x. x) p.machine.value p.second.value (row (status.DataRange line have) p e)),
    λ e. inl (inr (e.1.0, inr (e.0.0, e.1.1)), e.0.1),
  )
  put_by_status (status.BadAsm line code) = (
    of (status.BadAsm line code) _ absurd none (λ m. absurd) (λ m e quiet. ((e.0, quiet), (m, e.1)))
        (λ p same e. made lacks (status.BadAsm line code) (λ x. x) p.machine.value p.second.value (row (status.BadAsm line code) p e)),
    λ e. inl (inr (e.1.0, inr (e.0.0, e.1.1)), e.0.1),
  )
  put_by_status (status.ReadFault word) = (
    of (status.ReadFault word) _ (λ e quiet. (quiet, inl e)) none (λ m e quiet. (quiet, inr (e.0, m, e.1))) (λ m. kept refuses (status.ReadFault word) (λ x. x) m.value)
        (λ p same e. made lacks (status.ReadFault word) (λ x. x) p.machine.value p.second.value (row (status.ReadFault word) p e)),
    λ e. inl (pair_at u Refuses M name before after (status.ReadFault word) (λ n. ReadFailed n before after) word (λ k n a. a) e.1, e.0),
  )
  put_by_status (status.TooLong word) = (
    of (status.TooLong word) _ (λ e quiet. (quiet, inl e)) none (λ m e quiet. (quiet, inr (e.0, m, e.1))) (λ m. kept refuses (status.TooLong word) (λ x. x) m.value)
        (λ p same e. made lacks (status.TooLong word) (λ x. x) p.machine.value p.second.value (row (status.TooLong word) p e)),
    λ e. inl (pair_at u Refuses M name before after (status.TooLong word) (λ n. IsTooLong n before after) word (λ k n a. a) e.1, e.0),
  )
  put_by_status status.NoMemory = (
    of status.NoMemory _ (λ e quiet. (e, quiet)) (λ e quiet. (e.0, quiet)) (λ m e quiet. (e, quiet)) (λ m e quiet. (e.0, quiet))
        (λ p same e. (same, (row status.NoMemory p e).0)),
    λ e. inl (inl (inl e.0), e.1),
  )
  put_by_status s = (
    of s _ absurd none (λ m. absurd) (λ m. kept refuses s (λ x. x) m.value) (λ p same e. (same, (p, row s p e))),
    λ e. inr (e.1.0, e.0, text_of_row (Makes e.1.0.machine.value e.1.0.second.value) (Lacks e.1.0.machine.value e.1.0.second.value) old new s e.1.1),
  )
