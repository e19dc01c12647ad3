-- The same of the commands that run what is for the machine.
use Rattle.std.proofs.Common.{◌↔◌, ℕ, List, Option, inl, inr}
use Rattle.tta_load.specs.Cited.{World, Output, NothingOutput, Units}
use Rattle.tta_load.specs.declared.machine.MachineFile.{MachineFile}
use Rattle.tta_load.specs.declared.status.Status.{Status}
use Rattle.tta_load.specs.declared.status.Status.TheVariants as status
use Rattle.tta_load.specs.Held.{ReadFailed, IsTooLong}
use Rattle.tta_load.specs.Ends.{TextEnds}
use Rattle.tta_load.specs.Runs.{PairRuns}
use Rattle.tta_load.specs.Endings.{TextRows, PairRunEndings}
use Rattle.tta_load.proofs.Stages.{none}
use Rattle.tta_load.proofs.RunStages.{unnamed, unheld, apart, alone, stream_refused, run_at, RunStages, run_stages}
use Rattle.tta_load.proofs.Statuses.{IsRefusal, IsLack, kept}
use Rattle.tta_load.proofs.ByStatus.{text_row}

-- a run reports with no status of a file, and is quiet where memory lacks
abbrev pub Reported : (Rows : Status → Type 0) → (old new : Output) → Status → Type 0
Reported Rows old new (status.BadMachine line code) = ⊥
Reported Rows old new (status.BadImage code word bus) = ⊥
Reported Rows old new (status.BadProgram line code) = ⊥
Reported Rows old new (status.DataRange line have) = ⊥
Reported Rows old new (status.BadAsm line code) = ⊥
Reported Rows old new (status.BadInput line) = ⊥
Reported Rows old new (status.BadStream line) = ⊥
Reported Rows old new (status.ReadFault word) = ⊥
Reported Rows old new (status.TooLong word) = ⊥
Reported Rows old new status.NoMemory = NothingOutput old new
Reported Rows old new s = Rows s

module _ (Makes : List ℕ → Type 0) (Lacks : Status → Type 0) (old new : Output) (lacks : (s : Status) → Lacks s → IsLack s) where
  row : (s : Status) → TextEnds Makes Lacks old new s → TextRows Makes Lacks old new s
  row s e = text_row Makes Lacks old new lacks s e

  -- a text that a run reports with
  pub text_reported : (s : Status) → TextEnds Makes Lacks old new s → Reported (TextRows Makes Lacks old new) old new s
  text_reported (status.BadMachine line code) e = lacks (status.BadMachine line code) (row (status.BadMachine line code) e).1
  text_reported (status.BadImage code word bus) e = lacks (status.BadImage code word bus) (row (status.BadImage code word bus) e).1
  text_reported (status.BadProgram line code) e = lacks (status.BadProgram line code) (row (status.BadProgram line code) e).1
  text_reported (status.DataRange line have) e = lacks (status.DataRange line have) (row (status.DataRange line have) e).1
  text_reported (status.BadAsm line code) e = lacks (status.BadAsm line code) (row (status.BadAsm line code) e).1
  text_reported (status.BadInput line) e = lacks (status.BadInput line) (row (status.BadInput line) e).1
  text_reported (status.BadStream line) e = lacks (status.BadStream line) (row (status.BadStream line) e).1
  text_reported (status.ReadFault word) e = lacks (status.ReadFault word) (row (status.ReadFault word) e).1
  text_reported (status.TooLong word) e = lacks (status.TooLong word) (row (status.TooLong word) e).1
  text_reported status.NoMemory e = (row status.NoMemory e).0
  text_reported s e = row s e

module _ {V : Type 0} (u : Units) (Says : MachineFile → List ℕ → V → Type 0) (Refuses : MachineFile → List ℕ → Status → Type 0)
    (Reports Rows : MachineFile → V → (memory words : List ℕ) → (old new : Output) → Status → Type 0) (M name IN : List ℕ)
    (STREAM : Option (List ℕ)) (before after : World) (old new : Output)
    (refuses : (file : MachineFile) (bytes : List ℕ) (s : Status) → Refuses file bytes s → IsRefusal s)
    (reported : (file : MachineFile) (value : V) (memory words : List ℕ) (s : Status)
    → Reports file value memory words old new s → Reported (Rows file value memory words old new) old new s)
    (reports : (file : MachineFile) (value : V) (memory words : List ℕ) (s : Status)
    → Rows file value memory words old new s → Reports file value memory words old new s) where
  of_run : (s : Status) (G : Type 0) → RunStages u Says Refuses Reports M name IN STREAM before after old new s G
  of_run s G = run_stages u Says Refuses Reports M name IN STREAM before after old new s G

  pub run_by_status : (s : Status) → PairRuns u Says Refuses Reports M name IN STREAM before after old new s
      ↔ PairRunEndings u Says Refuses Rows M name IN STREAM before after old new s
  run_by_status (status.BadMachine line code) = (
    of_run (status.BadMachine line code) _ absurd (λ e quiet. ((e.0, quiet), e.1)) (λ m. absurd) (λ m. kept refuses (status.BadMachine line code) (λ x. x) m.value)
        (λ p. absurd) (λ p. none) (λ t. unnamed STREAM) (λ t same. unheld before.contents STREAM)
        (λ p given same e. absurd (reported _ _ _ _ (status.BadMachine line code) e)),
    λ e. inl (inl (inr (e.0.0, e.1)), e.0.1),
  )
  run_by_status (status.BadImage code word bus) = (
    of_run (status.BadImage code word bus) _ absurd none (λ m. absurd) (λ m e quiet. ((e.0, quiet), (m, e.1))) (λ p. absurd) (λ p. none)
        (λ t. unnamed STREAM) (λ t same. unheld before.contents STREAM)
        (λ p given same e. absurd (reported _ _ _ _ (status.BadImage code word bus) e)),
    λ e. inl (inr (e.1.0, inr (e.0.0, e.1.1)), e.0.1),
  )
  run_by_status (status.BadProgram line code) = (
    of_run (status.BadProgram line code) _ absurd none (λ m. absurd) (λ m e quiet. ((e.0, quiet), (m, e.1))) (λ p. absurd) (λ p. none)
        (λ t. unnamed STREAM) (λ t same. unheld before.contents STREAM)
        (λ p given same e. absurd (reported _ _ _ _ (status.BadProgram line code) e)),
    λ e. inl (inr (e.1.0, inr (e.0.0, e.1.1)), e.0.1),
  )
  run_by_status (status.DataRange line have) = (
    of_run (status.DataRange line have) _ absurd none (λ m. absurd) (λ m e quiet. ((e.0, quiet), (m, e.1))) (λ p. absurd) (λ p. none)
        (λ t. unnamed STREAM) (λ t same. unheld before.contents STREAM)
        (λ p given same e. absurd (reported _ _ _ _ (status.DataRange line have) e)),
    λ e. inl (inr (e.1.0, inr (e.0.0, e.1.1)), e.0.1),
  )
  run_by_status (status.BadAsm line code) = (
    of_run (status.BadAsm line code) _ absurd none (λ m. absurd) (λ m e quiet. ((e.0, quiet), (m, e.1))) (λ p. absurd) (λ p. none)
        (λ t. unnamed STREAM) (λ t same. unheld before.contents STREAM)
        (λ p given same e. absurd (reported _ _ _ _ (status.BadAsm line code) e)),
    λ e. inl (inr (e.1.0, inr (e.0.0, e.1.1)), e.0.1),
  )
  run_by_status (status.BadInput line) = (
    of_run (status.BadInput line) _ absurd none (λ m. absurd) (λ m. kept refuses (status.BadInput line) (λ x. x) m.value) (λ p. absurd)
        (λ p e quiet. (e.0, quiet, (p, e.1))) (λ t. unnamed STREAM) (λ t same. unheld before.contents STREAM)
        (λ p given same e. absurd (reported _ _ _ _ (status.BadInput line) e)),
    λ e. inr (e.2.0, inl (inl (inr (e.0, e.2.1)), e.1)),
  )
  run_by_status (status.BadStream line) = (
    of_run (status.BadStream line) _ absurd none (λ m. absurd) (λ m. kept refuses (status.BadStream line) (λ x. x) m.value) (λ p. absurd) (λ p. none)
        (λ t. unnamed STREAM) (λ t same e quiet. (same, quiet, t, e))
        (λ p given same e. absurd (reported _ _ _ _ (status.BadStream line) e)),
    λ e. inr (e.2.0, inl (inr (e.2.1, stream_refused 5 STREAM before after (status.BadStream line) e.0 e.3), e.1)),
  )
  run_by_status (status.ReadFault word) = (
    of_run (status.ReadFault word) _ (λ e quiet. (quiet, inl (inl e))) none (λ m e quiet. (quiet, inl (inr (e.0, m, e.1))))
        (λ m. kept refuses (status.ReadFault word) (λ x. x) m.value) (λ p e quiet. (quiet, inr (inl (e.0, p, e.1)))) (λ p. none)
        (λ t e quiet. let at = apart STREAM (λ n. ReadFailed n before after) e in (quiet, inr (inr (at.0, t, at.1))))
        (λ t same. unheld before.contents STREAM) (λ p given same e. absurd (reported _ _ _ _ (status.ReadFault word) e)),
    λ e. run_at u Says Refuses Reports M name IN STREAM before after old new (status.ReadFault word) (λ n. ReadFailed n before after) word (λ k n a. a) e.0 e.1,
  )
  run_by_status (status.TooLong word) = (
    of_run (status.TooLong word) _ (λ e quiet. (quiet, inl (inl e))) none (λ m e quiet. (quiet, inl (inr (e.0, m, e.1))))
        (λ m. kept refuses (status.TooLong word) (λ x. x) m.value) (λ p e quiet. (quiet, inr (inl (e.0, p, e.1)))) (λ p. none)
        (λ t e quiet. let at = apart STREAM (λ n. IsTooLong n before after) e in (quiet, inr (inr (at.0, t, at.1))))
        (λ t same. unheld before.contents STREAM) (λ p given same e. absurd (reported _ _ _ _ (status.TooLong word) e)),
    λ e. run_at u Says Refuses Reports M name IN STREAM before after old new (status.TooLong word) (λ n. IsTooLong n before after) word (λ k n a. a) e.0 e.1,
  )
  run_by_status status.NoMemory = (
    of_run status.NoMemory _ (λ e quiet. (e, quiet)) (λ e quiet. (e.0, quiet)) (λ m e quiet. (e, quiet)) (λ m e quiet. (e.0, quiet))
        (λ p e quiet. (e, quiet)) (λ p e quiet. (e.0, quiet)) (λ t e quiet. (alone STREAM e, quiet)) (λ t same e quiet. (same, quiet))
        (λ p given same e. (same, reported _ _ _ _ status.NoMemory e)),
    λ e. inl (inl (inl e.0), e.1),
  )
  run_by_status s = (
    of_run s _ absurd none (λ m. absurd) (λ m. kept refuses s (λ x. x) m.value) (λ p. absurd) (λ p. none) (λ t. unnamed STREAM)
        (λ t same. unheld before.contents STREAM) (λ p given same e. (same, (p, (given, reported _ _ _ _ s e)))),
    λ e. inr (e.1.0, inr (e.1.1.0, e.0, reports _ _ _ _ s e.1.1.1)),
  )
