-- Where files hold all that a command runs, and no call fails, it is run, unless memory lacks.
use Rattle.std.proofs.Common.{◌≡◌, ◌⊎◌, ℕ, List, Option, Some, None, refl, sym, ◌∙◌, subst, inl, inr}
use Rattle.tta_ports.specs.declared.fault.Fault.{Fault}
use Rattle.tta_exit_laws.specs.Cited.{Store, Rose, World, Output, input_of, stream_of, Units, MachineFile, Status, FileFails, Fills, RefusesInput, HasInput, IsInput, RefusesStream, IsStream, HasPair, HasGiven, GivenRuns, PairRuns, ReportEnds}
use Rattle.tta_run.specs.declared.ended.Ended.{Ended}
use Rattle.tta_run.specs.declared.ended.Ended.TheVariants as ended
use Rattle.tta_load.specs.declared.status.Status.TheVariants as status
use Rattle.tta_load.specs.Inputs.{StreamFails}
use Rattle.tta_exit_laws.specs.Completes.{showing}
use Rattle.tta_exit_laws.proofs.FilesTaken.{same_read, file_only}
use Rattle.tta_exit_laws.proofs.PairsTaken.{same_held, for_pair, pair_only}

-- ---- bytes

-- bytes that fill a data space are refused only for lack of memory
pub input_only : (space : ℕ) (bytes memory : List ℕ) (s : Status) → Fills space bytes memory → RefusesInput space bytes s → s ≡ status.NoMemory
input_only space bytes memory (status.BadInput line) is bad = absurd cc
input_only space bytes memory status.NoMemory is bad = refl
input_only space bytes memory s is bad = absurd bad

-- and so are those of an input
pub words_only : (bytes words : List ℕ) (s : Status) → IsInput bytes words → RefusesStream bytes s → s ≡ status.NoMemory
words_only bytes words (status.BadStream line) is bad = absurd cc
words_only bytes words status.NoMemory is bad = refl
words_only bytes words s is bad = absurd bad

-- ---- files

-- a file holds the words of one data space at most
pub same_memory : (store : Store) (space : ℕ) (IN : List ℕ) (a b : HasInput space (Some store) IN) → a.value ≡ b.value
same_memory store space IN a b = same_held store (Fills space) IN a.value b.value (λ bytes. same_read (input_of space bytes) a.value b.value) a.held b.held

-- and those of one input at most
pub same_words : (store : Store) (STREAM : Option (List ℕ)) (v w : List ℕ) → IsStream (Some store) STREAM v → IsStream (Some store) STREAM w → v ≡ w
same_words store None v w a b = a ∙ sym b
same_words store (Some name) v w a b = same_held store IsInput name v w (λ bytes. same_read (stream_of bytes) v w) a b

-- what a run reports that has halted is put, or memory lacks
pub report_only : (text : List ℕ) (end : Ended) (old new : Output) (s : Status) → (Rose old.faults new.faults → ⊥) → end ≡ ended.Halted
    → ReportEnds text end old new s → (s ≡ status.Ok) ⊎ (s ≡ status.NoMemory)
report_only text end old new status.Ok none halted ends = inl refl
report_only text end old new status.Running none halted ends = let running = ends.0 in absurd cc
report_only text end old new status.Waiting none halted ends = let waiting = ends.0 in absurd cc
report_only text end old new (status.MachineFault number cycle) none halted ends = let fault = ends.0 in absurd cc
report_only text end old new status.WriteFault none halted ends = absurd (none ends.rose)
report_only text end old new status.NoMemory none halted ends = inr refl
report_only text end old new s none halted ends = absurd ends

module _ (u : Units) (store : Store) (faults : ℕ) (latest : Option Fault) (after : World) (none : Rose faults after.faults → ⊥) where
  abbrev before : World
  before = showing store faults latest

  -- data words that files hold are not taken only for lack of memory
  pub memory_only : (space : ℕ) (IN : List ℕ) (s : Status) (a : HasInput space (Some store) IN) → FileFails (RefusesInput space) IN 3 before after s → s ≡ status.NoMemory
  memory_only space IN s a fails =
      file_only store faults latest after none (Fills space) (RefusesInput space) IN a.value 3 s (λ bytes. input_only space bytes a.value s) a.held fails

  -- and an input only for that
  pub stream_only : (STREAM : Option (List ℕ)) (words : List ℕ) (s : Status) → IsStream (Some store) STREAM words → StreamFails 5 STREAM before after s → s ≡ status.NoMemory
  stream_only None words s is fails = absurd fails
  stream_only (Some name) words s is fails =
      file_only store faults latest after none IsInput RefusesStream name words 5 s (λ bytes. words_only bytes words s) is fails

  module _ (IN : List ℕ) (STREAM : Option (List ℕ)) (old new : Output) (s : Status) where
    -- what is run is known, and what follows where memory lacks and where the run reports
    given_so : {Follows : Type 0} → (s ≡ status.NoMemory → Follows)
        → (space : ℕ) (Reports : (memory words : List ℕ) → (old new : Output) → Status → Type 0) (a : HasGiven space (Some store) IN STREAM)
        → (Reports a.input.value a.stream.words old new s → Follows) → GivenRuns space Reports IN STREAM before after old new s → Follows
    given_so lacks space Reports a done (inl (inl fails, q)) = lacks (memory_only space IN s a.input fails)
    given_so lacks space Reports a done (inl (inr (input, fails), q)) = lacks (stream_only STREAM a.stream.words s a.stream.is fails)
    given_so lacks space Reports a done (inr (b, same, reports)) =
        let memory = same_memory store space IN b.input a.input in
        let words = same_words store STREAM b.stream.words a.stream.words b.stream.is a.stream.is in
        done (subst (λ w. Reports a.input.value w old new s) words (subst (λ v. Reports v b.stream.words old new s) memory reports))

    -- and the same from the machine on
    pub runs_so : {Follows V : Type 0} → (s ≡ status.NoMemory → Follows)
        → (Says : MachineFile → List ℕ → V → Type 0) (Refuses : MachineFile → List ℕ → Status → Type 0)
        (Reports : MachineFile → V → (memory words : List ℕ) → (old new : Output) → Status → Type 0) (M name : List ℕ)
        (a : HasPair u Says (Some store) M name) (given : HasGiven a.machine.value.machine.data_words (Some store) IN STREAM)
        → ((bytes : List ℕ) → Says a.machine.value bytes a.second.value → Refuses a.machine.value bytes s → s ≡ status.NoMemory)
        → ((bytes : List ℕ) (v : V) → Says a.machine.value bytes v → Says a.machine.value bytes a.second.value → v ≡ a.second.value)
        → (Reports a.machine.value a.second.value given.input.value given.stream.words old new s → Follows)
        → PairRuns u Says Refuses Reports M name IN STREAM before after old new s → Follows
    runs_so lacks Says Refuses Reports M name a given only one done (inl (fails, q)) =
        lacks (pair_only u store faults latest after none Says Refuses M name s a only fails)
    runs_so lacks Says Refuses Reports M name a given only one done (inr (b, ends)) =
        given_so lacks a.machine.value.machine.data_words (Reports a.machine.value a.second.value) given done
        (for_pair u store Says M name a b one (λ file v. GivenRuns file.machine.data_words (Reports file v) IN STREAM before after old new s) ends)

    -- so a run that is done where it reports is done, or memory lacks
    pub runs_only : {V : Type 0} → (Says : MachineFile → List ℕ → V → Type 0) (Refuses : MachineFile → List ℕ → Status → Type 0)
        (Reports : MachineFile → V → (memory words : List ℕ) → (old new : Output) → Status → Type 0) (M name : List ℕ)
        (a : HasPair u Says (Some store) M name) (given : HasGiven a.machine.value.machine.data_words (Some store) IN STREAM)
        → ((bytes : List ℕ) → Says a.machine.value bytes a.second.value → Refuses a.machine.value bytes s → s ≡ status.NoMemory)
        → ((bytes : List ℕ) (v : V) → Says a.machine.value bytes v → Says a.machine.value bytes a.second.value → v ≡ a.second.value)
        → (Reports a.machine.value a.second.value given.input.value given.stream.words old new s → (s ≡ status.Ok) ⊎ (s ≡ status.NoMemory))
        → PairRuns u Says Refuses Reports M name IN STREAM before after old new s → (s ≡ status.Ok) ⊎ (s ≡ status.NoMemory)
    runs_only Says Refuses Reports M name a given only one done ends = runs_so inr Says Refuses Reports M name a given only one done ends
