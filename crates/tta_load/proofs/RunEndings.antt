-- A run that was begun on what was read, and what became of it, is how the command ends.
use Rattle.std.proofs.Common.{ℕ, List, Option, inr}
use Rattle.tta_load.specs.Cited.{World, Output, Units}
use Rattle.tta_load.specs.declared.machine.MachineFile.{MachineFile}
use Rattle.tta_load.specs.declared.status.Status.{Status}
use Rattle.tta_load.specs.Inputs.{ReadsGiven}
use Rattle.tta_load.specs.Pairs.{ReadsPair}
use Rattle.tta_load.proofs.Endings.{pair_then}
use Rattle.tta_load.specs.Runs.{GivenRuns, PairRuns}

pub given_runs : (space : ℕ) (Reports : (memory words : List ℕ) → (old new : Output) → Status → Type 0) (IN : List ℕ) (STREAM : Option (List ℕ))
    (memory words : List ℕ) (before after : World) (old new : Output) (s : Status)
    → ReadsGiven space IN STREAM memory words before after → Reports memory words old new s → GivenRuns space Reports IN STREAM before after old new s
given_runs space Reports IN STREAM memory words before after old new s reads reports = inr (
  record { input = record { value = memory; held = reads.input }; stream = record { words = words; is = reads.stream } },
  reads.untouched,
  reports,
)

pub pair_runs : {V : Type 0} → (u : Units) (Says : MachineFile → List ℕ → V → Type 0) (Refuses : MachineFile → List ℕ → Status → Type 0)
    (Reports : MachineFile → V → (memory words : List ℕ) → (old new : Output) → Status → Type 0) (M name IN : List ℕ) (STREAM : Option (List ℕ))
    (file : MachineFile) (value : V) (before between after : World) (old new : Output) (s : Status)
    → ReadsPair u Says M name file value before between
    → GivenRuns file.machine.data_words (Reports file value) IN STREAM between after old new s
    → PairRuns u Says Refuses Reports M name IN STREAM before after old new s
pair_runs u Says Refuses Reports M name IN STREAM file value before between after old new s reads ends =
    inr (pair_then u Says M name file value before between (λ f v w. GivenRuns f.machine.data_words (Reports f v) IN STREAM w after old new s) reads ends)
