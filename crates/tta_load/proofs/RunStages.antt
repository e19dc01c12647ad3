-- What a clause of stages says at a status is what the one stage says that can end so, of a command that runs something.
use Rattle.std.proofs.Common.{◌≡◌, ℕ, List, Option, Some, None, inl, inr}
use Rattle.tta_load.specs.Cited.{Store, World, IsUntouched, Output, NothingOutput, Units}
use Rattle.tta_load.specs.declared.machine.MachineFile.{MachineFile}
use Rattle.tta_load.specs.declared.status.Status.{Status}
use Rattle.tta_load.specs.Held.{HasText, ReadFails}
use Rattle.tta_load.specs.Machines.{HasMachine, RefusesMachine}
use Rattle.tta_load.specs.Inputs.{RefusesInput, RefusesStream, StreamFails}
use Rattle.tta_load.specs.Pairs.{HasPair}
use Rattle.tta_load.proofs.Stages.{pair_stages, pair_at}
use Rattle.tta_load.specs.Runs.{HasGiven, PairRuns}
use Rattle.tta_load.specs.Endings.{OfNamed, HasThree, RunFault}

-- a named file of which nothing is true
pub unnamed : {G : Type 0} (STREAM : Option (List ℕ)) → OfNamed STREAM (λ name. ⊥) → G
unnamed None e = absurd e
unnamed (Some name) e = absurd e

pub unheld : {G : Type 0} (files : Option Store) (STREAM : Option (List ℕ)) → OfNamed STREAM (λ name. HasText files name (λ bytes. ⊥)) → G
unheld files None e = absurd e
unheld files (Some name) e = absurd e.is

-- a fact beside what is true of a named file
pub apart : {A : Type 0} (STREAM : Option (List ℕ)) (Is : List ℕ → Type 0) → OfNamed STREAM (λ name. A × Is name) → A × OfNamed STREAM Is
apart None Is e = absurd e
apart (Some name) Is e = e

pub alone : {A : Type 0} (STREAM : Option (List ℕ)) → OfNamed STREAM (λ name. A) → A
alone None e = absurd e
alone (Some name) e = e

-- ---- the stages of what a run is given

pub stream_refused : (number : ℕ) (STREAM : Option (List ℕ)) (before after : World) (s : Status) → IsUntouched before after
    → OfNamed STREAM (λ name. HasText before.contents name (λ bytes. RefusesStream bytes s)) → StreamFails number STREAM before after s
stream_refused number None before after s same e = e
stream_refused number (Some name) before after s same e = inr (same, e)

pub stream_stages : {G : Type 0} (number : ℕ) (STREAM : Option (List ℕ)) (before after : World) (s : Status)
    → (OfNamed STREAM (λ name. ReadFails name number before after s) → G)
    → (IsUntouched before after → OfNamed STREAM (λ name. HasText before.contents name (λ bytes. RefusesStream bytes s)) → G)
    → StreamFails number STREAM before after s → G
stream_stages number None before after s a b e = absurd e
stream_stages number (Some name) before after s a b (inl e) = a e
stream_stages number (Some name) before after s a b (inr e) = b e.0 e.1

-- ---- those of a command that runs a pair

abbrev pub RunStages : {V : Type 0} → Units → (Says : MachineFile → List ℕ → V → Type 0) → (Refuses : MachineFile → List ℕ → Status → Type 0)
    → (Reports : MachineFile → V → (memory words : List ℕ) → (old new : Output) → Status → Type 0) → (M name IN : List ℕ)
    → (STREAM : Option (List ℕ)) → (before after : World) → (old new : Output) → Status → (G : Type 0) → Type 0
RunStages u Says Refuses Reports M name IN STREAM before after old new s G =
    (ReadFails M 1 before after s → NothingOutput old new → G)
    → (IsUntouched before after × HasText before.contents M (λ text. RefusesMachine u text s) → NothingOutput old new → G)
    → (HasMachine u before.contents M → ReadFails name 2 before after s → NothingOutput old new → G)
    → ((m : HasMachine u before.contents M) → IsUntouched before after × HasText before.contents name (λ bytes. Refuses m.value bytes s) → NothingOutput old new → G)
    → (HasPair u Says before.contents M name → ReadFails IN 3 before after s → NothingOutput old new → G)
    → ((pair : HasPair u Says before.contents M name)
    → IsUntouched before after × HasText before.contents IN (λ bytes. RefusesInput pair.machine.value.machine.data_words bytes s) → NothingOutput old new → G)
    → (HasThree u Says before.contents M name IN → OfNamed STREAM (λ name. ReadFails name 5 before after s) → NothingOutput old new → G)
    → (HasThree u Says before.contents M name IN → IsUntouched before after
    → OfNamed STREAM (λ name. HasText before.contents name (λ bytes. RefusesStream bytes s)) → NothingOutput old new → G)
    → ((pair : HasPair u Says before.contents M name) (given : HasGiven pair.machine.value.machine.data_words before.contents IN STREAM)
    → IsUntouched before after → Reports pair.machine.value pair.second.value given.input.value given.stream.words old new s → G)
    → PairRuns u Says Refuses Reports M name IN STREAM before after old new s → G

pub run_stages : {V : Type 0} (u : Units) (Says : MachineFile → List ℕ → V → Type 0) (Refuses : MachineFile → List ℕ → Status → Type 0)
    (Reports : MachineFile → V → (memory words : List ℕ) → (old new : Output) → Status → Type 0) (M name IN : List ℕ)
    (STREAM : Option (List ℕ)) (before after : World) (old new : Output) (s : Status) (G : Type 0)
    → RunStages u Says Refuses Reports M name IN STREAM before after old new s G
run_stages u Says Refuses Reports M name IN STREAM before after old new s G a b c d e f g h i (inl x) =
    pair_stages u Refuses M name before after s a b c d x.0 x.1
run_stages u Says Refuses Reports M name IN STREAM before after old new s G a b c d e f g h i (inr (pair, inl (inl (inl x), q))) = e pair x q
run_stages u Says Refuses Reports M name IN STREAM before after old new s G a b c d e f g h i (inr (pair, inl (inl (inr x), q))) = f pair x q
run_stages u Says Refuses Reports M name IN STREAM before after old new s G a b c d e f g h i (inr (pair, inl (inr (input, x), q))) =
    stream_stages 5 STREAM before after s (g (pair, input)) (h (pair, input)) x q
run_stages u Says Refuses Reports M name IN STREAM before after old new s G a b c d e f g h i (inr (pair, inr (given, same, x))) = i pair given same x

-- a file of a run that is at fault
pub stream_at : (number : ℕ) (STREAM : Option (List ℕ)) (before after : World) (s : Status) (Fault : List ℕ → Type 0) (word : ℕ)
    → ((k : ℕ) (n : List ℕ) → (word ≡ k) × Fault n → ReadFails n k before after s) → word ≡ number → OfNamed STREAM Fault
    → StreamFails number STREAM before after s
stream_at number None before after s Fault word at is e = e
stream_at number (Some name) before after s Fault word at is e = inl (at number name (is, e))

pub run_at : {V : Type 0} (u : Units) (Says : MachineFile → List ℕ → V → Type 0) (Refuses : MachineFile → List ℕ → Status → Type 0)
    (Reports : MachineFile → V → (memory words : List ℕ) → (old new : Output) → Status → Type 0) (M name IN : List ℕ)
    (STREAM : Option (List ℕ)) (before after : World) (old new : Output) (s : Status) (Fault : List ℕ → Type 0) (word : ℕ)
    → ((k : ℕ) (n : List ℕ) → (word ≡ k) × Fault n → ReadFails n k before after s) → NothingOutput old new
    → RunFault u Says before.contents M name IN STREAM Fault word → PairRuns u Says Refuses Reports M name IN STREAM before after old new s
run_at u Says Refuses Reports M name IN STREAM before after old new s Fault word at quiet (inl a) =
    inl (pair_at u Refuses M name before after s Fault word at a, quiet)
run_at u Says Refuses Reports M name IN STREAM before after old new s Fault word at quiet (inr (inl a)) =
    inr (a.1, inl (inl (inl (at 3 IN (a.0, a.2))), quiet))
run_at u Says Refuses Reports M name IN STREAM before after old new s Fault word at quiet (inr (inr a)) =
    inr (a.1.0, inl (inr (a.1.1, stream_at 5 STREAM before after s Fault word at a.0 a.2), quiet))
