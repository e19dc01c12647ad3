-- What a clause of stages says at a status is what the one stage says that can end so.
use Rattle.std.proofs.Common.{◌≡◌, ℕ, List, Option, inl, inr}
use Rattle.tta_load.specs.Cited.{Store, World, IsUntouched, Output, NothingOutput, Units}
use Rattle.tta_load.specs.declared.machine.MachineFile.{MachineFile}
use Rattle.tta_load.specs.declared.status.Status.{Status}
use Rattle.tta_load.specs.Held.{HasText, ReadFails}
use Rattle.tta_load.specs.Machines.{HasMachine, RefusesMachine}
use Rattle.tta_load.specs.Pairs.{HasPair, PairFails}
use Rattle.tta_load.specs.Ends.{WritingEnds, Writes, TextEnds, Puts}
use Rattle.tta_load.specs.Endings.{PairFault}

-- a file of which nothing is true
pub none : {U G : Type 0} {files : Option Store} {name : List ℕ} → U × HasText files name (λ bytes. ⊥) → G
none e = absurd e.1.is

-- ---- the stages of a pair

pub pair_stages : {G : Type 0} (u : Units) (Refuses : MachineFile → List ℕ → Status → Type 0) (M name : List ℕ) (before after : World) (s : Status)
    → (ReadFails M 1 before after s → G)
    → (IsUntouched before after × HasText before.contents M (λ text. RefusesMachine u text s) → G)
    → (HasMachine u before.contents M → ReadFails name 2 before after s → G)
    → ((m : HasMachine u before.contents M) → IsUntouched before after × HasText before.contents name (λ bytes. Refuses m.value bytes s) → G)
    → PairFails u Refuses M name before after s → G
pair_stages u Refuses M name before after s a b c d (inl (inl e)) = a e
pair_stages u Refuses M name before after s a b c d (inl (inr e)) = b e
pair_stages u Refuses M name before after s a b c d (inr (m, inl e)) = c m e
pair_stages u Refuses M name before after s a b c d (inr (m, inr e)) = d m e

-- a file of the two that is at fault
pub pair_at : (u : Units) (Refuses : MachineFile → List ℕ → Status → Type 0) (M name : List ℕ) (before after : World) (s : Status)
    (Fault : List ℕ → Type 0) (word : ℕ) → ((k : ℕ) (n : List ℕ) → (word ≡ k) × Fault n → ReadFails n k before after s)
    → PairFault u before.contents M name Fault word → PairFails u Refuses M name before after s
pair_at u Refuses M name before after s Fault word at (inl a) = inl (inl (at 1 M a))
pair_at u Refuses M name before after s Fault word at (inr a) = inr (a.1, inl (at 2 name (a.0, a.2)))

-- ---- those of a command that makes a file of it

abbrev pub WriteStages : {V : Type 0} → Units → (Says : MachineFile → List ℕ → V → Type 0) → (Refuses : MachineFile → List ℕ → Status → Type 0)
    → (Makes : MachineFile → V → List ℕ → Type 0) → (Lacks : MachineFile → V → Status → Type 0) → (M name OUT : List ℕ) → (before after : World)
    → Status → (G : Type 0) → Type 0
WriteStages u Says Refuses Makes Lacks M name OUT before after s G =
    (ReadFails M 1 before after s → G)
    → (IsUntouched before after × HasText before.contents M (λ text. RefusesMachine u text s) → G)
    → (HasMachine u before.contents M → ReadFails name 2 before after s → G)
    → ((m : HasMachine u before.contents M) → IsUntouched before after × HasText before.contents name (λ bytes. Refuses m.value bytes s) → G)
    → ((pair : HasPair u Says before.contents M name) → IsUntouched before after × Lacks pair.machine.value pair.second.value s → G)
    → ((pair : HasPair u Says before.contents M name) → WritingEnds (Makes pair.machine.value pair.second.value) OUT before after s → G)
    → Writes u Says Refuses Makes Lacks M name OUT before after s → G

pub write_stages : {V : Type 0} (u : Units) (Says : MachineFile → List ℕ → V → Type 0) (Refuses : MachineFile → List ℕ → Status → Type 0)
    (Makes : MachineFile → V → List ℕ → Type 0) (Lacks : MachineFile → V → Status → Type 0) (M name OUT : List ℕ) (before after : World)
    (s : Status) (G : Type 0) → WriteStages u Says Refuses Makes Lacks M name OUT before after s G
write_stages u Says Refuses Makes Lacks M name OUT before after s G a b c d lacks makes (inl e) = pair_stages u Refuses M name before after s a b c d e
write_stages u Says Refuses Makes Lacks M name OUT before after s G a b c d lacks makes (inr (pair, inl e)) = lacks pair e
write_stages u Says Refuses Makes Lacks M name OUT before after s G a b c d lacks makes (inr (pair, inr e)) = makes pair e

-- ---- those of a command that puts a text of it

abbrev pub PutStages : {V : Type 0} → Units → (Says : MachineFile → List ℕ → V → Type 0) → (Refuses : MachineFile → List ℕ → Status → Type 0)
    → (Makes : MachineFile → V → List ℕ → Type 0) → (Lacks : MachineFile → V → Status → Type 0) → (M name : List ℕ) → (before after : World)
    → (old new : Output) → Status → (G : Type 0) → Type 0
PutStages u Says Refuses Makes Lacks M name before after old new s G =
    (ReadFails M 1 before after s → NothingOutput old new → G)
    → (IsUntouched before after × HasText before.contents M (λ text. RefusesMachine u text s) → NothingOutput old new → G)
    → (HasMachine u before.contents M → ReadFails name 2 before after s → NothingOutput old new → G)
    → ((m : HasMachine u before.contents M) → IsUntouched before after × HasText before.contents name (λ bytes. Refuses m.value bytes s) → NothingOutput old new → G)
    → ((pair : HasPair u Says before.contents M name) → IsUntouched before after
    → TextEnds (Makes pair.machine.value pair.second.value) (Lacks pair.machine.value pair.second.value) old new s → G)
    → Puts u Says Refuses Makes Lacks M name before after old new s → G

pub put_stages : {V : Type 0} (u : Units) (Says : MachineFile → List ℕ → V → Type 0) (Refuses : MachineFile → List ℕ → Status → Type 0)
    (Makes : MachineFile → V → List ℕ → Type 0) (Lacks : MachineFile → V → Status → Type 0) (M name : List ℕ) (before after : World)
    (old new : Output) (s : Status) (G : Type 0) → PutStages u Says Refuses Makes Lacks M name before after old new s G
put_stages u Says Refuses Makes Lacks M name before after old new s G a b c d ends (inl x) =
    pair_stages u Refuses M name before after s a b c d x.0 x.1
put_stages u Says Refuses Makes Lacks M name before after old new s G a b c d ends (inr (pair, same, x)) = ends pair same x
