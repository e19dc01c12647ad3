-- What was made of two files, and what became of it, is how the command ends.
use Rattle.std.proofs.Common.{◌⊎◌, ℕ, List, Result, Ok, Err, sym, subst, inl, inr}
use Rattle.tta_load.specs.Cited.{World, IsUntouched, Output, Units}
use Rattle.tta_ports.proofs.Worlds.{same_world}
use Rattle.tta_load.specs.declared.machine.MachineFile.{MachineFile}
use Rattle.tta_load.specs.declared.status.Status.{Status}
use Rattle.tta_load.specs.declared.status.Status.TheVariants as status
use Rattle.tta_load.specs.Held.{MadeEnds}
use Rattle.tta_load.specs.Pairs.{HasPair, ReadsPair}
use Rattle.tta_load.specs.Ends.{WriteEnds, WritingEnds, Writes, WritesMade, PutsMade, TextEnds, Puts}

-- a pair that was read is held
abbrev pub pair_held : {V : Type 0} → (u : Units) (Says : MachineFile → List ℕ → V → Type 0) (M name : List ℕ) (file : MachineFile) (value : V) (before after : World)
    → ReadsPair u Says M name file value before after → HasPair u Says before.contents M name
pair_held u Says M name file value before after reads = record {
  machine = record { value = file; held = reads.machine };
  second = record { value = value; held = reads.second };
}

-- a pair that was read, and what became of all that follows
pub pair_then : {V : Type 0} → (u : Units) (Says : MachineFile → List ℕ → V → Type 0) (M name : List ℕ) (file : MachineFile) (value : V)
    (before between : World) (Rest : MachineFile → V → World → Type 0)
    → ReadsPair u Says M name file value before between → Rest file value between
    → (pair : HasPair u Says before.contents M name) × Rest pair.machine.value pair.second.value before
pair_then u Says M name file value before between Rest reads rest =
    (pair_held u Says M name file value before between reads, subst (Rest file value) (same_world before between reads.untouched) rest)

-- a result that was made, and what became of its file
pub writing_ends : (Makes : List ℕ → Type 0) (OUT bytes : List ℕ) (before after : World) (s : Status)
    → Makes bytes → WriteEnds OUT bytes before after s → WritingEnds Makes OUT before after s
writing_ends Makes OUT bytes before after status.Ok made ends =
    record { bytes = bytes; makes = made; written = ends.0; faults = ends.1; latest = ends.2 }
writing_ends Makes OUT bytes before after status.WriteFault made ends =
    record { bytes = bytes; makes = made; partly = ends.0; rose = ends.1; latest = ends.2 }
writing_ends Makes OUT bytes before after status.NoMemory made ends = ends
writing_ends Makes OUT bytes before after s made ends = absurd ends

-- a pair that was read, what was made of it, and what became of that
pub writes : {T V : Type 0} → (u : Units) (Says : MachineFile → List ℕ → V → Type 0) (Refuses : MachineFile → List ℕ → Status → Type 0)
    (Makes : MachineFile → V → List ℕ → Type 0) (Lacks : MachineFile → V → Status → Type 0) (M name OUT : List ℕ) (file : MachineFile) (value : V)
    (before between after : World) (items : T → List ℕ) (made : Result T Status) (s : Status)
    → ReadsPair u Says M name file value before between → MadeEnds (Makes file value) (Lacks file value) items made
    → WritesMade OUT items made between after s → Writes u Says Refuses Makes Lacks M name OUT before after s
writes {T} u Says Refuses Makes Lacks M name OUT file value before between after items made s reads ends wrote =
    inr (
      pair_held u Says M name file value before between reads,
      of made ends
          (subst (λ w. WritesMade OUT items made w after s) (same_world before between reads.untouched) wrote),
    ) where
      of : (r : Result T Status) → MadeEnds (Makes file value) (Lacks file value) items r → WritesMade OUT items r before after s
          → (IsUntouched before after × Lacks file value s) ⊎ WritingEnds (Makes file value) OUT before after s
      of (Ok v) ends wrote = inr (writing_ends (Makes file value) OUT (items v) before after s ends wrote)
      of (Err e) ends wrote = inl (wrote.1, subst (Lacks file value) (sym wrote.0) ends)

-- a text that was made, and what became of it
pub text_ends : {T : Type 0} → (Makes : List ℕ → Type 0) (Lacks : Status → Type 0) (old new : Output) (items : T → List ℕ) (made : Result T Status)
    (s : Status) → MadeEnds Makes Lacks items made → PutsMade items made old new s → TextEnds Makes Lacks old new s
text_ends Makes Lacks old new items (Ok v) s ends put = inl (items v, ends, put)
text_ends Makes Lacks old new items (Err e) s ends put = inr (subst Lacks (sym put.0) ends, put.1)

-- a pair that was read, the text that was made of it, and what became of that
pub puts : {T V : Type 0} → (u : Units) (Says : MachineFile → List ℕ → V → Type 0) (Refuses : MachineFile → List ℕ → Status → Type 0)
    (Makes : MachineFile → V → List ℕ → Type 0) (Lacks : MachineFile → V → Status → Type 0) (M name : List ℕ) (file : MachineFile) (value : V)
    (before after : World) (old new : Output) (items : T → List ℕ) (made : Result T Status) (s : Status)
    → ReadsPair u Says M name file value before after → MadeEnds (Makes file value) (Lacks file value) items made
    → PutsMade items made old new s → Puts u Says Refuses Makes Lacks M name before after old new s
puts u Says Refuses Makes Lacks M name file value before after old new items made s reads ends put =
    inr (
      pair_held u Says M name file value before after reads,
      reads.untouched,
      text_ends (Makes file value) (Lacks file value) old new items made s ends put,
    )
