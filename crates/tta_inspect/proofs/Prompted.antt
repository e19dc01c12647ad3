-- What a session at a prompt is over, and what the clause of the command says at a status.
use Rattle.std.proofs.Common.{◌≡◌, ◌<◌, ◌^◌, ℕ, List, [], Option, sym, subst, inl, inr, arith}
use Rattle.tta_inspect.specs.Cited.{World, IsUntouched, Output, Come, Units, Machine, Whole, start, Stands, Session', MachineFile, Status, HasText, ReadFails, HasMachine, RefusesMachine, IsImageFor, RefusesImage, RefusesInput, RefusesStream, HasPair, ReadsPair, HasGiven, HasThree, OfNamed}
use Rattle.tta_ports.proofs.Worlds.{same_world}
use Rattle.tta_sim.specs.Held.{Held}
use Rattle.tta_load.proofs.Endings.{pair_held}
use Rattle.tta_load.proofs.Stages.{pair_stages, pair_at}
use Rattle.tta_load.proofs.RunStages.{stream_at, stream_stages}
use Rattle.tta_load.specs.Inputs.{GivenFails, ReadsGiven}
use Rattle.tta_inspect.specs.Prompts.{ReadsFiles, FilesFail, IsIdle, SessionEnds, OpensPrompt, PromptFault}

-- ---- what is read

module _ (u : Units) (M IMG IN : List ℕ) (STREAM : Option (List ℕ)) (file : MachineFile) (whole : Whole) where
  -- a machine and an image that were taken, and what the run is given
  pub files_read : (memory words : List ℕ) (before between after : World) → ReadsPair u IsImageFor M IMG file whole before between
      → ReadsGiven file.machine.data_words IN STREAM memory words between after → ReadsFiles u M IMG IN STREAM file whole memory words before after
  files_read memory words before between after pair given =
      let same = subst (λ w. ReadsGiven file.machine.data_words IN STREAM memory words w after) (same_world before between pair.untouched) given in
      record { pair = record { machine = pair.machine; second = pair.second; untouched = same.untouched }; given = same }

  -- the same where that is refused
  pub files_refused : (before between after : World) (s : Status) → ReadsPair u IsImageFor M IMG file whole before between
      → GivenFails 4 file.machine.data_words IN STREAM between after s → FilesFail u M IMG IN STREAM before after s
  files_refused before between after s pair fails =
      inr (
        pair_held u IsImageFor M IMG file whole before between pair,
        subst (λ w. GivenFails 4 file.machine.data_words IN STREAM w after s) (same_world before between pair.untouched) fails,
      )

  -- a session over what was read is how the command ends
  pub opens : (memory words : List ℕ) (before after : World) (came comes : Come) (old new : Output) (s : Status)
      → ReadsFiles u M IMG IN STREAM file whole memory words before after → SessionEnds u file whole memory words came comes old new s
      → OpensPrompt u M IMG IN STREAM before after came comes old new s
  opens memory words before after came comes old new s reads ends =
      let given = reads.given in
      inr (
        pair_held u IsImageFor M IMG file whole before after reads.pair,
        record { input = record { value = memory; held = given.input }; stream = record { words = words; is = given.stream } },
        given.untouched,
        ends,
      )

-- a session over what was loaded has made no cycle
pub first_few : (h : Held) (session : Session') (m : Machine) (memory : List ℕ) → Stands h (start m memory []) → session ≡ record { held = h; stops = []; taken = 0 }
    → session.held.cycle < 2 ^ 60
first_few h session m memory at is =
    let none : h.cycle ≡ 0 = at.cycle in
    subst (λ (s : Session'). s.held.cycle < 2 ^ 60) (sym is) (omega arith)

-- ---- the stages

module _ (u : Units) (M IMG IN : List ℕ) (STREAM : Option (List ℕ)) (before after : World) (came comes : Come) (old new : Output) (s : Status) where
  -- where nothing came and nothing was put
  abbrev Idle : Type 0
  Idle = IsIdle came comes old new

  pub stages : {G : Type 0}
      → (ReadFails M 1 before after s → Idle → G)
      → (IsUntouched before after × HasText before.contents M (λ text. RefusesMachine u text s) → Idle → G)
      → (HasMachine u before.contents M → ReadFails IMG 2 before after s → Idle → G)
      → ((m : HasMachine u before.contents M) → IsUntouched before after × HasText before.contents IMG (λ bytes. RefusesImage m.value bytes s) → Idle → G)
      → (HasPair u IsImageFor before.contents M IMG → ReadFails IN 3 before after s → Idle → G)
      → ((pair : HasPair u IsImageFor before.contents M IMG)
      → IsUntouched before after × HasText before.contents IN (λ bytes. RefusesInput pair.machine.value.machine.data_words bytes s) → Idle → G)
      → (HasThree u IsImageFor before.contents M IMG IN → OfNamed STREAM (λ name. ReadFails name 4 before after s) → Idle → G)
      → (HasThree u IsImageFor before.contents M IMG IN → IsUntouched before after
      → OfNamed STREAM (λ name. HasText before.contents name (λ bytes. RefusesStream bytes s)) → Idle → G)
      → ((pair : HasPair u IsImageFor before.contents M IMG) (given : HasGiven pair.machine.value.machine.data_words before.contents IN STREAM)
      → IsUntouched before after → SessionEnds u pair.machine.value pair.second.value given.input.value given.stream.words came comes old new s → G)
      → OpensPrompt u M IMG IN STREAM before after came comes old new s → G
  stages a b c d e f g h i (inl (inl x, q)) = pair_stages u RefusesImage M IMG before after s a b c d x q
  stages a b c d e f g h i (inl (inr (pair, inl (inl x)), q)) = e pair x q
  stages a b c d e f g h i (inl (inr (pair, inl (inr x)), q)) = f pair x q
  stages a b c d e f g h i (inl (inr (pair, inr (input, x)), q)) = stream_stages 4 STREAM before after s (g (pair, input)) (h (pair, input)) x q
  stages a b c d e f g h i (inr (pair, given, same, x)) = i pair given same x

  -- a file that is at fault
  pub file_at : (Fault : List ℕ → Type 0) (word : ℕ) → ((k : ℕ) (n : List ℕ) → (word ≡ k) × Fault n → ReadFails n k before after s) → Idle
      → PromptFault u before.contents M IMG IN STREAM Fault word → OpensPrompt u M IMG IN STREAM before after came comes old new s
  file_at Fault word at idle (inl a) = inl (inl (pair_at u RefusesImage M IMG before after s Fault word at a), idle)
  file_at Fault word at idle (inr (inl a)) = inl (inr (a.1, inl (inl (at 3 IN (a.0, a.2)))), idle)
  file_at Fault word at idle (inr (inr a)) = inl (inr (a.1.0, inr (a.1.1, stream_at 4 STREAM before after s Fault word at a.0 a.2)), idle)
