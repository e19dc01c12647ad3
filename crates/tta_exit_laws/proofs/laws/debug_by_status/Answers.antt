use Rattle.std.proofs.Common.{◌≡◌, ◌↔◌, ℕ, List, Option, inl, inr}
use Rattle.tta_exit_laws.specs.Cited.{World, IsUntouched, Output, NothingOutput, Units, Status, HasText, ReadFails, ReadFailed, HasMachine, RefusesMachine, IsImageFor, RefusesImage, RefusesInput, RefusesStream, HasPair, OfNamed, HasThree, HasBytes, HasAsked, said, Debugs}
use Rattle.tta_load.specs.declared.status.Status.TheVariants as status
use Rattle.tta_load.specs.Held.{IsTooLong}
use Rattle.tta_load.proofs.Stages.{none, pair_stages, pair_at}
use Rattle.tta_tool.specs.Debug.{SessionEnds}
use Rattle.tta_exit_laws.specs.Debug.{SessionFault, DebugEndings}
use Rattle.tta_load.proofs.RunStages.{unnamed, unheld, apart, alone, stream_stages, stream_refused, stream_at}
use Rattle.tta_exit_laws.proofs.laws.debug_by_status.Goals as goal

module _ (u : Units) (M IMG IN SCRIPT : List ℕ) (STREAM : Option (List ℕ)) (before after : World) (old new : Output) where
  -- the stages at which the command can end
  of : (s : Status) (G : Type 0)
      → (ReadFails M 1 before after s → NothingOutput old new → G)
      → (IsUntouched before after × HasText before.contents M (λ text. RefusesMachine u text s) → NothingOutput old new → G)
      → (HasMachine u before.contents M → ReadFails IMG 2 before after s → NothingOutput old new → G)
      → ((m : HasMachine u before.contents M) → IsUntouched before after × HasText before.contents IMG (λ bytes. RefusesImage m.value bytes s) → NothingOutput old new → G)
      → (HasPair u IsImageFor before.contents M IMG → ReadFails IN 3 before after s → NothingOutput old new → G)
      → ((pair : HasPair u IsImageFor before.contents M IMG)
      → IsUntouched before after × HasText before.contents IN (λ bytes. RefusesInput pair.machine.value.machine.data_words bytes s) → NothingOutput old new → G)
      → (HasThree u IsImageFor before.contents M IMG IN → ReadFails SCRIPT 4 before after s → NothingOutput old new → G)
      → (HasThree u IsImageFor before.contents M IMG IN → HasBytes before.contents SCRIPT → OfNamed STREAM (λ name. ReadFails name 5 before after s) → NothingOutput old new → G)
      → (HasThree u IsImageFor before.contents M IMG IN → HasBytes before.contents SCRIPT → IsUntouched before after
      → OfNamed STREAM (λ name. HasText before.contents name (λ bytes. RefusesStream bytes s)) → NothingOutput old new → G)
      → ((pair : HasPair u IsImageFor before.contents M IMG) (asked : HasAsked pair.machine.value.machine.data_words before.contents IN SCRIPT STREAM) → IsUntouched before after
      → SessionEnds (said u pair.machine.value.machine pair.second.value asked.input.value asked.script.bytes asked.stream.words) old new s → G)
      → Debugs u M IMG IN SCRIPT STREAM before after old new s → G
  of s G a b c d e f k g h i (inl x) = pair_stages u RefusesImage M IMG before after s a b c d x.0 x.1
  of s G a b c d e f k g h i (inr (pair, inl (inl (inl x), q))) = e pair x q
  of s G a b c d e f k g h i (inr (pair, inl (inl (inr x), q))) = f pair x q
  of s G a b c d e f k g h i (inr (pair, inl (inr (input, inl x), q))) = k (pair, input) x q
  of s G a b c d e f k g h i (inr (pair, inl (inr (input, inr (script, x)), q))) =
      stream_stages 5 STREAM before after s (g (pair, input) script) (h (pair, input) script) x q
  of s G a b c d e f k g h i (inr (pair, inr (asked, same, x))) = i pair asked same x

  -- a file that is at fault
  at_fault : (s : Status) (Fault : List ℕ → Type 0) (word : ℕ) → ((k : ℕ) (n : List ℕ) → (word ≡ k) × Fault n → ReadFails n k before after s)
      → NothingOutput old new → SessionFault u before.contents M IMG IN SCRIPT STREAM Fault word → Debugs u M IMG IN SCRIPT STREAM before after old new s
  at_fault s Fault word at quiet (inl a) = inl (pair_at u RefusesImage M IMG before after s Fault word at a, quiet)
  at_fault s Fault word at quiet (inr (inl a)) = inr (a.1, inl (inl (inl (at 3 IN (a.0, a.2))), quiet))
  at_fault s Fault word at quiet (inr (inr (inl a))) = inr (a.1.0, inl (inr (a.1.1, inl (at 4 SCRIPT (a.0, a.2))), quiet))
  at_fault s Fault word at quiet (inr (inr (inr a))) =
      inr (a.1.0, inl (inr (a.1.1, inr (a.2, stream_at 5 STREAM before after s Fault word at a.0 a.3)), quiet))

  by_status : (s : Status) → Debugs u M IMG IN SCRIPT STREAM before after old new s ↔ DebugEndings u M IMG IN SCRIPT STREAM before after old new s
  by_status status.Ok = (
    of status.Ok _ absurd none (λ m. absurd) (λ m. none) (λ p. absurd) (λ p. none) (λ t. absurd) (λ t script. unnamed STREAM)
        (λ t script same. unheld before.contents STREAM) (λ p asked same e. (same, (p, (asked, e)))),
    λ e. inr (e.1.0, inr (e.1.1.0, e.0, e.1.1.1)),
  )
  by_status status.WriteFault = (
    of status.WriteFault _ absurd none (λ m. absurd) (λ m. none) (λ p. absurd) (λ p. none) (λ t. absurd) (λ t script. unnamed STREAM)
        (λ t script same. unheld before.contents STREAM) (λ p asked same e. (same, (p, (asked, e)))),
    λ e. inr (e.1.0, inr (e.1.1.0, e.0, e.1.1.1)),
  )
  by_status (status.MachineFault code cycle) = (
    of (status.MachineFault code cycle) _ absurd none (λ m. absurd) (λ m. none) (λ p. absurd) (λ p. none) (λ t. absurd)
        (λ t script. unnamed STREAM) (λ t script same. unheld before.contents STREAM) (λ p asked same e. (same, (p, (asked, e)))),
    λ e. inr (e.1.0, inr (e.1.1.0, e.0, e.1.1.1)),
  )
  by_status (status.BadMachine line code) = (
    of (status.BadMachine line code) _ absurd (λ e quiet. (e.0, quiet, e.1)) (λ m. absurd) (λ m. none) (λ p. absurd) (λ p. none)
        (λ t. absurd) (λ t script. unnamed STREAM) (λ t script same. unheld before.contents STREAM) (λ p asked same. absurd),
    λ e. inl (inl (inr (e.0, e.2)), e.1),
  )
  by_status (status.BadImage code word bus) = (
    of (status.BadImage code word bus) _ absurd none (λ m. absurd) (λ m e quiet. (e.0, quiet, (m, e.1))) (λ p. absurd) (λ p. none)
        (λ t. absurd) (λ t script. unnamed STREAM) (λ t script same. unheld before.contents STREAM) (λ p asked same. absurd),
    λ e. inl (inr (e.2.0, inr (e.0, e.2.1)), e.1),
  )
  by_status (status.BadInput line) = (
    of (status.BadInput line) _ absurd none (λ m. absurd) (λ m. none) (λ p. absurd) (λ p e quiet. (e.0, quiet, (p, e.1))) (λ t. absurd)
        (λ t script. unnamed STREAM) (λ t script same. unheld before.contents STREAM) (λ p asked same. absurd),
    λ e. inr (e.2.0, inl (inl (inr (e.0, e.2.1)), e.1)),
  )
  by_status (status.BadStream line) = (
    of (status.BadStream line) _ absurd none (λ m. absurd) (λ m. none) (λ p. absurd) (λ p. none) (λ t. absurd)
        (λ t script. unnamed STREAM) (λ t script same e quiet. (same, quiet, t, script, e)) (λ p asked same. absurd),
    λ e. inr (e.2.0, inl (inr (e.2.1, inr (e.3, stream_refused 5 STREAM before after (status.BadStream line) e.0 e.4)), e.1)),
  )
  by_status (status.ReadFault word) = (
    of (status.ReadFault word) _ (λ e quiet. (quiet, inl (inl e))) none (λ m e quiet. (quiet, inl (inr (e.0, m, e.1)))) (λ m. none)
        (λ p e quiet. (quiet, inr (inl (e.0, p, e.1)))) (λ p. none) (λ t e quiet. (quiet, inr (inr (inl (e.0, t, e.1)))))
        (λ t script e quiet. let at = apart STREAM (λ name. ReadFailed name before after) e in (quiet, inr (inr (inr (at.0, t, script, at.1)))))
        (λ t script same. unheld before.contents STREAM) (λ p asked same. absurd),
    λ e. at_fault (status.ReadFault word) (λ name. ReadFailed name before after) word (λ k n a. a) e.0 e.1,
  )
  by_status (status.TooLong word) = (
    of (status.TooLong word) _ (λ e quiet. (quiet, inl (inl e))) none (λ m e quiet. (quiet, inl (inr (e.0, m, e.1)))) (λ m. none)
        (λ p e quiet. (quiet, inr (inl (e.0, p, e.1)))) (λ p. none) (λ t e quiet. (quiet, inr (inr (inl (e.0, t, e.1)))))
        (λ t script e quiet. let at = apart STREAM (λ name. IsTooLong name before after) e in (quiet, inr (inr (inr (at.0, t, script, at.1)))))
        (λ t script same. unheld before.contents STREAM) (λ p asked same. absurd),
    λ e. at_fault (status.TooLong word) (λ name. IsTooLong name before after) word (λ k n a. a) e.0 e.1,
  )
  by_status status.NoMemory = (
    of status.NoMemory _ (λ e quiet. (e, quiet)) (λ e quiet. (e.0, quiet)) (λ m e quiet. (e, quiet)) (λ m e quiet. (e.0, quiet))
        (λ p e quiet. (e, quiet)) (λ p e quiet. (e.0, quiet)) (λ t e quiet. (e, quiet)) (λ t script e quiet. (alone STREAM e, quiet))
        (λ t script same e quiet. (same, quiet)) (λ p asked same e. (same, e)),
    λ e. inl (inl (inl e.0), e.1),
  )
  by_status s = (
    of s _ absurd none (λ m. absurd) (λ m. none) (λ p. absurd) (λ p. none) (λ t. absurd) (λ t script. unnamed STREAM)
        (λ t script same. unheld before.contents STREAM) (λ p asked same. absurd),
    λ e. absurd e,
  )

pub returns : goal.returns
returns c = by_status
