use Rattle.std.proofs.Common.{◌↔◌, ℕ, false, List, inl, inr}
use Rattle.tta_exit_laws.specs.Cited.{World, IsUntouched, Output, NothingOutput, Units, sample_text, Whole, IsBuilt, Status, HasText, ReadFails, HasMachine, RefusesMachine, IsProgramIn, RefusesProgram, IsCauseOf, step_bound, CompareEnds, Samples}
use Rattle.tta_program.specs.Program.{Program}
use Rattle.tta_load.specs.declared.status.Status.TheVariants as status
use Rattle.tta_load.proofs.Stages.{none}
use Rattle.tta_exit_laws.specs.Sample.{SampleEndings}
use Rattle.tta_exit_laws.proofs.laws.sample_by_status.Goals as goal

module _ (u : Units) (seed lines : ℕ) (M : List ℕ) (before after : World) (old new : Output) where
  -- the stages at which the command can end
  of : (s : Status) (G : Type 0)
      → (ReadFails M 3 before after s → NothingOutput old new → G)
      → (IsUntouched before after × HasText before.contents M (λ text. RefusesMachine u text s) → NothingOutput old new → G)
      → ((m : HasMachine u before.contents M) → IsUntouched before after → RefusesProgram u m.value.machine.data_words (sample_text seed lines) s → NothingOutput old new → G)
      → ((m : HasMachine u before.contents M) → IsUntouched before after → (p : Program) → IsProgramIn u m.value.machine.data_words (sample_text seed lines) p
      → IsCauseOf false u m.value.machine p s → NothingOutput old new → G)
      → ((m : HasMachine u before.contents M) → IsUntouched before after → (p : Program) → IsProgramIn u m.value.machine.data_words (sample_text seed lines) p
      → (whole : Whole) → IsBuilt u m.value.machine p whole → CompareEnds u m.value.machine p whole (step_bound lines) old new s → G)
      → Samples u seed lines M before after old new s → G
  of s G a b c d e (inl (inl x, q)) = a x q
  of s G a b c d e (inl (inr x, q)) = b x q
  of s G a b c d e (inr (m, same, inl (x, q))) = c m same x q
  of s G a b c d e (inr (m, same, inr (p, read, inl (x, q)))) = d m same p read x q
  of s G a b c d e (inr (m, same, inr (p, read, inr (whole, built, x)))) = e m same p read whole built x

  by_status : (s : Status) → Samples u seed lines M before after old new s ↔ SampleEndings u seed lines M before after old new s
  by_status status.Ok = (
    of status.Ok _ absurd none (λ m same. absurd) (λ m same p read. absurd)
        (λ m same p read whole built e. (same, (m, (p, read, (whole, built, e))))),
    λ e. inr (e.1.0, e.0, inr (e.1.1.0, e.1.1.1, inr (e.1.1.2.0, e.1.1.2.1, e.1.1.2.2))),
  )
  by_status status.WriteFault = (
    of status.WriteFault _ absurd none (λ m same. absurd) (λ m same p read. absurd)
        (λ m same p read whole built e. (same, (m, (p, read, (whole, built, e))))),
    λ e. inr (e.1.0, e.0, inr (e.1.1.0, e.1.1.1, inr (e.1.1.2.0, e.1.1.2.1, e.1.1.2.2))),
  )
  by_status (status.BadMachine line code) = (
    of (status.BadMachine line code) _ absurd (λ e quiet. (e.0, quiet, e.1)) (λ m same. absurd) (λ m same p read. absurd)
        (λ m same p read whole built. absurd),
    λ e. inl (inr (e.0, e.2), e.1),
  )
  by_status (status.BadProgram line code) = (
    of (status.BadProgram line code) _ absurd none (λ m same e quiet. (same, quiet, (m, e))) (λ m same p read. absurd)
        (λ m same p read whole built. absurd),
    λ e. inr (e.2.0, e.0, inl (e.2.1, e.1)),
  )
  by_status (status.DataRange line have) = (
    of (status.DataRange line have) _ absurd none (λ m same e quiet. (same, quiet, (m, e))) (λ m same p read. absurd)
        (λ m same p read whole built. absurd),
    λ e. inr (e.2.0, e.0, inl (e.2.1, e.1)),
  )
  by_status (status.NotCovered rule) = (
    of (status.NotCovered rule) _ absurd none (λ m same. absurd) (λ m same p read e quiet. (same, quiet, (m, (p, read, e))))
        (λ m same p read whole built. absurd),
    λ e. inr (e.2.0, e.0, inr (e.2.1.0, e.2.1.1, inl (e.2.1.2, e.1))),
  )
  by_status (status.NoUnit line) = (
    of (status.NoUnit line) _ absurd none (λ m same. absurd) (λ m same p read e quiet. (same, quiet, (m, (p, read, e))))
        (λ m same p read whole built. absurd),
    λ e. inr (e.2.0, e.0, inr (e.2.1.0, e.2.1.1, inl (e.2.1.2, e.1))),
  )
  by_status (status.FrameFull need have) = (
    of (status.FrameFull need have) _ absurd none (λ m same. absurd) (λ m same p read e quiet. (same, quiet, (m, (p, read, e))))
        (λ m same p read whole built. absurd),
    λ e. inr (e.2.0, e.0, inr (e.2.1.0, e.2.1.1, inl (e.2.1.2, e.1))),
  )
  by_status (status.CodeFull words have) = (
    of (status.CodeFull words have) _ absurd none (λ m same. absurd) (λ m same p read e quiet. (same, quiet, (m, (p, read, e))))
        (λ m same p read whole built. absurd),
    λ e. inr (e.2.0, e.0, inr (e.2.1.0, e.2.1.1, inl (e.2.1.2, e.1))),
  )
  by_status status.Running = (
    of status.Running _ absurd none (λ m same. absurd) (λ m same p read. absurd)
        (λ m same p read whole built e. (same, e.1, (m, (p, read, (whole, built, e.0))))),
    λ e. inr (e.2.0, e.0, inr (e.2.1.0, e.2.1.1, inr (e.2.1.2.0, e.2.1.2.1, (e.2.1.2.2, e.1)))),
  )
  by_status status.Waiting = (
    of status.Waiting _ absurd none (λ m same. absurd) (λ m same p read. absurd)
        (λ m same p read whole built e. (same, e.1, (m, (p, read, (whole, built, e.0))))),
    λ e. inr (e.2.0, e.0, inr (e.2.1.0, e.2.1.1, inr (e.2.1.2.0, e.2.1.2.1, (e.2.1.2.2, e.1)))),
  )
  by_status (status.ReadFault word) = (
    of (status.ReadFault word) _ (λ e quiet. (quiet, e.0, e.1)) none (λ m same. absurd) (λ m same p read. absurd)
        (λ m same p read whole built. absurd),
    λ e. inl (inl (e.1, e.2), e.0),
  )
  by_status (status.TooLong word) = (
    of (status.TooLong word) _ (λ e quiet. (quiet, e.0, e.1)) none (λ m same. absurd) (λ m same p read. absurd)
        (λ m same p read whole built. absurd),
    λ e. inl (inl (e.1, e.2), e.0),
  )
  by_status status.NoMemory = (
    of status.NoMemory _ (λ e quiet. (e, quiet)) (λ e quiet. (e.0, quiet)) (λ m same e quiet. (same, quiet))
        (λ m same p read e quiet. (same, quiet)) (λ m same p read whole built e. (same, e)),
    λ e. inl (inl e.0, e.1),
  )
  by_status s = (
    of s _ absurd none (λ m same. absurd) (λ m same p read. absurd) (λ m same p read whole built. absurd),
    λ e. absurd e,
  )

pub returns : goal.returns
returns c = by_status
