use Rattle.std.proofs.Common.{◌↔◌, ℕ, List, Option, inl, inr}
use Rattle.tta_inspect.specs.Cited.{World, Output, Come, Units, Status, ReadFailed, IsTooLong}
use Rattle.tta_load.specs.declared.status.Status.TheVariants as status
use Rattle.tta_load.proofs.Stages.{none}
use Rattle.tta_load.proofs.RunStages.{unnamed, unheld, apart, alone}
use Rattle.tta_inspect.specs.Prompts.{OpensPrompt, PromptEndings}
use Rattle.tta_load.proofs.RunStages.{stream_refused}
use Rattle.tta_inspect.proofs.Prompted.{stages, file_at}
use Rattle.tta_inspect.proofs.laws.prompt_by_status.Goals as goal

module _ (u : Units) (M IMG IN : List ℕ) (STREAM : Option (List ℕ)) (before after : World) (came comes : Come) (old new : Output) where
  by_status : (s : Status) → OpensPrompt u M IMG IN STREAM before after came comes old new s ↔ PromptEndings u M IMG IN STREAM before after came comes old new s
  by_status status.Ok = (
    stages u M IMG IN STREAM before after came comes old new status.Ok absurd none (λ m. absurd) (λ m. none) (λ p. absurd) (λ p. none)
        (λ t. unnamed STREAM) (λ t same. unheld before.contents STREAM) (λ p given same e. (same, (p, (given, e)))),
    λ e. inr (e.1.0, e.1.1.0, e.0, e.1.1.1),
  )
  by_status status.WriteFault = (
    stages u M IMG IN STREAM before after came comes old new status.WriteFault absurd none (λ m. absurd) (λ m. none) (λ p. absurd) (λ p. none)
        (λ t. unnamed STREAM) (λ t same. unheld before.contents STREAM) (λ p given same e. (same, (p, (given, e)))),
    λ e. inr (e.1.0, e.1.1.0, e.0, e.1.1.1),
  )
  by_status (status.BadMachine line code) = (
    stages u M IMG IN STREAM before after came comes old new (status.BadMachine line code) absurd (λ e idle. (e.0, idle, e.1)) (λ m. absurd) (λ m. none)
        (λ p. absurd) (λ p. none) (λ t. unnamed STREAM) (λ t same. unheld before.contents STREAM) (λ p given same e. absurd e),
    λ e. inl (inl (inl (inr (e.0, e.2))), e.1),
  )
  by_status (status.BadImage code word bus) = (
    stages u M IMG IN STREAM before after came comes old new (status.BadImage code word bus) absurd none (λ m. absurd) (λ m e idle. (e.0, idle, (m, e.1)))
        (λ p. absurd) (λ p. none) (λ t. unnamed STREAM) (λ t same. unheld before.contents STREAM) (λ p given same e. absurd e),
    λ e. inl (inl (inr (e.2.0, inr (e.0, e.2.1))), e.1),
  )
  by_status (status.BadInput line) = (
    stages u M IMG IN STREAM before after came comes old new (status.BadInput line) absurd none (λ m. absurd) (λ m. none) (λ p. absurd)
        (λ p e idle. (e.0, idle, (p, e.1))) (λ t. unnamed STREAM) (λ t same. unheld before.contents STREAM) (λ p given same e. absurd e),
    λ e. inl (inr (e.2.0, inl (inr (e.0, e.2.1))), e.1),
  )
  by_status (status.BadStream line) = (
    stages u M IMG IN STREAM before after came comes old new (status.BadStream line) absurd none (λ m. absurd) (λ m. none) (λ p. absurd) (λ p. none)
        (λ t. unnamed STREAM) (λ t same e idle. (same, idle, t, e)) (λ p given same e. absurd e),
    λ e. inl (inr (e.2.0, inr (e.2.1, stream_refused 4 STREAM before after (status.BadStream line) e.0 e.3)), e.1),
  )
  by_status (status.ReadFault word) = (
    stages u M IMG IN STREAM before after came comes old new (status.ReadFault word) (λ e idle. inl (idle, inl (inl e))) none
        (λ m e idle. inl (idle, inl (inr (e.0, m, e.1)))) (λ m. none) (λ p e idle. inl (idle, inr (inl (e.0, p, e.1)))) (λ p. none)
        (λ t e idle. let at = apart STREAM (λ name. ReadFailed name before after) e in inl (idle, inr (inr (at.0, t, at.1))))
        (λ t same. unheld before.contents STREAM) (λ p given same e. inr (e.0, (same, (p, (given, e.1))))),
    λ e. elim e [
      | inl x ↦ file_at u M IMG IN STREAM before after came comes old new (status.ReadFault word) (λ name. ReadFailed name before after) word (λ k n a. a) x.0 x.1
      | inr x ↦ inr (x.1.1.0, x.1.1.1.0, x.1.0, (x.0, x.1.1.1.1))
    ],
  )
  by_status (status.TooLong word) = (
    stages u M IMG IN STREAM before after came comes old new (status.TooLong word) (λ e idle. inl (idle, inl (inl e))) none
        (λ m e idle. inl (idle, inl (inr (e.0, m, e.1)))) (λ m. none) (λ p e idle. inl (idle, inr (inl (e.0, p, e.1)))) (λ p. none)
        (λ t e idle. let at = apart STREAM (λ name. IsTooLong name before after) e in inl (idle, inr (inr (at.0, t, at.1))))
        (λ t same. unheld before.contents STREAM) (λ p given same e. inr (e.0, (same, (p, (given, e.1))))),
    λ e. elim e [
      | inl x ↦ file_at u M IMG IN STREAM before after came comes old new (status.TooLong word) (λ name. IsTooLong name before after) word (λ k n a. a) x.0 x.1
      | inr x ↦ inr (x.1.1.0, x.1.1.1.0, x.1.0, (x.0, x.1.1.1.1))
    ],
  )
  by_status status.NoMemory = (
    stages u M IMG IN STREAM before after came comes old new status.NoMemory (λ e idle. inl (e, idle)) (λ e idle. inl (e.0, idle))
        (λ m e idle. inl (e, idle)) (λ m e idle. inl (e.0, idle)) (λ p e idle. inl (e, idle)) (λ p e idle. inl (e.0, idle))
        (λ t e idle. inl (alone STREAM e, idle)) (λ t same e idle. inl (same, idle)) (λ p given same e. elim e [
          | inl x ↦ inr (same, (p, (given, x)))
          | inr idle ↦ inl (same, idle)
        ]),
    λ e. elim e [
      | inl x ↦ inl (inl (inl (inl x.0)), x.1)
      | inr x ↦ inr (x.1.0, x.1.1.0, x.0, inl x.1.1.1)
    ],
  )
  by_status s = (
    stages u M IMG IN STREAM before after came comes old new s absurd none (λ m. absurd) (λ m. none) (λ p. absurd) (λ p. none)
        (λ t. unnamed STREAM) (λ t same. unheld before.contents STREAM) (λ p given same e. absurd e),
    λ e. absurd e,
  )

pub returns : goal.returns
returns c = by_status
