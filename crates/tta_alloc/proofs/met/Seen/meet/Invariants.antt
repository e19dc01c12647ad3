use Rattle.std.proofs.Common.{◌*◌}
use Rattle.std.specs.Prelude.{◌&&◌}
use Rattle.tta_alloc.specs.Cited.{has}
use Rattle.tta_alloc.specs.Meetings.{Meets, within}
use Rattle.tta_alloc.proofs.met.Seen.meet.Given as goal

abbrev pub invariant-loop-word : goal.invariant-loop-word
invariant-loop-word l = Meets (λ x. within 0 (l.word * 64) x && has l.row x) l.at l.initial.self l.self
