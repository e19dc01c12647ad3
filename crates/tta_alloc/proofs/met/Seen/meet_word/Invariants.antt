use Rattle.std.proofs.Common.{◌*◌, ◌+◌, ◌≤◌}
use Rattle.std.specs.Prelude.{◌&&◌}
use Rattle.tta_alloc.specs.Cited.{has}
use Rattle.tta_alloc.specs.Meetings.{Meets, within}
use Rattle.tta_alloc.proofs.met.Seen.meet_word.Given as goal

abbrev pub invariant-loop-bit : goal.invariant-loop-bit
invariant-loop-bit l = record {
  few : l.bit ≤ 64;
  meets : Meets (λ x. within (l.word * 64) (l.word * 64 + l.bit) x && has l.row x) l.at l.initial.self l.self;
}
