use Rattle.std.proofs.Common.{◌≡◌, ℕ, ◌+◌, ◌*◌, subst, arith}
use Rattle.std.specs.Prelude.{◌&&◌}
use Rattle.tta_alloc.specs.Cited.{has}
use Rattle.tta_alloc.specs.Meetings.{Meets, within}
use Rattle.tta_alloc.proofs.MetLemmas.{meets_range}
use Rattle.tta_alloc.proofs.met.Seen.meet.Goals as goal

pub loop-word-preserved : goal.loop-word-preserved
loop-word-preserved c =
    let row = c.args.row.now in
    let mid : ℕ = c.loop-word.word * 64 in
    let high : ℕ = (c.loop-word.word + 1) * 64 in
    let same : mid + 64 ≡ high = omega arith in
    meets_range c.args.at (has row) c.args.self.now c.meet_new.new.self 0 high mid c.loop-word.self (omega arith) (omega arith) c.loop-word.invariant
    (subst (λ (n : ℕ). Meets (λ x. within mid n x && has row x) c.args.at c.loop-word.self c.meet_new.new.self) same c.meet_new.ensures)
