use Rattle.std.proofs.Common.{◌≡◌, ℕ, ◌+◌, ◌*◌, ap, subst, arith}
use Rattle.std.specs.Prelude.{◌&&◌, ◌==◌}
use Rattle.tta_alloc.specs.Cited.{has}
use Rattle.tta_alloc.specs.Meetings.{Meets, within}
use Rattle.tta_alloc.proofs.MetLemmas.{meets_next, meets_same}
use Rattle.tta_alloc.proofs.met.Seen.meet_word.Goals as goal

pub loop-bit-preserved : goal.loop-bit-preserved
loop-bit-preserved c =
    let low : ℕ = c.args.word * 64 in
    let high : ℕ = c.args.word * 64 + c.loop-bit.bit in
    let same : high + 1 ≡ low + (c.loop-bit.bit + 1) = omega arith in
    record {
      few = let t = c.loop-bit-test.true in omega arith;
      meets = subst (λ (n : ℕ). Meets (λ x. within low n x && has c.args.row.now x) c.args.at c.args.self.now c.meet_if.new.self) same
          (meets_next c.args.at (has c.args.row.now) c.args.self.now c.meet_if.new.self low high c.loop-bit.self (omega arith)
          c.loop-bit.invariant.meets
          (meets_same c.args.at (λ k. c.get.result && high == k) (λ k. has c.args.row.now high && high == k) c.loop-bit.self c.meet_if.new.self
          (λ k small. ap (λ b. b && high == k) c.get.ensures) c.meet_if.ensures));
    }
