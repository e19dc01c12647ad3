use Rattle.std.proofs.Common.{◌≡◌, ◌++◌, drop, subst, arith}
use Rattle.tta_sim.specs.Places.{HasWritten}
use Rattle.tta_sim.proofs.Growing.{set_grows}
use Rattle.tta_sim.proofs.Writes.{written_next}
use Rattle.tta_sim.proofs.writing.write_all.Goals as goal

pub loop-i-preserved : goal.loop-i-preserved
loop-i-preserved c = record {
  within = omega (arith, c.loop-i.invariant.within);
  written = λ new old are there had.
      written_next c.args.writes.now c.loop-i.i _ _ _ new old c.loop-i-test.true c.loop-i.invariant.within are there
      (λ p ws placed same before. c.set.ensures.written p ws placed same before) (c.loop-i.invariant.written new old are there had);
  grows = λ k some. set_grows _ _ _ _ c.set.ensures.at k (c.loop-i.invariant.grows k some);
}

pub returns-clause-written : goal.returns-clause-written
returns-clause-written c = λ new old are there had.
    let over : c.loop-i.i ≡ 0 = omega (arith, c.loop-i-test.false) in
    subst (λ n. HasWritten c.loop-i.places (drop n new ++ old)) over (c.loop-i.invariant.written new old are there had)
