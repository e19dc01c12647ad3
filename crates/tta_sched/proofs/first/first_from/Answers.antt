use Rattle.std.proofs.Common.{arith}
use Rattle.tta_sched.proofs.Fitting.{apart_from, tried_more, found, not_found}
use Rattle.tta_sched.proofs.first.first_from.Goals as goal

pub returns-in-Some : goal.returns-in-Some
returns-in-Some c = λ placed asks.
    found c.args.on.now.machine.now placed c.args.item.now c.args.from c.loop-cycle.cycle c.args.end c.fits.result c.in-Some.slot asks.from c.loop-cycle.invariant.from (omega arith) c.in-Some.is
    (c.fits.ensures placed asks.table (apart_from c.args.on.now.machine.now c.args.table.now placed c.args.item.now c.args.from c.loop-cycle.cycle asks c.loop-cycle.invariant.from))
    (c.loop-cycle.invariant.tried placed asks)

pub loop-cycle-preserved : goal.loop-cycle-preserved
loop-cycle-preserved c = record {
  from = omega arith;
  tried = λ placed asks.
      tried_more c.args.on.now.machine.now placed c.args.item.now c.args.from c.loop-cycle.cycle c.fits.result c.in_default.is
      (c.fits.ensures placed asks.table (apart_from c.args.on.now.machine.now c.args.table.now placed c.args.item.now c.args.from c.loop-cycle.cycle asks c.loop-cycle.invariant.from))
      (c.loop-cycle.invariant.tried placed asks);
}

pub returns : goal.returns
returns c = λ placed asks. not_found c.args.on.now.machine.now placed c.args.item.now c.args.from c.loop-cycle.cycle c.args.end asks.from (omega arith) (c.loop-cycle.invariant.tried placed asks)
