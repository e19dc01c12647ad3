use Rattle.std.proofs.Common.{arith, length-append}
use Rattle.tta_asm.specs.Cited.{stated}
use Rattle.tta_asm.proofs.MachineNames.{unit_there, unit_few, units_more, units_end}
use Rattle.tta_asm.proofs.naming.all_ops.Goals as goal

pub ops_of-requires : goal.ops_of-requires
ops_of-requires g c =
    unit_few c.args.m.now c.units_of-unit-items.result.now c.loop-unit.unit-index c.unit-item.result
    c.units_of-unit-items.ensures.rules c.units_of-unit-items.ensures.all c.loop-unit-test.true c.unit-item.is

pub loop-unit-preserved : goal.loop-unit-preserved
loop-unit-preserved g c =
    let U = stated (λ v. (goal.OpUnit-dyn g v).unit_meaning v.1) c.args.units.now in
    let there = unit_there c.args.m.now c.units_of-unit-items.result.now c.loop-unit.unit-index c.unit-item.result c.units_of-unit-items.ensures.all
    c.loop-unit-test.true c.unit-item.is in
    record {
      count = let was = c.loop-unit.invariant.count in rw c.in_ok-push.ensures.ok (rw length-append (omega arith));
      ops = units_more U c.args.m.now c.loop-unit.all c.push.new.self c.in_ok-ops.ops c.unit-item.result c.loop-unit.unit-index c.in_ok-push.ensures.ok
          c.loop-unit.invariant.count there c.in_ok-ops.ensures c.loop-unit.invariant.ops;
    }

pub returns-clause-ops : goal.returns-clause-ops
returns-clause-ops g c =
    let U = stated (λ v. (goal.OpUnit-dyn g v).unit_meaning v.1) c.args.units.now in
    let past = c.loop-unit-test.false in
    let most = c.loop-unit.auto.unit-index-end in
    units_end U c.args.m.now c.loop-unit.all c.units_of-unit-items.result.now c.loop-unit.unit-index
    c.units_of-unit-items.ensures.all (omega arith)
    c.loop-unit.invariant.count c.loop-unit.invariant.ops
