use Rattle.tta_asm.specs.Cited.{UnitOp, Ldw, stated}
use Rattle.tta_asm.proofs.MachineNames.{ops_more, ops_end}
use Rattle.tta_asm.proofs.naming.add_ops.Goals as goal

pub loop-place-preserved : goal.loop-place-preserved
loop-place-preserved g c =
    let U = stated (λ v. (goal.OpUnit-dyn g v).unit_meaning v.1) c.args.units.now in
    let none : UnitOp = record { op = Ldw; arity = 0; latency = 0 } in
    record {
      same = ops_more U c.args.unit.now c.as_slice-op-items.result.now c.loop-place.place none c.op_name.result.now c.add_first.new.names c.loop-place.names _
          c.as_slice-op-items.ensures c.loop-place-test.true c.op_name.ensures c.in_ok-add_first.ensures c.loop-place.invariant.same;
    }

pub returns : goal.returns
returns g c =
    let U = stated (λ v. (goal.OpUnit-dyn g v).unit_meaning v.1) c.args.units.now in
    ops_end U c.args.unit.now c.as_slice-op-items.result.now c.loop-place.place c.args.names.now c.loop-place.names c.as_slice-op-items.ensures c.loop-place-test.false
    c.loop-place.invariant.same
