use Rattle.std.proofs.Common.{◌+◌}
use Rattle.std.proofs.lemmas.List.{get_or_default}
use Rattle.tta_draw.specs.Cited.{stated}
use Rattle.tta_draw.specs.MachinePicture.{op_line_text}
use Rattle.tta_arch.proofs.CodeLists.{pieces_more}
use Rattle.tta_draw.proofs.parts.push_ops.Goals as goal

pub loop-op-preserved : goal.loop-op-preserved
loop-op-preserved g c =
    let U = stated (λ v. (goal.OpUnit-dyn g v).unit_meaning v.1) c.args.units.now in
    pieces_more (λ o. op_line_text U c.args.m.now c.args.left (o.0 + 1) o.1) _ _ _ c.args.ops.now c.loop-op.op _ c.loop-op-test.true (get_or_default c.args.ops.now c.loop-op.op _ _ c.loop-op-test.true)
    c.in_ok-push_op_line.ensures c.loop-op.invariant
