use Rattle.std.proofs.Common.{arith}
use Rattle.tta_rtl.specs.Cited.{stated}
use Rattle.tta_rtl.proofs.Texts.{number_more}
use Rattle.tta_boxed_rtl.specs.Left.{made_function, told_by}
use Rattle.tta_boxed_rtl.proofs.functions.push_functions.Goals as goal

pub loop-op-preserved : goal.loop-op-preserved
loop-op-preserved g c =
    let u = stated (λ v. (goal.OpUnit-dyn g v).unit_meaning v.1) c.args.units.now in
    let m = c.args.at.now.on.now.m.now in
    number_more (made_function u m (told_by c.args.at.now.leaves.now)) _ _ _ 0 c.loop-op.op c.loop-op.op (omega arith)
    c.loop-op.invariant c.in_ok-push_made_function.ensures
