use Rattle.tta_arch.specs.declared.ends.Dest.TheVariants as dest
use Rattle.tta_arch.proofs.CodeLists.{numbered_more}
use Rattle.tta_arch.proofs.codes.push_unit.Goals as goal

pub loop-op-preserved : goal.loop-op-preserved
loop-op-preserved c = numbered_more (dest.Trigger c.args.unit) _ _ _ c.loop-op.op c.in_ok-push-2.ensures.items c.loop-op.invariant
