use Rattle.tta_arch.specs.declared.ends.Source.TheVariants as source
use Rattle.tta_arch.proofs.CodeLists.{numbered_more}
use Rattle.tta_arch.proofs.codes.push_imm.Goals as goal

pub loop-index-preserved : goal.loop-index-preserved
loop-index-preserved c = numbered_more (source.Imm c.args.unit) _ _ _ c.loop-index.index c.in_ok-push.ensures.items c.loop-index.invariant
