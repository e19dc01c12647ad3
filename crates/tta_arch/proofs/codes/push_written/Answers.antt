use Rattle.tta_arch.specs.declared.ends.Dest.TheVariants as dest
use Rattle.tta_arch.proofs.CodeLists.{numbered_more}
use Rattle.tta_arch.proofs.codes.push_written.Goals as goal

pub loop-index-preserved : goal.loop-index-preserved
loop-index-preserved c = numbered_more (dest.Reg c.args.file) _ _ _ c.loop-index.index c.in_ok-push.ensures.items c.loop-index.invariant
