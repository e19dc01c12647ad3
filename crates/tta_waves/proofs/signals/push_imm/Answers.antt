use Rattle.tta_waves.specs.declared.signal.Signal.TheVariants.{Immediate}
use Rattle.tta_waves.proofs.Lists.{one_more}
use Rattle.tta_waves.proofs.signals.push_imm.Goals as goal

pub loop-index-preserved : goal.loop-index-preserved
loop-index-preserved c = one_more (λ index. Immediate c.args.unit index) _ _ _ c.loop-index.index c.loop-index.invariant c.in_ok-push.ensures.items
