use Rattle.tta_waves.specs.declared.signal.Signal.TheVariants.{Register}
use Rattle.tta_waves.proofs.Lists.{one_more}
use Rattle.tta_waves.proofs.signals.push_file.Goals as goal

pub loop-index-preserved : goal.loop-index-preserved
loop-index-preserved c = one_more (λ index. Register c.args.file index) _ _ _ c.loop-index.index c.loop-index.invariant c.in_ok-push.ensures.items
