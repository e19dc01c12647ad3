use Rattle.tta_waves.specs.declared.signal.Signal.TheVariants.{Starts}
use Rattle.tta_waves.proofs.Lists.{one_more}
use Rattle.tta_waves.proofs.signals.push_ops.Goals as goal

pub loop-op-preserved : goal.loop-op-preserved
loop-op-preserved c = one_more (λ op. Starts c.args.unit op) _ _ _ c.loop-op.op c.loop-op.invariant c.in_ok-push.ensures.items
