use Rattle.std.proofs.Common.{◌≡◌, ◌++◌}
use Rattle.std.specs.Prelude.{map}
use Rattle.std.specs.List.{range_with_len}
use Rattle.tta_waves.specs.declared.signal.Signal.TheVariants.{Starts}
use Rattle.tta_waves.proofs.signals.push_ops.Given as goal

abbrev pub invariant-loop-op : goal.invariant-loop-op
invariant-loop-op l = l.list.items ≡ l.initial.list.items ++ map (λ op. Starts l.unit op) (range_with_len 0 l.op)
