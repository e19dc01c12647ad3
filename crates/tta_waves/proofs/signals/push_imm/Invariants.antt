use Rattle.std.proofs.Common.{◌≡◌, ◌++◌}
use Rattle.std.specs.Prelude.{map}
use Rattle.std.specs.List.{range_with_len}
use Rattle.tta_waves.specs.declared.signal.Signal.TheVariants.{Immediate}
use Rattle.tta_waves.proofs.signals.push_imm.Given as goal

abbrev pub invariant-loop-index : goal.invariant-loop-index
invariant-loop-index l = l.list.items ≡ l.initial.list.items ++ map (λ index. Immediate l.unit index) (range_with_len 0 l.index)
