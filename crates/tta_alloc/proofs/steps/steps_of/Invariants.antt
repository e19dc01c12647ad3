use Rattle.std.proofs.Common.{take}
use Rattle.tta_alloc.proofs.StepLemmas.{AreListed}
use Rattle.tta_alloc.proofs.steps.steps_of.Given as goal

abbrev pub invariant-loop-block : goal.invariant-loop-block
invariant-loop-block l = AreListed l.procs (take l.block-index l.blocks) l.table
