use Rattle.std.proofs.Common.{take}
use Rattle.std.specs.List.{list_any}
use Rattle.tta_flow.specs.Growth.{Sets}
use Rattle.tta_flow.specs.Steps.{is_var}
use Rattle.tta_flow.proofs.reads.add_all.Given as goal

abbrev pub invariant-loop-operand : goal.invariant-loop-operand
invariant-loop-operand l = Sets (λ x. list_any (λ s. is_var s x) (take l.operand-index l.operands)) l.initial.row l.row
