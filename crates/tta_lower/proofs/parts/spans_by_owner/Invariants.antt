use Rattle.tta_lower.proofs.Split.{IsSplitTo}
use Rattle.tta_lower.proofs.parts.spans_by_owner.Given as goal

abbrev pub invariant-loop-b : goal.invariant-loop-b
invariant-loop-b l = IsSplitTo l.procs l.blocks l.b-index l.table.items
