use Rattle.tta_arch.proofs.Widths.{AreTooFew}
use Rattle.tta_arch.proofs.layout.width_for.Given as goal

abbrev pub invariant-loop-width : goal.invariant-loop-width
invariant-loop-width l = AreTooFew l.codes l.width
