use Rattle.tta_rtl.proofs.StandardTexts.{functions_are_circuits}
use Rattle.tta_rtl.proofs.laws.functions_are_circuits.Goals as goal

pub returns : goal.returns
returns c = functions_are_circuits
