use Rattle.tta_compiler_laws.proofs.Linking.{lists_agree}
use Rattle.tta_compiler_laws.proofs.laws.lists_agree.Goals as goal

pub returns : goal.returns
returns c = lists_agree
