use Rattle.tta_compiler_laws.proofs.Linking.{lists_link}
use Rattle.tta_compiler_laws.proofs.laws.lists_link.Goals as goal

pub returns : goal.returns
returns c = lists_link
