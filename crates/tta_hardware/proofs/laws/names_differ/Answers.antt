use Rattle.tta_hardware.proofs.NamesApart.{names_differ}
use Rattle.tta_hardware.proofs.laws.names_differ.Goals as goal

pub returns : goal.returns
returns c = names_differ
