use Rattle.std.proofs.Common.{ap, ◌∙◌}
use Rattle.tta_tac.specs.FirstPass.{has_address}
use Rattle.tta_tac.proofs.InitialLines.{found}
use Rattle.tta_tac.proofs.initial.InitialData.has.Goals as goal

-- the address is a key where a data line has it
pub returns : goal.returns
returns c =
    c.contains_key.ensures ∙ found c.args.address c.self.inside.by_address.entries
    ∙ ap (λ ds. has_address ds c.args.address) c.self.view_is
