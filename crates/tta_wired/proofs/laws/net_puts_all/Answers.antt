use Rattle.tta_wired.proofs.Agreeing.{net_puts_all}
use Rattle.tta_wired.proofs.laws.net_puts_all.Goals as goal

pub returns : goal.returns
returns c = net_puts_all
