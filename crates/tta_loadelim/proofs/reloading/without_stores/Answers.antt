use Rattle.std.proofs.Common.{[]}
use Rattle.tta_loadelim.proofs.ThinWalk.{thinned_itself}
use Rattle.tta_loadelim.proofs.reloading.without_stores.Goals as goal

pub returns-then-not-are_some : goal.returns-then-not-are_some
returns-then-not-are_some c = thinned_itself c.args.m.now [] c.args.items.items
