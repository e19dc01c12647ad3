use Rattle.tta_alloc.proofs.AllotLemmas.{turns_allot}
use Rattle.tta_alloc.proofs.homes.turns_allot.Goals as goal

pub returns : goal.returns
returns c = turns_allot
