use Rattle.tta_alloc.proofs.AllotLemmas.{scans_allot}
use Rattle.tta_alloc.proofs.homes.scans_allot.Goals as goal

pub returns : goal.returns
returns c = scans_allot
