use Rattle.tta_connect.proofs.Few.{few_at}
use Rattle.tta_connect.proofs.calls.offered.Goals as goal

pub offered_in-requires-clause-few : goal.offered_in-requires-clause-few
offered_in-requires-clause-few c = few_at _ c.as_slice.result.now c.m.invariant c.as_slice.ensures
