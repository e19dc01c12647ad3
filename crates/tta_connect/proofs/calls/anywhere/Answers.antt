use Rattle.tta_connect.proofs.Few.{few_at}
use Rattle.tta_connect.proofs.calls.anywhere.Goals as goal

pub first_in-requires-clause-few : goal.first_in-requires-clause-few
first_in-requires-clause-few c = few_at _ c.as_slice.result.now c.m.invariant c.as_slice.ensures
