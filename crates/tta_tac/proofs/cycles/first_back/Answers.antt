use Rattle.std.proofs.Common.{le_trans}
use Rattle.tta_tac.proofs.CallLemmas.{reaches_within}
use Rattle.tta_tac.proofs.cycles.first_back.Goals as goal

pub returns : goal.returns
returns c = λ k back.
    c.loop-place.invariant k (le_trans (reaches_within c.args.procs.now k k back) c.loop-place-test.false) back
