use Rattle.tta_flow.proofs.RoundLemmas.{found_all}
use Rattle.tta_flow.proofs.rows.live_rows.Goals as goal

pub returns-then-not-round : goal.returns-then-not-round
returns-then-not-round c =
    rw c.into_rows.ensures (found_all c.args.steps.now c.args.vars c.round.new.self c.round.ensures.work (c.round.ensures.calm c.if-not-round.true))
