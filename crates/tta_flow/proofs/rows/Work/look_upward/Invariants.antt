use Rattle.std.proofs.Common.{◌≤◌, length}
use Rattle.tta_flow.proofs.RoundLemmas.{RoundsTo}
use Rattle.tta_flow.proofs.rows.Work.look_upward.Given as goal

abbrev pub invariant-loop-at : goal.invariant-loop-at
invariant-loop-at l = record {
  within : l.at ≤ length l.steps;
  rounds : RoundsTo l.steps l.vars l.at l.grown l.self;
}

abbrev pub decreases-loop-at : goal.decreases-loop-at
decreases-loop-at l = l.at
