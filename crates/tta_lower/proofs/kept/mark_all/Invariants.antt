use Rattle.std.proofs.Common.{◌≡◌, length}
use Rattle.tta_lower.specs.Plan.{homes_in, live_in}
use Rattle.tta_lower.specs.Lower.{owner_of}
use Rattle.tta_lower.specs.Layout.{vars_of}
use Rattle.tta_lower.proofs.Marks.{IsMarkedTo}
use Rattle.tta_lower.proofs.kept.mark_all.Given as goal

abbrev pub invariant-loop-x : goal.invariant-loop-x
invariant-loop-x l = record {
  size : length l.marks.items ≡ length l.fn.marks.items;
  marked : IsMarkedTo (homes_in l.plan) (vars_of l.plan.p.now (owner_of l.part)) (owner_of l.part) (live_in l.plan l.part) l.x l.marks.items;
}
