use Rattle.tta_tacrun.proofs.Kept.{kept_leave}
use Rattle.tta_tacrun.proofs.calls.Calls.leave.Goals as goal

pub invariant_of-self : goal.invariant_of-self
invariant_of-self c = kept_leave _ _ _ _ _ _ _ c.in-Some.ensures.items c.in-Some.ensures.capacity c.self.invariant
