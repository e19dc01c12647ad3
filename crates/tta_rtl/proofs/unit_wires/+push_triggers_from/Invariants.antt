use Rattle.std.proofs.Common.{length}
use Rattle.tta_rtl.proofs.unit_wires.+push_triggers_from.Given as goal

-- the rest of the list is shorter
abbrev pub decreases-push_triggers_from : goal.decreases-push_triggers_from
decreases-push_triggers_from l = length l.ops.now
