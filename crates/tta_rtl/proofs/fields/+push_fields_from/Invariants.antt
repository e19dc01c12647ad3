use Rattle.std.proofs.Common.{length}
use Rattle.tta_rtl.proofs.fields.+push_fields_from.Given as goal

-- the rest of the list is shorter
abbrev pub decreases-push_fields_from : goal.decreases-push_fields_from
decreases-push_fields_from l = length l.buses.now
