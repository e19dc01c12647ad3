use Rattle.tta_trap_rtl.proofs.fault.+push_underway_from.Given as goal

-- fewer delays are left
abbrev pub decreases-push_underway_from : goal.decreases-push_underway_from
decreases-push_underway_from l = l.count
