use Rattle.tta_boxed_rtl.proofs.froms.+push_delays.Given as goal

-- fewer delays are left
abbrev pub decreases-push_delays : goal.decreases-push_delays
decreases-push_delays l = l.count
