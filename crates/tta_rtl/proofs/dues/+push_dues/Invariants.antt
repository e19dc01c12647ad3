use Rattle.tta_rtl.proofs.dues.+push_dues.Given as goal

-- fewer delays are left
abbrev pub decreases-push_dues : goal.decreases-push_dues
decreases-push_dues l = l.count
