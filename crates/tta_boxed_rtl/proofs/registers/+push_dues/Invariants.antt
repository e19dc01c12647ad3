use Rattle.tta_boxed_rtl.proofs.registers.+push_dues.Given as goal

-- fewer delays are left
abbrev pub decreases-push_dues : goal.decreases-push_dues
decreases-push_dues l = l.count
