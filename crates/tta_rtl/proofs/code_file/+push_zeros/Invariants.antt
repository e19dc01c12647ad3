use Rattle.tta_rtl.proofs.code_file.+push_zeros.Given as goal

-- the rest has fewer digits
abbrev pub decreases-push_zeros : goal.decreases-push_zeros
decreases-push_zeros l = l.digits
