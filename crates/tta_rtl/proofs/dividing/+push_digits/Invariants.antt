use Rattle.tta_rtl.proofs.dividing.+push_digits.Given as goal

-- one less is left
abbrev pub decreases-push_digits : goal.decreases-push_digits
decreases-push_digits l = l.count
