use Rattle.tta_rtl.proofs.code_file.+push_digits.Given as goal

-- the rest has fewer bits
abbrev pub decreases-push_digits : goal.decreases-push_digits
decreases-push_digits l = l.width
