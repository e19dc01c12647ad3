use Rattle.tta_inspect.proofs.depths.+exponent_from.Given as goal

-- fewer exponents are left
abbrev pub decreases-exponent_from : goal.decreases-exponent_from
decreases-exponent_from l = l.left
