use Rattle.tta_own_circuits.proofs.included.+push_function_at.Given as goal

-- fewer operations are left
abbrev pub decreases-push_function_at : goal.decreases-push_function_at
decreases-push_function_at g l = l.below
