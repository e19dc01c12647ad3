use Rattle.tta_cost.proofs.wires.+put_starts.Given as goal

-- fewer are left
abbrev pub decreases-put_starts : goal.decreases-put_starts
decreases-put_starts l = l.count
