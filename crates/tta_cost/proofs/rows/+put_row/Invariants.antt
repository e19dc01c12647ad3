use Rattle.tta_cost.proofs.rows.+put_row.Given as goal

-- fewer registers are left
abbrev pub decreases-put_row : goal.decreases-put_row
decreases-put_row l = l.count
