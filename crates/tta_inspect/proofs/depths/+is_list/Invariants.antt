use Rattle.tta_inspect.proofs.depths.+is_list.Given as goal

-- fewer numbers are left
abbrev pub decreases-is_list : goal.decreases-is_list
decreases-is_list l = l.count
