use Rattle.tta_inspect.proofs.depths.+add_list.Given as goal

-- fewer numbers are left
abbrev pub decreases-add_list : goal.decreases-add_list
decreases-add_list l = l.count
