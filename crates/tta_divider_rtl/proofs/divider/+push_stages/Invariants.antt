use Rattle.tta_divider_rtl.proofs.divider.+push_stages.Given as goal

-- one less is left
abbrev pub decreases-push_stages : goal.decreases-push_stages
decreases-push_stages l = l.count
