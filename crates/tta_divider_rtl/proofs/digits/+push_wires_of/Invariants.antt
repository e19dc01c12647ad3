use Rattle.tta_divider_rtl.proofs.digits.+push_wires_of.Given as goal

-- one less is left
abbrev pub decreases-push_wires_of : goal.decreases-push_wires_of
decreases-push_wires_of l = l.count
