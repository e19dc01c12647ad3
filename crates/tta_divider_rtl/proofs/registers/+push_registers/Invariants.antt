use Rattle.tta_divider_rtl.proofs.registers.+push_registers.Given as goal

-- one less is left
abbrev pub decreases-push_registers : goal.decreases-push_registers
decreases-push_registers l = l.count
