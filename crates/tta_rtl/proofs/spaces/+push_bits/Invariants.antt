use Rattle.tta_rtl.proofs.spaces.+push_bits.Given as goal

-- the rest has fewer bits
abbrev pub decreases-push_bits : goal.decreases-push_bits
decreases-push_bits l = l.width
