use Rattle.tta_cost.proofs.wires.+put_ports.Given as goal

-- fewer are left
abbrev pub decreases-put_ports : goal.decreases-put_ports
decreases-put_ports l = l.count
