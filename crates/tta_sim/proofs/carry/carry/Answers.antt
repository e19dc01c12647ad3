use Rattle.tta_sim.proofs.carry.carry.Goals as goal

pub returns-then-line : goal.returns-then-line
returns-then-line g c = c.carry_pure.ensures.cycle c.args.next
