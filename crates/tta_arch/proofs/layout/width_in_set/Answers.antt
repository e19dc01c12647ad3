use Rattle.tta_arch.proofs.layout.width_in_set.Goals as goal

pub returns-then-has_bus : goal.returns-then-has_bus
returns-then-has_bus c = rw (← c.has_bus.ensures, c.if-has_bus.true)
