use Rattle.tta_inspect.proofs.command.view_text.Goals as goal

pub returns-in-Cost : goal.returns-in-Cost
returns-in-Cost g c = rw c.in-Cost.is c.tell_cost.ensures
