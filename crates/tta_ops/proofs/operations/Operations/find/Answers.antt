use Rattle.std.proofs.Common.{◌∙◌}
use Rattle.tta_ops.proofs.Names.{position_first_at}
use Rattle.tta_ops.proofs.operations.Operations.find.Goals as goal

pub returns-clause-found : goal.returns-clause-found
returns-clause-found c = rw (← c.self.view_is) (c.get_index_of.ensures.index ∙ position_first_at c.args.name.now c.self.inside.by_name.entries)
