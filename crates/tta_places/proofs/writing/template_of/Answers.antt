use Rattle.tta_places.proofs.Slots.{template_at}
use Rattle.tta_places.proofs.writing.template_of.Goals as goal

pub returns-clause-there : goal.returns-clause-there
returns-clause-there c = template_at c.args.m.now c.rules.ensures c.args.l.template _ c.template_at.ensures
