use Rattle.tta_optim.proofs.Stamps.{stamps_next, wanted_begin}
use Rattle.tta_optim.proofs.wanted.LiveOperands.begin.Goals as goal

pub invariant_of-self-else-self : goal.invariant_of-self-else-self
invariant_of-self-else-self c = stamps_next c.self.inside.list c.self.inside.marks.items c.self.invariant

pub returns-else-self : goal.returns-else-self
returns-else-self c = wanted_begin c.self.inside.list c.self.inside.marks.items c.self.invariant
