use Rattle.std.proofs.Common.{refl}
use Rattle.tta_asm.proofs.resolving.template_at.Goals as goal

pub returns-in-Template : goal.returns-in-Template
returns-in-Template c = rw c.in-Template.is refl
