use Rattle.std.proofs.Common.{rules}
use Rattle.tta_asm.proofs.resolving.checked.Goals as goal

pub returns-then-not-joins : goal.returns-then-not-joins
returns-then-not-joins c = search rules
