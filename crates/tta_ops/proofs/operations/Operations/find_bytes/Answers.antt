use Rattle.std.proofs.Common.{sym}
use Rattle.tta_ops.proofs.Names.{first_at_no_text}
use Rattle.tta_ops.proofs.operations.Operations.find_bytes.Goals as goal

pub returns-in-Err-clause-found : goal.returns-in-Err-clause-found
returns-in-Err-clause-found c = rw (← c.self.view_is) (sym (first_at_no_text c.args.name.now 0 c.self.inside.by_name.entries c.in-Err.ensures.cases.0))
