use Rattle.tta_disasm.proofs.print.push_source.Goals as goal

pub returns-in-Value : goal.returns-in-Value
returns-in-Value c = rw c.in-Value.is c.push_number.ensures
