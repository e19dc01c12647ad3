use Rattle.tta_machine.proofs.draft.Draft.is_taken.Goals as goal

pub returns-else-is_some : goal.returns-else-is_some
returns-else-is_some c = rw (← c.get.ensures, ← c.is_some.ensures, c.if-is_some.false, c.eq.ensures, c.as_slice.ensures)
