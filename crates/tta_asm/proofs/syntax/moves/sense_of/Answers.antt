use Rattle.std.proofs.Common.{refl}
use Rattle.tta_asm.proofs.syntax.moves.sense_of.Goals as goal

pub returns-then-is_mark-2 : goal.returns-then-is_mark-2
returns-then-is_mark-2 c =
    rw (← c.is_mark.ensures, c.if-is_mark.false, ← c.is_mark-else-is_mark.ensures, c.if-is_mark-2.true) refl
