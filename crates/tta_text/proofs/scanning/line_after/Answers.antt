use Rattle.std.proofs.Common.{refl}
use Rattle.tta_text.proofs.scanning.line_after.Goals as goal

pub returns-then-byte-eq10-clause-line : goal.returns-then-byte-eq10-clause-line
returns-then-byte-eq10-clause-line c = rw c.if-byte-eq10.true refl
