use Rattle.std.proofs.Common.{refl}
use Rattle.std.proofs.lemmas.Bool.{ne_eqb}
use Rattle.tta_text.proofs.bytes.is_blank.Goals as goal

pub returns-else-byte-eq9 : goal.returns-else-byte-eq9
returns-else-byte-eq9 c = rw (ne_eqb c.args.byte 32 c.if-byte-eq9.false.0, ne_eqb c.args.byte 9 c.if-byte-eq9.false.1) refl
