use Rattle.std.proofs.Common.{arith}
use Rattle.tta_asm.proofs.Counted.{length-pieces}
use Rattle.tta_asm.proofs.pieces.Pieces.new.Goals as goal

-- a text has at most two pieces more than bytes
pub returns-clause-few : goal.returns-clause-few
returns-clause-few c = rw c.new.ensures (omega (arith, length-pieces c.args.text.now))
