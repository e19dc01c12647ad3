use Rattle.std.proofs.Common.{arith}
use Rattle.tta_parse.proofs.Counted.{length-lines}
use Rattle.tta_parse.proofs.lines.Lines.new.Goals as goal

-- a text has at most one line more than bytes
pub returns-clause-few : goal.returns-clause-few
returns-clause-few c = rw c.new.ensures (omega (arith, length-lines c.args.text.now))
