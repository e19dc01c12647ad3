use Rattle.std.proofs.Common.{◌+◌, ◌-◌, length}
use Rattle.tta_stdin.proofs.Gone.{HasRead}
use Rattle.tta_stdin.proofs.one_line.read_line.Given as goal

abbrev pub invariant-bytes : goal.invariant-bytes
invariant-bytes g l = HasRead (g.R.Read.remaining l.fn.reader) (g.R.Read.remaining l.reader) l.limit l.line.items

abbrev pub decreases-bytes : goal.decreases-bytes
decreases-bytes g l = l.limit + 1 - length l.line.items
