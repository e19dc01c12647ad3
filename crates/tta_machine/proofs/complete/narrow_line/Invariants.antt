use Rattle.std.proofs.Common.{◌≡◌, drop}
use Rattle.tta_machine.specs.Text.{narrow_line}
use Rattle.tta_machine.proofs.complete.narrow_line.Given as goal

abbrev pub invariant-loop-k : goal.invariant-loop-k
invariant-loop-k l = narrow_line l.m (drop l.k l.templates) (drop l.k l.lines) ≡ narrow_line l.m l.templates l.lines
