use Rattle.std.proofs.Common.{◌≡◌}
use Rattle.tta_tacrun.proofs.Passed.{passing}
use Rattle.tta_tacrun.proofs.pass.pass.Given as goal

abbrev pub invariant-loop-i : goal.invariant-loop-i
invariant-loop-i l = l.variables.items ≡ passing l.fn.variables.items l.caller l.callee l.args l.i
