use Rattle.std.proofs.Common.{◌≡◌, drop}
use Rattle.tta_connect.specs.Coverage.{first_by, call_if}
use Rattle.tta_connect.proofs.calls.call_among.Given as goal

abbrev pub invariant-loop-k : goal.invariant-loop-k
invariant-loop-k l = first_by (call_if l.op l.unit) 0 l.ops ≡ first_by (call_if l.op l.unit) l.k (drop l.k l.ops)
