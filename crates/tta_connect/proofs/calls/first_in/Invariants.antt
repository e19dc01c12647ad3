use Rattle.std.proofs.Common.{◌≡◌, drop}
use Rattle.tta_connect.specs.Coverage.{first_by, call_if}
use Rattle.tta_connect.proofs.calls.first_in.Given as goal

abbrev pub invariant-loop-k : goal.invariant-loop-k
invariant-loop-k l =
    first_by (λ unit v. first_by (call_if l.op unit) 0 v.ops) 0 l.units ≡ first_by (λ unit v. first_by (call_if l.op unit) 0 v.ops) l.k (drop l.k l.units)
