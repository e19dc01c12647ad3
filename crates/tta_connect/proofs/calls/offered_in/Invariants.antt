use Rattle.std.proofs.Common.{◌≡◌, drop}
use Rattle.tta_connect.specs.Cited.{has_bit}
use Rattle.tta_connect.specs.Coverage.{first_by, call_in}
use Rattle.tta_connect.proofs.calls.offered_in.Given as goal

abbrev pub invariant-loop-k : goal.invariant-loop-k
invariant-loop-k l =
    first_by (call_in (has_bit l.usable) l.op) 0 l.units ≡ first_by (call_in (has_bit l.usable) l.op) l.k (drop l.k l.units)
