use Rattle.std.proofs.Common.{◌≡◌, ◌++◌, [], drop}
use Rattle.tta_own_circuits.specs.Included as i
use Rattle.tta_own_circuits.proofs.included.with_functions.Given as goal

-- what stands so far and the rest of the text make the whole
abbrev pub invariant-loop-k : goal.invariant-loop-k
invariant-loop-k g l =
    let of = i.with_functions (g.U.OpUnit.unit_name l.unit) (g.U.CircuitUnit.unit_circuit l.unit) (g.U.OpUnit.unit_size l.unit) in
    l.out.items ++ of l.line.items (drop l.k l.text) ≡ of [] l.text
