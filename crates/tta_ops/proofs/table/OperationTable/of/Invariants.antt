use Rattle.std.proofs.Common.{◌≡◌, ◌≤◌, ◌+◌, ◌++◌, [], length, drop}
use Rattle.std.specs.List.{sum_by}
use Rattle.tta_ops.specs.Row.{names_of}
use Rattle.tta_ops.specs.Offers.{rows_from}
use Rattle.tta_ops.specs.Refusal.{first_refusal}
use Rattle.tta_ops.proofs.table.OperationTable.of.Given as goal

abbrev pub invariant-loop-offered : goal.invariant-loop-offered
invariant-loop-offered g l =
    let U = g.U.OpUnit in
    let rest = rows_from U.unit_size U.unit_name U.unit_arity l.unit (drop l.offered-index l.units) in
    let all = rows_from U.unit_size U.unit_name U.unit_arity 0 l.units in
    record {
      number : l.unit ≡ l.offered-index;
      rows : l.table.operations ++ rest ≡ all;
      refusal : first_refusal (names_of l.table.operations) rest ≡ first_refusal [] all;
      room : length l.table.operations + sum_by U.unit_size (drop l.offered-index l.units) ≤ 65536;
    }
