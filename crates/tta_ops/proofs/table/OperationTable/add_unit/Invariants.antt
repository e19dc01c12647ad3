use Rattle.std.proofs.Common.{◌≡◌, ◌≤◌, ◌+◌, ◌++◌, ◌-◌, length, map}
use Rattle.std.specs.List.{range_with_len}
use Rattle.tta_ops.specs.Row.{names_of}
use Rattle.tta_ops.specs.Offers.{row_of, unit_rows}
use Rattle.tta_ops.specs.Refusal.{first_refusal}
use Rattle.tta_ops.proofs.table.OperationTable.add_unit.Given as goal

abbrev pub invariant-loop-index : goal.invariant-loop-index
invariant-loop-index g l =
    let U = g.U.OpUnit in
    let left = U.unit_size l.offered - l.index in
    let rest = map (row_of U.unit_name U.unit_arity l.unit l.offered) (range_with_len l.index left) in
    let all = unit_rows U.unit_size U.unit_name U.unit_arity l.unit l.offered in
    record {
      rows : l.self.operations ++ rest ≡ l.fn.self.operations ++ all;
      refusal : first_refusal (names_of l.self.operations) rest ≡ first_refusal (names_of l.fn.self.operations) all;
      room : length l.self.operations + left ≤ 65536;
    }
