use Rattle.std.proofs.Common.{rules, ◌≡◌, ◌<◌, ◌+◌, ◌-◌, ◌++◌, ◌∷◌, [], length, length-append, map, arith}
use Rattle.std.specs.List.{range_with_len}
use Rattle.std.proofs.lemmas.Result.{err_from_is_err_and}
use Rattle.tta_ops.specs.Row.{names_of}
use Rattle.tta_ops.specs.Offers.{row_of, unit_rows}
use Rattle.tta_ops.specs.Refusal.{first_refusal}
use Rattle.tta_ops.proofs.Walk.{rest_of_unit, rows_later, refusal_next, cause_next}
use Rattle.tta_ops.proofs.table.OperationTable.add_unit.Goals as goal

pub loop-index-init : goal.loop-index-init
loop-index-init g c = search rules

pub returns-in_err-add_from-clause-refusal : goal.returns-in_err-add_from-clause-refusal
returns-in_err-add_from-clause-refusal g c =
    let U = g.U.OpUnit in
    let offered = c.args.offered.now in
    let row = row_of U.unit_name U.unit_arity c.args.unit offered in
    let index = c.loop-index.index in
    let below : index < U.unit_size offered = omega (arith, c.count-index-end.ensures) in
    let error = err_from_is_err_and c.from_residual.result c.from_residual.ensures.1 in
    rw (error.1, error.2, ← c.loop-index.invariant.refusal, rest_of_unit row index (U.unit_size offered) below)
    (cause_next c.loop-index.self.operations (row index) (map row (range_with_len (index + 1) (U.unit_size offered - (index + 1))))
    c.in_err-add_from.field-0.0 c.in_err-add_from.ensures.refusal)

pub loop-index-preserved : goal.loop-index-preserved
loop-index-preserved g c =
    let U = g.U.OpUnit in
    let offered = c.args.offered.now in
    let row = row_of U.unit_name U.unit_arity c.args.unit offered in
    let index = c.loop-index.index in
    let rest = map row (range_with_len (index + 1) (U.unit_size offered - (index + 1))) in
    let below : index < U.unit_size offered = omega (arith, c.count-index-end.ensures) in
    let step = rest_of_unit row index (U.unit_size offered) below in
    let old = rw step at c.loop-index.invariant.rows in
    let walk = rw step at c.loop-index.invariant.refusal in
    let before = c.loop-index.self.operations in
    let size : length (before ++ row index ∷ []) ≡ length before + 1 = length-append before (row index ∷ []) in
    let all = unit_rows U.unit_size U.unit_name U.unit_arity c.args.unit offered in
    let was = c.args.self.now.operations in
    rw c.in_ok-add_from.ensures.ok (record {
      rows = rows_later (was ++ all) before (row index ∷ []) rest old;
      refusal = refusal_next (first_refusal (names_of was) all) before (row index) rest c.in_ok-add_from.ensures.refusal walk;
      room = omega (arith, size);
    })
