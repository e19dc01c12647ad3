use Rattle.std.proofs.Common.{◌≡◌, ◌<◌, ◌+◌, ◌++◌, length, length-append, ◌∙◌, [], arith, drop}
use Rattle.std.proofs.lemmas.Result.{err_from_is_err_and}
use Rattle.tta_ops.specs.Offers.{unit_rows, rows_from}
use Rattle.tta_ops.specs.Refusal.{first_refusal}
use Rattle.tta_ops.proofs.Walk.{rest_of_units, size_of_rest, length-unit_rows, rows_later, refusal_later, cause_later}
use Rattle.tta_ops.proofs.table.OperationTable.of.Goals as goal

pub returns-in_err-add_unit-clause-refusal : goal.returns-in_err-add_unit-clause-refusal
returns-in_err-add_unit-clause-refusal g c =
    let U = g.U.OpUnit in
    let unit = c.loop-offered.unit in
    let index = c.loop-offered.offered-index in
    let units = c.args.units.now in
    let offered = c.offered-item.result in
    let below : index < length units = omega arith in
    let error = err_from_is_err_and c.from_residual.result c.from_residual.ensures.1 in
    rw (error.1, error.2, ← c.loop-offered.invariant.refusal, rest_of_units U.unit_size U.unit_name U.unit_arity unit units index offered below c.offered-item.is)
    (cause_later c.loop-offered.table.operations (unit_rows U.unit_size U.unit_name U.unit_arity unit offered)
    (rows_from U.unit_size U.unit_name U.unit_arity (unit + 1) (drop (index + 1) units)) c.in_err-add_unit.field-0.0 c.in_err-add_unit.ensures.refusal)

pub loop-offered-preserved : goal.loop-offered-preserved
loop-offered-preserved g c =
    let U = g.U.OpUnit in
    let unit = c.loop-offered.unit in
    let index = c.loop-offered.offered-index in
    let units = c.args.units.now in
    let offered = c.offered-item.result in
    let before = c.loop-offered.table.operations in
    let here = unit_rows U.unit_size U.unit_name U.unit_arity unit offered in
    let rest = rows_from U.unit_size U.unit_name U.unit_arity (unit + 1) (drop (index + 1) units) in
    let all = rows_from U.unit_size U.unit_name U.unit_arity 0 units in
    let below : index < length units = omega arith in
    let step =
    rest_of_units U.unit_size U.unit_name U.unit_arity unit units index offered below c.offered-item.is in
    let old = rw step at c.loop-offered.invariant.rows in
    let walk = rw step at c.loop-offered.invariant.refusal in
    let fits =
    rw (size_of_rest U.unit_size units index offered below c.offered-item.is) at c.loop-offered.invariant.room in
    let size : length (before ++ here) ≡ length before + U.unit_size offered =
    length-append before here ∙ rw (length-unit_rows U.unit_size U.unit_name U.unit_arity unit offered) in
    rw c.in_ok-add_unit.ensures.ok (record {
      number = omega arith;
      rows = rows_later all before here rest old;
      refusal = refusal_later (first_refusal [] all) before here rest c.in_ok-add_unit.ensures.refusal walk;
      room = omega (arith, size, fits);
    })
