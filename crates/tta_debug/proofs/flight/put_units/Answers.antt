use Rattle.std.proofs.Common.{◌+◌, ◌++◌, drop, ap, sym, ◌∙◌, subst, get_or}
use Rattle.tta_arch.specs.declared.parts.Unit.{Unit as OpUnit}
use Rattle.tta_report.proofs.Puts.{HasPut, put_more, put_part, part_is_put}
use Rattle.tta_debug.specs.Debugged.{texts, unit_lines, due_lines}
use Rattle.tta_debug.proofs.Flying.{unit_first}
use Rattle.tta_debug.proofs.flight.put_units.Goals as goal

pub returns-in_err-put_unit-clause-grows : goal.returns-in_err-put_unit-clause-grows
returns-in_err-put_unit-clause-grows g c = λ d stands.
    let units = c.args.units.now in
    let i = c.units.unit-index in
    let name = c.as_bytes.ensures ∙ ap (λ (u : OpUnit). u.name) c.unit-item.is in
    let rest = texts (unit_lines d (i + 1) (drop (i + 1) units)) in
    let same = ap (λ nm. texts (due_lines d nm c.units.number 1 16)) name ∙ ap (λ k. texts (due_lines d (get_or units i c.unit-item.result).name k 1 16)) c.units.invariant.number in
    let has = subst (λ k. HasPut (g.S.Sink.output c.args.sink.now).taken (g.S.Sink.output c.units.sink).taken (texts (unit_lines d 0 units)) (texts (unit_lines d k (drop i units))))
    c.units.invariant.number (c.units.invariant.put d stands) in
    let first = subst (HasPut (g.S.Sink.output c.args.sink.now).taken (g.S.Sink.output c.units.sink).taken (texts (unit_lines d 0 units)))
    (unit_first d units i c.unit-item.result c.units-test.true ∙ ap (λ t. t ++ rest) (sym same)) has in
    let part = c.in_err-put_unit.ensures.grows d stands in
    part_is_put _ _ _ _ c.from_residual.ensures.0 (put_part _ _ _ _ _ rest part.0 first part.1)

pub units-preserved : goal.units-preserved
units-preserved g c = record {
  number = ap (λ k. k + 1) c.units.invariant.number;
  put = λ d stands.
      let units = c.args.units.now in
      let i = c.units.unit-index in
      let name = c.as_bytes.ensures ∙ ap (λ (u : OpUnit). u.name) c.unit-item.is in
      let rest = texts (unit_lines d (i + 1) (drop (i + 1) units)) in
      let same = ap (λ nm. texts (due_lines d nm c.units.number 1 16)) name ∙ ap (λ k. texts (due_lines d (get_or units i c.unit-item.result).name k 1 16)) c.units.invariant.number in
      let has = subst (λ k. HasPut (g.S.Sink.output c.args.sink.now).taken (g.S.Sink.output c.units.sink).taken (texts (unit_lines d 0 units)) (texts (unit_lines d k (drop i units))))
      c.units.invariant.number (c.units.invariant.put d stands) in
      let first = subst (HasPut (g.S.Sink.output c.args.sink.now).taken (g.S.Sink.output c.units.sink).taken (texts (unit_lines d 0 units)))
      (unit_first d units i c.unit-item.result c.units-test.true ∙ ap (λ t. t ++ rest) (sym same)) has in
      subst (λ k. HasPut (g.S.Sink.output c.args.sink.now).taken (g.S.Sink.output c.put_unit.new.sink).taken (texts (unit_lines d 0 units)) (texts (unit_lines d (k + 1) (drop (i + 1) units))))
      (sym c.units.invariant.number) (put_more _ _ _ _ _ rest first (c.in_ok-put_unit.ensures.grows d stands));
  faults = c.in_ok-put_unit.ensures.cause ∙ c.units.invariant.faults;
}
