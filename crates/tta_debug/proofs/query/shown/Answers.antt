use Rattle.std.proofs.Common.{true, false, is_some, Some, sym, ap, ◌∙◌}
use Rattle.tta_arch.specs.declared.parts.Unit.{Unit as OpUnit}
use Rattle.tta_debug.specs.Cited.{Machine}
use Rattle.tta_debug.specs.Debugged.{value}
use Rattle.tta_debug.proofs.Seeing.{shown_is}
use Rattle.tta_debug.proofs.query.shown.Goals as goal

pub returns-then-is_some : goal.returns-then-is_some
returns-then-is_some c = λ s stands.
    let has = ap (λ (u : OpUnit). is_some u.result) c.index-units-k.is ∙ sym c.is_some.ensures ∙ c.if-is_some.true in
    ap Some (c.value.ensures ∙ ap value (c.port.ensures s stands))
    ∙ sym (shown_is c.args.m.now s c.args.unit.now c.in_ok-k.k c.as_slice-units.result.now c.index-units-k.result true
    (c.as_slice-units.ensures ∙ ap (λ (m : Machine). m.units) c.m.view_is) (sym c.unit_named.ensures ∙ c.in_ok-k.was) c.index-units-k.is has)

pub returns-else-is_some : goal.returns-else-is_some
returns-else-is_some c = λ s stands.
    let has = ap (λ (u : OpUnit). is_some u.result) c.index-units-k.is ∙ sym c.is_some.ensures ∙ c.if-is_some.false in
    sym (shown_is c.args.m.now s c.args.unit.now c.in_ok-k.k c.as_slice-units.result.now c.index-units-k.result false
    (c.as_slice-units.ensures ∙ ap (λ (m : Machine). m.units) c.m.view_is) (sym c.unit_named.ensures ∙ c.in_ok-k.was) c.index-units-k.is has)
