use Rattle.std.proofs.Common.{◌<◌, length, ap, subst, sym, ◌∙◌}
use Rattle.std.specs.Prelude.{option_and_then, slice_get}
use Rattle.std.proofs.lemmas.Bool.{ltb-true}
use Rattle.tta_list.proofs.Lists.{item_there, item_past}
use Rattle.tta_sim.proofs.Lists.{item_copied}
use Rattle.tta_sim.proofs.decode.op_of.Goals as goal

pub returns-in-Some-clause-op : goal.returns-in-Some-clause-op
returns-in-Some-clause-op c =
    let item = c.in-Some.ensures.lookup in
    let units = c.as_slice.ensures ∙ ap (λ m. m.units) c.m.view_is in
    item_copied _ _ _ c.get-in-Some.ensures.lookup
    ∙ ap (slice_get c.as_slice-in-Some.result.now) c.from-in-Some.ensures
    ∙ ap (λ l. slice_get l c.args.op) c.as_slice-in-Some.ensures
    ∙ ap (option_and_then (λ u. slice_get u.ops c.args.op)) (sym (item_there _ _ _ _ _ units c.from.ensures item.0 item.1))

pub returns-in-Some-clause-unit : goal.returns-in-Some-clause-unit
returns-in-Some-clause-unit c = λ some.
    let units = c.as_slice.ensures ∙ ap (λ m. m.units) c.m.view_is in
    subst (λ n. n < length c.args.m.now.units) c.from.ensures
    (subst (λ l. c.from.result < length l) units (ltb-true _ _ (sym c.in-Some.ensures.lookup.0)))

pub returns-in-None-clause-op : goal.returns-in-None-clause-op
returns-in-None-clause-op c =
    let item = c.in-None.ensures.lookup in
    let units = c.as_slice.ensures ∙ ap (λ m. m.units) c.m.view_is in
    ap (option_and_then (λ u. slice_get u.ops c.args.op)) (sym (item_past _ _ _ _ units c.from.ensures item.0))
