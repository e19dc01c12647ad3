use Rattle.std.proofs.Common.{◌∙◌, ap, refl, slice_get, sym}
use Rattle.std.proofs.lemmas.Option.{slice_get_past, slice_get_read}
use Rattle.tta_ops.proofs.Names.{place_at}
use Rattle.tta_ops.proofs.operations.Operations.place.Goals as goal

pub returns-in-Some : goal.returns-in-Some
returns-in-Some c =
    let item = c.in-Some.ensures.lookup in
    let there = slice_get_read c.deref.result.now _ c.args.op _ refl item.3.0 item.1 in
    rw (← c.self.view_is)
    (sym there ∙ ap (λ ps. slice_get ps c.args.op) (c.deref.ensures.value ∙ c.self.inside.noted)
    ∙ place_at c.self.inside.by_name.entries c.args.op)

pub returns-in-None : goal.returns-in-None
returns-in-None c =
    let past = slice_get_past c.deref.result.now c.args.op c.in-None.ensures.lookup.3 in
    rw (← c.self.view_is)
    (sym past ∙ ap (λ ps. slice_get ps c.args.op) (c.deref.ensures.value ∙ c.self.inside.noted)
    ∙ place_at c.self.inside.by_name.entries c.args.op)
