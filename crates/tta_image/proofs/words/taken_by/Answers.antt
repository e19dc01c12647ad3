use Rattle.std.proofs.Common.{ap, sym, ◌∙◌}
use Rattle.std.specs.Option.{option_map_or}
use Rattle.tta_list.proofs.Lists.{item_there, item_past}
use Rattle.tta_image.specs.Decoding.{taken_by}
use Rattle.tta_image.proofs.words.taken_by.Goals as goal

pub returns-in-Some-get : goal.returns-in-Some-get
returns-in-Some-get c =
    let item = c.in-Some-get.ensures.lookup in
    let templates = c.as_slice.ensures ∙ ap (λ m. m.templates) c.m.view_is in
    ap (λ o. option_map_or (λ t. t.buses) o 0) (sym (item_there _ _ _ _ _ templates c.from.ensures item.0 item.1)) ∙ ap (taken_by c.args.m.now) (sym c.in-Some.is)

pub returns-in-None : goal.returns-in-None
returns-in-None c =
    let templates = c.as_slice.ensures ∙ ap (λ m. m.templates) c.m.view_is in
    ap (λ o. option_map_or (λ t. t.buses) o 0) (sym (item_past _ _ _ _ templates c.from.ensures c.in-None.ensures.lookup.0)) ∙ ap (taken_by c.args.m.now) (sym c.in-Some.is)
