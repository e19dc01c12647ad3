use Rattle.std.proofs.Common.{ap, sym, ◌∙◌, ◌==◌}
use Rattle.std.specs.Option.{option_map_or}
use Rattle.tta_list.proofs.Lists.{item_there, item_past}
use Rattle.tta_sim.proofs.decode.is_narrow.Goals as goal

pub returns-in-Some : goal.returns-in-Some
returns-in-Some c =
    let item = c.in-Some.ensures.lookup in
    let files = c.as_slice.ensures ∙ ap (λ m. m.files) c.m.view_is in
    ap (λ o. option_map_or (λ f. f.width) o 32 == 1) (sym (item_there _ _ _ _ _ files c.from.ensures item.0 item.1))

pub returns-in-None : goal.returns-in-None
returns-in-None c =
    let item = c.in-None.ensures.lookup in
    let files = c.as_slice.ensures ∙ ap (λ m. m.files) c.m.view_is in
    ap (λ o. option_map_or (λ f. f.width) o 32 == 1) (sym (item_past _ _ _ _ files c.from.ensures item.0))
