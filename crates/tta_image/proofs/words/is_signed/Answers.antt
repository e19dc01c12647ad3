use Rattle.std.proofs.Common.{false, ap, sym, refl, ◌∙◌}
use Rattle.std.specs.Option.{option_map_or}
use Rattle.tta_list.proofs.Lists.{item_there, item_past}
use Rattle.tta_image.proofs.words.is_signed.Goals as goal

pub returns-in-Some : goal.returns-in-Some
returns-in-Some c =
    let item = c.in-Some.ensures.lookup in
    let buses = c.as_slice.ensures ∙ ap (λ m. m.buses) c.m.view_is in
    ap (λ o. option_map_or (λ b. b.signed) o false) (sym (item_there _ _ _ _ _ buses refl item.0 item.1))

pub returns-in-None : goal.returns-in-None
returns-in-None c =
    let buses = c.as_slice.ensures ∙ ap (λ m. m.buses) c.m.view_is in
    ap (λ o. option_map_or (λ b. b.signed) o false) (sym (item_past _ _ _ _ buses refl c.in-None.ensures.lookup.0))
