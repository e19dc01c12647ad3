use Rattle.std.proofs.Common.{◌++◌, [], ◌∷◌, ap, sym, refl, ◌∙◌}
use Rattle.std.proofs.lemmas.List.{append-nil}
use Rattle.std.specs.Option.{option_map_or}
use Rattle.tta_list.proofs.Lists.{item_past}
use Rattle.tta_inspect.specs.Remarks.{remark_at}
use Rattle.tta_inspect.proofs.remarking.push_start.Goals as goal

pub returns-in-None : goal.returns-in-None
returns-in-None c =
    let on = c.args.on.now in
    let items = c.args.remarks.now.items in
    sym (append-nil items)
    ∙ ap (λ o. items ++ option_map_or (λ start. remark_at on.program.now on.parts.now start c.args.k ∷ []) o [])
    (sym (item_past _ _ _ _ refl refl c.in-None.ensures.lookup.0))
