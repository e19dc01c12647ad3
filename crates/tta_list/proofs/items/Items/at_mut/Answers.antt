use Rattle.std.proofs.Common.{◌≡◌, refl, ap, subst, List, length, get_or}
use Rattle.std.proofs.lemmas.Option.{slice_get_read}
use Rattle.std.specs.Prelude.{slice_set}
use Rattle.tta_list.proofs.items.Items.at_mut.Goals as goal

-- the list takes the value that is written, at this place
pub returns : goal.returns
returns g c =
    let value = c.index_mut.result.now in
    let back = λ (w : g.row.T.Denot). ap (λ (xs : List g.row.T.Denot). slice_set xs c.args.index w) c.self.view_is in
    let here = subst (λ (xs : List g.row.T.Denot). value ≡ get_or xs c.args.index value) c.self.view_is c.index_mut.ensures.value in (
      (refl {a = c.index_mut.result.ghost_name}, back),
      record { writes_back = tt; value = slice_get_read c.args.self.now (length c.args.self.now) c.args.index value refl c.requires here },
    )
