use Rattle.std.proofs.Common.{ℕ, ap, sym, ◌∙◌, subst}
use Rattle.std.specs.Option.{is_some}
use Rattle.std.proofs.lemmas.Bool.{ltb-true, ltb-false}
use Rattle.tta_image.specs.Cited.{same_dest}
use Rattle.tta_image.specs.Ranks.{dest_rank, IsPlaceOf}
use Rattle.tta_image.proofs.Orders.{same_dest_rank}
use Rattle.tta_image.proofs.Sought.{found, missed, ended}
use Rattle.tta_image.proofs.search.search_dest.Goals as goal

pub returns-in-Some : goal.returns-in-Some
returns-in-Some c =
    let item = c.in-Some.ensures.lookup in
    found dest_rank (same_dest c.args.dst) (dest_rank c.args.dst) 16387 c.dests_below-place.result c.in-Some.d.now c.args.dests.now c.requires.rising
    (same_dest_rank c.args.dst) (ltb-true _ _ (sym item.0)) item.1 (sym c.if-same_dest.ensures)

pub returns-in_default : goal.returns-in_default
returns-in_default c =
    let item = c.in-Some.ensures.lookup in
    missed dest_rank (same_dest c.args.dst) (dest_rank c.args.dst) 16387 c.dests_below-place.result c.in-Some.d.now c.args.dests.now c.requires.rising
    (same_dest_rank c.args.dst)
    (subst (λ (r : ℕ). IsPlaceOf dest_rank r c.args.dests.now c.dests_below-place.result) c.dest_rank.ensures c.dests_below-place.ensures) (ltb-true _ _ (sym item.0)) item.1 (sym c.if-same_dest.ensures)

pub returns-in_default-2 : goal.returns-in_default-2
returns-in_default-2 c =
    ended dest_rank (same_dest c.args.dst) (dest_rank c.args.dst) 16387 c.dests_below-place.result c.args.dests.now c.requires.rising
    (same_dest_rank c.args.dst)
    (subst (λ (r : ℕ). IsPlaceOf dest_rank r c.args.dests.now c.dests_below-place.result) c.dest_rank.ensures c.dests_below-place.ensures) (ltb-false _ _ (sym c.get.ensures.lookup.0 ∙ ap is_some c.in_default.is))
