use Rattle.std.proofs.Common.{ℕ, ap, sym, ◌∙◌, subst}
use Rattle.std.specs.Option.{is_some}
use Rattle.std.proofs.lemmas.Bool.{ltb-true, ltb-false}
use Rattle.tta_image.specs.Cited.{same_source}
use Rattle.tta_image.specs.Ranks.{source_rank, IsPlaceOf}
use Rattle.tta_image.proofs.Orders.{same_source_rank}
use Rattle.tta_image.proofs.Sought.{found, missed, ended}
use Rattle.tta_image.proofs.search.search_source.Goals as goal

pub returns-in-Some : goal.returns-in-Some
returns-in-Some c =
    let item = c.in-Some.ensures.lookup in
    found source_rank (same_source c.args.src) (source_rank c.args.src) 16385 c.sources_below-place.result c.in-Some.s.now c.args.sources.now c.requires.rising
    (same_source_rank c.args.src) (ltb-true _ _ (sym item.0)) item.1 (sym c.if-same_source.ensures)

pub returns-in_default : goal.returns-in_default
returns-in_default c =
    let item = c.in-Some.ensures.lookup in
    missed source_rank (same_source c.args.src) (source_rank c.args.src) 16385 c.sources_below-place.result c.in-Some.s.now c.args.sources.now c.requires.rising
    (same_source_rank c.args.src)
    (subst (λ (r : ℕ). IsPlaceOf source_rank r c.args.sources.now c.sources_below-place.result) c.source_rank.ensures c.sources_below-place.ensures) (ltb-true _ _ (sym item.0)) item.1 (sym c.if-same_source.ensures)

pub returns-in_default-2 : goal.returns-in_default-2
returns-in_default-2 c =
    ended source_rank (same_source c.args.src) (source_rank c.args.src) 16385 c.sources_below-place.result c.args.sources.now c.requires.rising
    (same_source_rank c.args.src)
    (subst (λ (r : ℕ). IsPlaceOf source_rank r c.args.sources.now c.sources_below-place.result) c.source_rank.ensures c.sources_below-place.ensures) (ltb-false _ _ (sym c.get.ensures.lookup.0 ∙ ap is_some c.in_default.is))
