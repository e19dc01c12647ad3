use Rattle.std.proofs.Common.{sym}
use Rattle.std.proofs.lemmas.Bool.{ltb-true}
use Rattle.tta_image.specs.Cited.{same_source}
use Rattle.tta_image.specs.Ranks.{source_rank}
use Rattle.tta_image.proofs.Orders.{same_source_rank}
use Rattle.tta_image.proofs.Sought.{found}
use Rattle.tta_image.proofs.search.place_of_source.Goals as goal

pub returns-in-Some : goal.returns-in-Some
returns-in-Some c =
    let item = c.in-Some.ensures.lookup in
    found source_rank (same_source c.args.src) (source_rank c.args.src) 16385 c.args.first c.in-Some.s.now c.args.sources.now c.requires.rising
    (same_source_rank c.args.src) (ltb-true _ _ (sym item.0)) item.1 (sym c.if-same_source.ensures)
