use Rattle.std.proofs.Common.{sym}
use Rattle.std.proofs.lemmas.Bool.{ltb-true}
use Rattle.tta_image.specs.Cited.{same_dest}
use Rattle.tta_image.specs.Ranks.{dest_rank}
use Rattle.tta_image.proofs.Orders.{same_dest_rank}
use Rattle.tta_image.proofs.Sought.{found}
use Rattle.tta_image.proofs.search.place_of_dest.Goals as goal

pub returns-in-Some : goal.returns-in-Some
returns-in-Some c =
    let item = c.in-Some.ensures.lookup in
    found dest_rank (same_dest c.args.dst) (dest_rank c.args.dst) 16387 c.args.first c.in-Some.d.now c.args.dests.now c.requires.rising
    (same_dest_rank c.args.dst) (ltb-true _ _ (sym item.0)) item.1 (sym c.if-same_dest.ensures)
