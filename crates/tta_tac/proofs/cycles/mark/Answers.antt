-- The place was not marked, and now is.
use Rattle.std.proofs.Common.{◌≡◌, ◌<◌, false, length, get_or, arith}
use Rattle.tta_tac.proofs.Search.{marks_one}
use Rattle.tta_tac.proofs.cycles.mark.Goals as goal

pub returns-clause-marked : goal.returns-clause-marked
returns-clause-marked c =
    let below : c.args.place < length c.args.marks.now.items = omega arith in
    let clear : get_or c.args.marks.now.items c.args.place false ≡ false = grind (arith, c.index.ensures, c.if-index.false) in
    rw c.in_ok-push.ensures.items (marks_one _ _ _ c.requires below clear)
