use Rattle.std.proofs.Common.{refl, arith, length, ◌<◌}
use Rattle.tta_lower.proofs.Split.{added-one}
use Rattle.tta_lower.proofs.parts.add_span.Goals as goal

pub returns-in_ok-push : goal.returns-in_ok-push
returns-in_ok-push c =
    let below : c.args.b.owner < length c.args.table.now.items = omega arith in
    added-one _ _ _ _ _ below c.index_mut-spans.ensures.value c.in_ok-push.ensures.items refl
