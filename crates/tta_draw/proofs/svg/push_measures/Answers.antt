use Rattle.std.proofs.Common.{◌++◌}
use Rattle.std.specs.Prelude.{codes}
use Rattle.tta_draw.specs.Svg.{measures_text, pair_text}
use Rattle.tta_draw.proofs.svg.push_measures.Goals as goal
use Rattle.tta_list.proofs.Lists.{then_more}
use Rattle.tta_list.proofs.Results.{onward}

pub returns : goal.returns
unfolding measures_text
returns c =
    let pair = pair_text c.args.width c.args.height in
    onward c.push_text-2.result (λ last. then_more _ _ _ (codes " viewBox=\"0 0 ") (pair ++ codes "\"") c.in_ok-push_text.ensures
    (then_more _ _ _ pair (codes "\"") c.in_ok-push_pair.ensures last)) c.push_text-2.ensures
