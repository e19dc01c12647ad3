use Rattle.std.proofs.Common.{◌++◌}
use Rattle.std.specs.Prelude.{codes}
use Rattle.tta_draw.specs.Svg.{circle_text}
use Rattle.tta_draw.proofs.svg.start_dot.Goals as goal
use Rattle.tta_list.proofs.Lists.{then_more}
use Rattle.tta_list.proofs.Results.{onward}

pub returns : goal.returns
unfolding circle_text
returns c =
    let class = c.args.class.now in
    onward c.push_text-3.result (λ last. then_more _ _ _ (codes "<circle class=\"") (class ++ codes "\"") c.in_ok-push_text.ensures
    (then_more _ _ _ class (codes "\"") c.in_ok-push_text-2.ensures last)) c.push_text-3.ensures
