use Rattle.std.proofs.Common.{◌++◌}
use Rattle.std.specs.Prelude.{codes}
use Rattle.tta_draw.specs.Svg.{head_text, view_text, style_text, box_text, frame}
use Rattle.tta_draw.proofs.svg.push_head.Goals as goal
use Rattle.tta_list.proofs.Lists.{then_more}
use Rattle.tta_list.proofs.Results.{onward}

pub returns : goal.returns
unfolding head_text
returns c =
    let view = view_text c.args.width c.args.height in
    let ground = box_text (codes "ground") (frame 0 0 c.args.width c.args.height) in
    onward c.push_box.result
    (λ last. then_more _ _ _ (codes "<svg xmlns=\"http://www.w3.org/2000/svg\"") (view ++ (codes ">\n" ++ (style_text ++ ground))) c.in_ok-push_text.ensures
    (then_more _ _ _ view (codes ">\n" ++ (style_text ++ ground)) c.in_ok-push_view.ensures
    (then_more _ _ _ (codes ">\n") (style_text ++ ground) c.in_ok-push_text-2.ensures
    (then_more _ _ _ style_text ground c.in_ok-push_style.ensures last)))) c.push_box.ensures
