use Rattle.std.proofs.Common.{◌++◌}
use Rattle.std.specs.Prelude.{codes}
use Rattle.tta_list.proofs.Lists.{then_more}
use Rattle.tta_list.proofs.Results.{onward}
use Rattle.tta_wiring.specs.declared.part.Part.TheVariants as part
use Rattle.tta_wiring.specs.Top.{each_text, head_text, wires_text}
use Rattle.tta_wiring.proofs.top.push_top.Goals as goal

pub returns : goal.returns
returns c =
    let ends = c.args.ends.now in
    let feeds = c.args.feeds.now in
    let p5 = each_text part.Queue ends feeds in
    let r5 = p5 ++ codes "endmodule\n" in
    let p4 = each_text part.Core ends feeds in
    let r4 = p4 ++ r5 in
    let p3 = each_text part.Shown ends feeds in
    let r3 = p3 ++ r4 in
    let p2 = wires_text ends feeds in
    onward c.push_text.result (λ last.
    then_more _ _ _ (head_text ends feeds) (p2 ++ r3) c.in_ok-push_head.ensures
    (then_more _ _ _ p2 r3 c.in_ok-push_wires.ensures
    (then_more _ _ _ p3 r4 c.in_ok-push_each.ensures
    (then_more _ _ _ p4 r5 c.in_ok-push_each-2.ensures
    (then_more _ _ _ p5 (codes "endmodule\n") c.in_ok-push_each-3.ensures last))))) c.push_text.ensures
