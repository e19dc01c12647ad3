use Rattle.std.proofs.Common.{◌++◌}
use Rattle.tta_list.proofs.Lists.{then_more}
use Rattle.tta_list.proofs.Results.{onward}
use Rattle.tta_wiring.specs.declared.part.Part.TheVariants as part
use Rattle.tta_wiring.specs.Top.{each_text}
use Rattle.tta_wiring.proofs.top.push_wires.Goals as goal

pub returns : goal.returns
returns c =
    let ends = c.args.ends.now in
    let feeds = c.args.feeds.now in
    let wires = each_text part.Wires ends feeds in
    let others = each_text part.Offered ends feeds in
    onward c.push_each-3.result (λ last.
    then_more _ _ _ (each_text part.Driven ends feeds) (wires ++ others) c.in_ok-push_each.ensures
    (then_more _ _ _ wires others c.in_ok-push_each-2.ensures last)) c.push_each-3.ensures
