use Rattle.std.proofs.Common.{◌++◌}
use Rattle.std.specs.Prelude.{codes}
use Rattle.tta_list.proofs.Lists.{then_more}
use Rattle.tta_list.proofs.Results.{onward}
use Rattle.tta_wiring.specs.declared.part.Part.TheVariants as part
use Rattle.tta_wiring.specs.Top.{each_text}
use Rattle.tta_wiring.proofs.top.push_head.Goals as goal

pub returns : goal.returns
returns c =
    let ends = c.args.ends.now in
    let feeds = c.args.feeds.now in
    let line = codes ");\ninput clk;\ninput [0:0] reset;\n" in
    let names = each_text part.Names ends feeds in
    let ports = each_text part.Ports ends feeds in
    onward c.push_each-2.result (λ last.
    then_more _ _ _ (codes "module tta_net (clk, reset") (names ++ (line ++ ports)) c.in_ok-push_text.ensures
    (then_more _ _ _ names (line ++ ports) c.in_ok-push_each.ensures
    (then_more _ _ _ line ports c.in_ok-push_text-2.ensures last))) c.push_each-2.ensures
