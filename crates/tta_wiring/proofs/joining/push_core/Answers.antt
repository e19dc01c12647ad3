use Rattle.std.proofs.Common.{◌++◌}
use Rattle.std.specs.Prelude.{codes}
use Rattle.std.specs.List.{flat_map}
use Rattle.tta_list.proofs.Lists.{then_more}
use Rattle.tta_list.proofs.Results.{onward}
use Rattle.tta_wiring.specs.Queues.{numbered}
use Rattle.tta_wiring.specs.Signals.{core_joints}
use Rattle.tta_wiring.specs.Top.{joint_text, core_text}
use Rattle.tta_wiring.proofs.joining.push_core.Goals as goal

pub returns : goal.returns
unfolding core_text
returns c =
    let core = c.args.core in
    let kind = numbered (codes "tta_core_") core in
    let name = numbered (codes " core_") core in
    let joints = flat_map joint_text (core_joints core) in
    let r3 = joints ++ codes ");\n" in
    let r2 = codes " (.clk(clk), .pc()" ++ r3 in
    onward c.push_text-2.result (λ last.
    then_more _ _ _ kind (name ++ r2) c.in_ok-push_numbered.ensures
    (then_more _ _ _ name r2 c.in_ok-push_numbered-2.ensures
    (then_more _ _ _ (codes " (.clk(clk), .pc()") r3 c.in_ok-push_text.ensures
    (then_more _ _ _ joints (codes ");\n") c.in_ok-push_core_joints.ensures last)))) c.push_text-2.ensures
