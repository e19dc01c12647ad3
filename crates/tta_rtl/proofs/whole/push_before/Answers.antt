use Rattle.std.proofs.Common.{◌++◌}
use Rattle.std.specs.Prelude.{codes}
use Rattle.tta_list.proofs.Lists.{then_more}
use Rattle.tta_list.proofs.Results.{onward}
use Rattle.tta_rtl.specs.Module.{head_text, common_ports, out_ports, in_ports}
use Rattle.tta_rtl.proofs.whole.push_before.Goals as goal

pub returns : goal.returns
returns c =
    let last_line = codes "integer k;\n" in
    let r3 = in_ports c.args.takes ++ last_line in
    let r2 = out_ports c.args.gives ++ r3 in
    let r1 = common_ports c.args.on.now.m.now ++ r2 in
    onward c.push_text.result (λ last.
    then_more _ _ _ (head_text c.args.name.now c.args.gives c.args.takes) r1 c.in_ok-push_head.ensures
    (then_more _ _ _ (common_ports c.args.on.now.m.now) r2 c.in_ok-push_common_ports.ensures
    (then_more _ _ _ (out_ports c.args.gives) r3 c.in_ok-push_out_ports.ensures
    (then_more _ _ _ (in_ports c.args.takes) last_line c.in_ok-push_in_ports.ensures last)))) c.push_text.ensures
