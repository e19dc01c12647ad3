use Rattle.std.proofs.Common.{◌++◌}
use Rattle.std.specs.Prelude.{codes}
use Rattle.tta_list.proofs.Lists.{then_more}
use Rattle.tta_list.proofs.Results.{onward}
use Rattle.tta_trap_rtl.specs.Cited.{common_ports, in_ports, out_ports}
use Rattle.tta_trap_rtl.specs.Module.{head_text}
use Rattle.tta_trap_rtl.proofs.pins.push_before.Goals as goal

pub returns : goal.returns
returns c =
    let fault = codes "output [6:0] fault;\n" in
    let last_line = codes "integer k;\n" in
    let r4 = in_ports c.args.takes ++ last_line in
    let r3 = out_ports c.args.gives ++ r4 in
    let r2 = fault ++ r3 in
    let r1 = common_ports c.args.on.now.m.now ++ r2 in
    onward c.push_text-2.result (λ last.
    then_more _ _ _ (head_text c.args.gives c.args.takes) r1 c.in_ok-push_head.ensures
    (then_more _ _ _ (common_ports c.args.on.now.m.now) r2 c.in_ok-push_common_ports.ensures
    (then_more _ _ _ fault r3 c.in_ok-push_text.ensures
    (then_more _ _ _ (out_ports c.args.gives) r4 c.in_ok-push_out_ports.ensures
    (then_more _ _ _ (in_ports c.args.takes) last_line c.in_ok-push_in_ports.ensures last))))) c.push_text-2.ensures
