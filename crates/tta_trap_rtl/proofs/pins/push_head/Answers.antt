use Rattle.std.proofs.Common.{[], ◌++◌}
use Rattle.std.specs.Prelude.{codes}
use Rattle.std.specs.Bool.{if◌then◌else◌}
use Rattle.tta_list.proofs.Lists.{then_more}
use Rattle.tta_list.proofs.Results.{onward}
use Rattle.tta_trap_rtl.proofs.pins.push_head.Goals as goal

pub returns : goal.returns
returns c =
    let gives = if c.args.gives then codes ", out_valid, out_data, out_ready" else [] in
    let takes = if c.args.takes then codes ", in_valid, in_data, in_ready" else [] in
    let first = codes "module tta_core (clk, reset, halted, cycle, pc, fault" in
    onward c.push_text-2.result (λ last.
    then_more _ _ _ first (gives ++ (takes ++ codes ");\n")) c.in_ok-push_text.ensures
    (then_more _ _ _ gives (takes ++ codes ");\n") c.in_ok-push_if.ensures
    (then_more _ _ _ takes (codes ");\n") c.in_ok-push_if-2.ensures last))) c.push_text-2.ensures
