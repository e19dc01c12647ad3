use Rattle.std.proofs.Common.{[], ◌++◌}
use Rattle.std.specs.Prelude.{codes}
use Rattle.tta_list.proofs.Lists.{then_more}
use Rattle.tta_list.proofs.Results.{onward}
use Rattle.std.specs.Bool.{if◌then◌else◌}
use Rattle.tta_rtl.proofs.pins.push_head.Goals as goal

pub returns : goal.returns
returns c =
    let gives = if c.args.gives then codes ", out_valid, out_data, out_ready" else [] in
    let takes = if c.args.takes then codes ", in_valid, in_data, in_ready" else [] in
    let common = codes " (clk, reset, halted, cycle, pc" in
    let r2 = gives ++ (takes ++ codes ");\n") in
    let r1 = common ++ r2 in
    onward c.push_text-4.result (λ last.
    then_more _ _ _ (codes "module ") (c.args.name.now ++ r1) c.in_ok-push_text.ensures
    (then_more _ _ _ c.args.name.now r1 c.in_ok-push_text-2.ensures
    (then_more _ _ _ common r2 c.in_ok-push_text-3.ensures
    (then_more _ _ _ gives (takes ++ codes ");\n") c.in_ok-push_if.ensures
    (then_more _ _ _ takes (codes ");\n") c.in_ok-push_if-2.ensures last))))) c.push_text-4.ensures
