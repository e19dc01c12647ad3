use Rattle.std.proofs.Common.{[], ◌++◌, if◌then◌else◌}
use Rattle.std.specs.Prelude.{codes}
use Rattle.tta_list.proofs.Lists.{then_more}
use Rattle.tta_list.proofs.Results.{onward}
use Rattle.tta_header.specs.Header.{ports_line}
use Rattle.tta_header.proofs.lines.push_ports.Goals as goal

pub returns : goal.returns
unfolding ports_line
returns c =
    let faults = if c.args.faults then codes ", fault" else [] in
    let gives = if c.args.gives then codes ", out_valid, out_data, out_ready" else [] in
    let takes = if c.args.takes then codes ", in_valid, in_data, in_ready" else [] in
    let end = codes "\n" in
    onward c.push_text-2.result (λ last.
    then_more _ _ _ (codes "// ports: clk, reset, halted, cycle, pc") (faults ++ (gives ++ (takes ++ end))) c.in_ok-push_text.ensures
    (then_more _ _ _ faults (gives ++ (takes ++ end)) c.in_ok-push_if.ensures
    (then_more _ _ _ gives (takes ++ end) c.in_ok-push_if-2.ensures
    (then_more _ _ _ takes end c.in_ok-push_if-3.ensures last)))) c.push_text-2.ensures
