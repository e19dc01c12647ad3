use Rattle.std.proofs.Common.{◌++◌}
use Rattle.std.specs.Prelude.{codes}
use Rattle.tta_list.proofs.Lists.{then_more}
use Rattle.tta_list.proofs.Results.{onward}
use Rattle.tta_wiring.specs.Queues.{numbered}
use Rattle.tta_wiring.specs.Top.{input_ports}
use Rattle.tta_wiring.proofs.top.push_input_ports.Goals as goal

pub returns : goal.returns
unfolding input_ports
returns c =
    let core = c.args.core in
    let valid = numbered (codes "input [0:0] in_valid_") core in
    let word = numbered (codes ";\ninput [31:0] in_data_") core in
    let ready = numbered (codes ";\noutput [0:0] in_ready_") core in
    let end = codes ";\n" in
    onward c.push_text.result (λ last.
    then_more _ _ _ valid (word ++ (ready ++ end)) c.in_ok-push_numbered.ensures
    (then_more _ _ _ word (ready ++ end) c.in_ok-push_numbered-2.ensures
    (then_more _ _ _ ready end c.in_ok-push_numbered-3.ensures last))) c.push_text.ensures
