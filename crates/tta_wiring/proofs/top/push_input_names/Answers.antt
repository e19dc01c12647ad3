use Rattle.std.proofs.Common.{◌++◌}
use Rattle.std.specs.Prelude.{codes}
use Rattle.tta_list.proofs.Lists.{then_more}
use Rattle.tta_list.proofs.Results.{onward}
use Rattle.tta_wiring.specs.Queues.{numbered}
use Rattle.tta_wiring.specs.Top.{input_names}
use Rattle.tta_wiring.proofs.top.push_input_names.Goals as goal

pub returns : goal.returns
unfolding input_names
returns c =
    let core = c.args.core in
    let valid = numbered (codes ", in_valid_") core in
    let word = numbered (codes ", in_data_") core in
    let ready = numbered (codes ", in_ready_") core in
    onward c.push_numbered-3.result (λ last.
    then_more _ _ _ valid (word ++ ready) c.in_ok-push_numbered.ensures
    (then_more _ _ _ word ready c.in_ok-push_numbered-2.ensures last)) c.push_numbered-3.ensures
