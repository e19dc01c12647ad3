use Rattle.std.proofs.Common.{◌++◌}
use Rattle.std.specs.Prelude.{codes}
use Rattle.tta_list.proofs.Lists.{then_more}
use Rattle.tta_list.proofs.Results.{onward}
use Rattle.tta_wiring.specs.Queues.{numbered}
use Rattle.tta_wiring.specs.Top.{input_shown}
use Rattle.tta_wiring.proofs.top.push_input_shown.Goals as goal

pub returns : goal.returns
unfolding input_shown
returns c =
    let core = c.args.core in
    let ready = numbered (codes "assign in_ready_") core in
    let room = numbered (codes " = room_") core in
    onward c.push_text.result (λ last.
    then_more _ _ _ ready (room ++ codes ";\n") c.in_ok-push_numbered.ensures
    (then_more _ _ _ room (codes ";\n") c.in_ok-push_numbered-2.ensures last)) c.push_text.ensures
