use Rattle.std.proofs.Common.{[], ◌++◌}
use Rattle.std.specs.Prelude.{codes}
use Rattle.tta_list.proofs.Lists.{then_more}
use Rattle.tta_list.proofs.Results.{onward}
use Rattle.tta_wiring.specs.Queues.{numbered}
use Rattle.tta_wiring.specs.Signals.{ResetOf, Reset}
use Rattle.tta_wiring.specs.Top.{bound, joint_text}
use Rattle.tta_wiring.proofs.Pieces.{alone}
use Rattle.tta_wiring.proofs.joining.push_queue_joints.Goals as goal

pub returns : goal.returns
returns c =
    let core = c.args.core in
    let p6 = bound (codes "out_ready") (numbered (codes "takes_") core) in
    let r6 = p6 ++ [] in
    let p5 = bound (codes "out_data") (numbered (codes "first_") core) in
    let r5 = p5 ++ r6 in
    let p4 = bound (codes "out_valid") (numbered (codes "has_word_") core) in
    let r4 = p4 ++ r5 in
    let p3 = bound (codes "in_ready") (numbered (codes "room_") core) in
    let r3 = p3 ++ r4 in
    let p2 = bound (codes "in_data") (numbered (codes "comes_") core) in
    let r2 = p2 ++ r3 in
    let p1 = bound (codes "in_valid") (numbered (codes "fed_") core) in
    let r1 = p1 ++ r2 in
    onward c.push_joint-6.result (λ last.
    then_more _ _ _ (joint_text (ResetOf, Reset)) r1 c.in_ok-push_reset.ensures
    (then_more _ _ _ p1 r2 c.in_ok-push_joint.ensures
    (then_more _ _ _ p2 r3 c.in_ok-push_joint-2.ensures
    (then_more _ _ _ p3 r4 c.in_ok-push_joint-3.ensures
    (then_more _ _ _ p4 r5 c.in_ok-push_joint-4.ensures
    (then_more _ _ _ p5 r6 c.in_ok-push_joint-5.ensures
    (alone _ _ p6 last))))))) c.push_joint-6.ensures
