use Rattle.std.proofs.Common.{[], ◌++◌}
use Rattle.std.specs.Prelude.{codes}
use Rattle.tta_list.proofs.Lists.{then_more}
use Rattle.tta_list.proofs.Results.{onward}
use Rattle.tta_wiring.specs.Queues.{numbered}
use Rattle.tta_wiring.specs.Signals.{ResetOf, Reset}
use Rattle.tta_wiring.specs.Top.{bound, joint_text}
use Rattle.tta_wiring.proofs.Pieces.{alone}
use Rattle.tta_wiring.proofs.joining.push_core_joints.Goals as goal

pub returns : goal.returns
returns c =
    let core = c.args.core in
    let p8 = bound (codes "in_ready") (numbered (codes "asks_") core) in
    let r8 = p8 ++ [] in
    let p7 = bound (codes "in_data") (numbered (codes "first_") core) in
    let r7 = p7 ++ r8 in
    let p6 = bound (codes "in_valid") (numbered (codes "has_word_") core) in
    let r6 = p6 ++ r7 in
    let p5 = bound (codes "out_ready") (numbered (codes "ready_") core) in
    let r5 = p5 ++ r6 in
    let p4 = bound (codes "out_data") (numbered (codes "word_") core) in
    let r4 = p4 ++ r5 in
    let p3 = bound (codes "out_valid") (numbered (codes "valid_") core) in
    let r3 = p3 ++ r4 in
    let p2 = bound (codes "cycle") (numbered (codes "cycle_") core) in
    let r2 = p2 ++ r3 in
    let p1 = bound (codes "halted") (numbered (codes "halted_") core) in
    let r1 = p1 ++ r2 in
    onward c.push_joint-8.result (λ last.
    then_more _ _ _ (joint_text (ResetOf, Reset)) r1 c.in_ok-push_reset.ensures
    (then_more _ _ _ p1 r2 c.in_ok-push_joint.ensures
    (then_more _ _ _ p2 r3 c.in_ok-push_joint-2.ensures
    (then_more _ _ _ p3 r4 c.in_ok-push_joint-3.ensures
    (then_more _ _ _ p4 r5 c.in_ok-push_joint-4.ensures
    (then_more _ _ _ p5 r6 c.in_ok-push_joint-5.ensures
    (then_more _ _ _ p6 r7 c.in_ok-push_joint-6.ensures
    (then_more _ _ _ p7 r8 c.in_ok-push_joint-7.ensures
    (alone _ _ p8 last))))))))) c.push_joint-8.ensures
