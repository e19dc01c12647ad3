use Rattle.std.proofs.Common.{◌++◌}
use Rattle.std.specs.Prelude.{codes}
use Rattle.tta_list.proofs.Lists.{then_more}
use Rattle.tta_list.proofs.Results.{onward}
use Rattle.tta_wiring.specs.Queues.{numbered}
use Rattle.tta_wiring.specs.Top.{driven_text}
use Rattle.tta_wiring.proofs.top.push_driven.Goals as goal

pub returns : goal.returns
unfolding driven_text
returns c =
    let core = c.args.core in
    let p7 = numbered (codes ";\nwire [31:0] first_") core in
    let r7 = p7 ++ codes ";\n" in
    let p6 = numbered (codes ";\nwire [0:0] has_word_") core in
    let r6 = p6 ++ r7 in
    let p5 = numbered (codes ";\nwire [0:0] room_") core in
    let r5 = p5 ++ r6 in
    let p4 = numbered (codes ";\nwire [0:0] asks_") core in
    let r4 = p4 ++ r5 in
    let p3 = numbered (codes ";\nwire [31:0] word_") core in
    let r3 = p3 ++ r4 in
    let p2 = numbered (codes ";\nwire [0:0] valid_") core in
    let r2 = p2 ++ r3 in
    let p1 = numbered (codes "wire [0:0] cycle_") core in
    onward c.push_text.result (λ last.
    then_more _ _ _ p1 r2 c.in_ok-push_numbered.ensures
    (then_more _ _ _ p2 r3 c.in_ok-push_numbered-2.ensures
    (then_more _ _ _ p3 r4 c.in_ok-push_numbered-3.ensures
    (then_more _ _ _ p4 r5 c.in_ok-push_numbered-4.ensures
    (then_more _ _ _ p5 r6 c.in_ok-push_numbered-5.ensures
    (then_more _ _ _ p6 r7 c.in_ok-push_numbered-6.ensures
    (then_more _ _ _ p7 (codes ";\n") c.in_ok-push_numbered-7.ensures last))))))) c.push_text.ensures
