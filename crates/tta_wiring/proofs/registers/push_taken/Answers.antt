use Rattle.std.proofs.Common.{[], ◌++◌}
use Rattle.tta_list.proofs.Lists.{then_more}
use Rattle.tta_list.proofs.Results.{onward}
use Rattle.tta_queue.specs.Queue.{Head, Tail, Gives, Takes, counter, front}
use Rattle.tta_verilog.specs.Circuits.{next_text}
use Rattle.tta_wiring.specs.Queues.{pin_names}
use Rattle.tta_wiring.proofs.Pieces.{alone}
use Rattle.tta_wiring.proofs.registers.push_taken.Goals as goal

pub returns : goal.returns
returns c =
    let head = next_text pin_names (counter c.args.k Head Gives) in
    let tail = next_text pin_names (counter c.args.k Tail Takes) in
    let first = next_text pin_names (front c.args.k 32) in
    onward c.push_front.result (λ last.
    then_more _ _ _ head (tail ++ (first ++ [])) c.in_ok-push_head.ensures
    (then_more _ _ _ tail (first ++ []) c.in_ok-push_tail.ensures (alone _ _ first last))) c.push_front.ensures
