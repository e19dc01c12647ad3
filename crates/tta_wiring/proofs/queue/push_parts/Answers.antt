use Rattle.std.proofs.Common.{◌++◌, true, false}
use Rattle.std.specs.List.{flat_map}
use Rattle.tta_list.proofs.Lists.{then_more}
use Rattle.tta_list.proofs.Results.{onward}
use Rattle.tta_queue.specs.Queue.{queue_of}
use Rattle.tta_verilog.specs.Circuits.{register_text, memory_text, wire_text, store_text}
use Rattle.tta_wiring.specs.Queues.{pin_names}
use Rattle.tta_wiring.proofs.queue.push_parts.Goals as goal

pub returns : goal.returns
returns c =
    let k = c.args.k in
    let declared = flat_map (register_text pin_names true) (queue_of k 32).registers in
    let memories = flat_map (memory_text pin_names) (queue_of k 32).memories in
    let wires = flat_map (wire_text pin_names) (queue_of k 32).wires in
    let next = flat_map (register_text pin_names false) (queue_of k 32).registers in
    let stores = flat_map (store_text pin_names) (queue_of k 32).memories in
    let r3 = next ++ stores in
    let r2 = wires ++ r3 in
    let r1 = memories ++ r2 in
    onward c.push_stores.result (λ last.
    then_more _ _ _ declared r1 c.in_ok-push_declared.ensures
    (then_more _ _ _ memories r2 c.in_ok-push_memories.ensures
    (then_more _ _ _ wires r3 c.in_ok-push_wires.ensures
    (then_more _ _ _ next stores c.in_ok-push_taken.ensures last)))) c.push_stores.ensures
