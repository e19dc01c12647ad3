use Rattle.std.proofs.Common.{◌+◌, ◌<◌, ◌≤◌, Bool, List, drop, length, sym, ap, ◌∙◌, arith}
use Rattle.std.proofs.lemmas.List.{drop-drop, drop_all}
use Rattle.std.proofs.lemmas.Result.{err_from_is_err_and}
use Rattle.tta_image.specs.Cited.{BusFields}
use Rattle.tta_image.specs.Decoding.{bits_in, decoded_slots}
use Rattle.tta_image.proofs.Walks.{answers_same, with_front, item_read, width_step, width_here, fields_step, slots_more, slots_stop, slots_end}
use Rattle.tta_image.proofs.words.read_slots.Goals as goal

pub returns-in_err-slot : goal.returns-in_err-slot
returns-in_err-slot c =
    let fs = c.args.layout.now.buses in let bus = c.loop-bus.bus in let f = c.fields-item.result in
    let bits = drop c.loop-bus.at (bits_in c.args.bytes.now) in
    let is = item_read c.as_slice-fields-items.result.now fs bus f c.as_slice-fields-items.ensures c.fields-item.is in
    let inside : bus < length fs = let e = ap length c.as_slice-fields-items.ensures in omega arith in
    let error = err_from_is_err_and c.from_residual.result c.from_residual.ensures.1 in
    rw (error.1, error.2) (answers_same _ _ (slots_stop c.args.m.now c.args.word.number c.args.word.taken bus f (drop (bus + 1) fs) bits c.in_err-slot.field-0.0 c.loop-bus.moves _ (sym c.in_err-slot.ensures)
    (ap (λ (l : List BusFields). with_front c.loop-bus.moves (decoded_slots c.args.m.now c.args.word.number c.args.word.taken bus l bits)) (sym (fields_step fs bus f inside is))
    ∙ c.loop-bus.invariant.decoded)))

pub loop-bus-preserved : goal.loop-bus-preserved
loop-bus-preserved c =
    let fs = c.args.layout.now.buses in let bus = c.loop-bus.bus in let f = c.fields-item.result in
    let bits = bits_in c.args.bytes.now in
    let is = item_read c.as_slice-fields-items.result.now fs bus f c.as_slice-fields-items.ensures c.fields-item.is in
    let inside : bus < length fs = let e = ap length c.as_slice-fields-items.ensures in omega arith in
    record {
      room = width_step fs bus f c.loop-bus.at _ inside is c.loop-bus.invariant.room;
      decoded = ap (λ (l : List Bool). with_front c.push.new.self (decoded_slots c.args.m.now c.args.word.number c.args.word.taken (bus + 1) (drop (bus + 1) fs) l)) (sym (drop-drop f.width c.loop-bus.at bits))
          ∙ slots_more c.args.m.now c.args.word.number c.args.word.taken bus f (drop (bus + 1) fs) (drop c.loop-bus.at bits) c.in_ok-slot.slot c.loop-bus.moves c.push.new.self _
          (sym c.in_ok-slot.ensures) c.in_ok-push.ensures.ok
          (ap (λ (l : List BusFields). with_front c.loop-bus.moves (decoded_slots c.args.m.now c.args.word.number c.args.word.taken bus l (drop c.loop-bus.at bits))) (sym (fields_step fs bus f inside is))
          ∙ c.loop-bus.invariant.decoded);
    }

pub returns : goal.returns
returns c =
    let fs = c.args.layout.now.buses in
    let past : length fs ≤ c.loop-bus.bus = let e = ap length c.as_slice-fields-items.ensures in omega arith in
    answers_same _ _ (slots_end c.args.m.now c.args.word.number c.args.word.taken c.loop-bus.bus (drop c.loop-bus.bus fs) (drop c.loop-bus.at (bits_in c.args.bytes.now)) c.loop-bus.moves _
    (drop_all c.loop-bus.bus fs past) c.loop-bus.invariant.decoded)

pub read_bus-requires-clause-room : goal.read_bus-requires-clause-room
read_bus-requires-clause-room c =
    let fs = c.args.layout.now.buses in let bus = c.loop-bus.bus in let f = c.fields-item.result in
    let is = item_read c.as_slice-fields-items.result.now fs bus f c.as_slice-fields-items.ensures c.fields-item.is in
    let inside : bus < length fs = let e = ap length c.as_slice-fields-items.ensures in omega arith in
    width_here fs bus f c.loop-bus.at _ inside is c.loop-bus.invariant.room
