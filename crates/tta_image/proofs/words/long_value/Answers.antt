use Rattle.std.proofs.Common.{◌+◌, ◌<◌, ◌≤◌, Bool, List, drop, take, length, sym, ap, ◌∙◌, arith}
use Rattle.std.proofs.lemmas.List.{length-drop, drop-drop, drop_all}
use Rattle.tta_image.specs.Cited.{BusFields}
use Rattle.tta_image.specs.Decoding.{bits_in, number_of, taken_bits}
use Rattle.tta_image.proofs.Unique.{length-bytes}
use Rattle.tta_image.proofs.Walks.{number_with, item_read, width_step, width_here, fields_step, value_after_bus, value_small, value_more, value_stop, value_end}
use Rattle.tta_image.proofs.words.long_value.Goals as goal

pub returns-in_err-value : goal.returns-in_err-value
returns-in_err-value c =
    let fs = c.args.layout.now.buses in let bus = c.loop-bus.bus in let f = c.fields-item.result in
    let bits = bits_in c.args.bytes.now in
    let is = item_read c.as_slice-fields-items.result.now fs bus f c.as_slice-fields-items.ensures c.fields-item.is in
    let inside : bus < length fs = let e = ap length c.as_slice-fields-items.ensures in omega arith in
    let here = width_here fs bus f c.loop-bus.at _ inside is c.loop-bus.invariant.room in
    let many = length-bytes c.args.bytes.now in let d = length-drop c.loop-bus.at bits in
    c.from_residual.ensures
    ∙ value_stop c.args.taken bus f (drop (bus + 1) fs) (drop c.loop-bus.at bits) c.loop-bus.value _ (omega arith)
    (sym c.in_err-value.was ∙ c.value_after.ensures ∙ ap (λ (b : Bool). value_after_bus b f.width c.loop-bus.value (number_of (take f.width (drop c.loop-bus.at bits)))) c.has_bus.ensures)
    (ap (λ (l : List BusFields). number_with c.loop-bus.value (taken_bits c.args.taken bus l (drop c.loop-bus.at bits))) (sym (fields_step fs bus f inside is)) ∙ c.loop-bus.invariant.decoded)

pub loop-bus-preserved : goal.loop-bus-preserved
loop-bus-preserved c =
    let fs = c.args.layout.now.buses in let bus = c.loop-bus.bus in let f = c.fields-item.result in
    let bits = bits_in c.args.bytes.now in
    let is = item_read c.as_slice-fields-items.result.now fs bus f c.as_slice-fields-items.ensures c.fields-item.is in
    let inside : bus < length fs = let e = ap length c.as_slice-fields-items.ensures in omega arith in
    let here = width_here fs bus f c.loop-bus.at _ inside is c.loop-bus.invariant.room in
    let many = length-bytes c.args.bytes.now in let d = length-drop c.loop-bus.at bits in
    record {
      room = width_step fs bus f c.loop-bus.at _ inside is c.loop-bus.invariant.room;
      small = value_small c.has_bus.result f.width c.loop-bus.value (number_of (take f.width (drop c.loop-bus.at bits))) c.in_ok-value.value c.loop-bus.invariant.small
          (sym c.in_ok-value.was ∙ c.value_after.ensures);
      decoded = ap (λ (l : List Bool). number_with c.in_ok-value.value (taken_bits c.args.taken (bus + 1) (drop (bus + 1) fs) l)) (sym (drop-drop f.width c.loop-bus.at bits))
          ∙ value_more c.args.taken bus f (drop (bus + 1) fs) (drop c.loop-bus.at bits) c.loop-bus.value c.in_ok-value.value _ (omega arith)
          (sym c.in_ok-value.was ∙ c.value_after.ensures ∙ ap (λ (b : Bool). value_after_bus b f.width c.loop-bus.value (number_of (take f.width (drop c.loop-bus.at bits)))) c.has_bus.ensures)
          (ap (λ (l : List BusFields). number_with c.loop-bus.value (taken_bits c.args.taken bus l (drop c.loop-bus.at bits))) (sym (fields_step fs bus f inside is)) ∙ c.loop-bus.invariant.decoded);
    }

pub returns : goal.returns
returns c =
    let fs = c.args.layout.now.buses in
    let past : length fs ≤ c.loop-bus.bus = let e = ap length c.as_slice-fields-items.ensures in omega arith in
    value_end c.args.taken c.loop-bus.bus (drop c.loop-bus.bus fs) (drop c.loop-bus.at (bits_in c.args.bytes.now)) c.loop-bus.value _ (drop_all c.loop-bus.bus fs past) c.loop-bus.invariant.small
    c.loop-bus.invariant.decoded
