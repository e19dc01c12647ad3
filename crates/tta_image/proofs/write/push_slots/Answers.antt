use Rattle.std.proofs.Common.{◌≡◌, ℕ, ◌-◌, ◌<◌, ◌∙◌, ◌++◌, List, length, get_or, refl, sym, ap, arith}
use Rattle.tta_image.specs.Cited.{BusFields}
use Rattle.std.specs.List.{sum_by, range_with_len}
use Rattle.tta_image.specs.Bits.{bits_of, slots_bits}
use Rattle.tta_arch.proofs.Layouts.{set_width_at, set_width, layout_bus_read, layout_buses}
use Rattle.tta_image.proofs.Orders.{in_order_at}
use Rattle.tta_image.proofs.LayoutLemmas.{slots_more, left_more, left_enough}
use Rattle.tta_image.proofs.write.push_slots.Goals as goal

pub loop-bus-init : goal.loop-bus-init
loop-bus-init c =
    let m = c.args.m.now in
    let same = c.width_of_set-left.ensures ∙ set_width m c.args.codes.now.layout.now c.args.taken c.requires.layout in
    let many : length m.buses ≡ length c.args.moves.now - 0 = omega arith in
    record {
      bits = ap (λ (n : ℕ). c.args.sink.now ++ slots_bits m c.args.taken (bits_of n c.args.value) 0 c.args.moves.now) same;
      left = same ∙ ap (λ (n : ℕ). sum_by (set_width_at m c.args.taken) (range_with_len 0 n)) many;
    }

pub bounds-as_slice-bus : goal.bounds-as_slice-bus
bounds-as_slice-bus c =
    let same = ap length c.as_slice.ensures in
    let many = layout_buses c.args.m.now c.args.codes.now.layout.now c.requires.layout in
    omega arith

pub offset_bounds-as_slice-bus : goal.offset_bounds-as_slice-bus
offset_bounds-as_slice-bus c =
    let same = ap length c.as_slice.ensures in
    let many = layout_buses c.args.m.now c.args.codes.now.layout.now c.requires.layout in
    let within : c.loop-bus.bus < length c.as_slice.result.now = omega arith in
    omega (arith, c.as_slice.type_inv.1)

pub push_bus-requires-clause-taken : goal.push_bus-requires-clause-taken
push_bus-requires-clause-taken c =
    let m = c.args.m.now in
    let is = layout_bus_read m c.args.codes.now.layout.now c.as_slice.result.now c.loop-bus.bus c.index-as_slice-bus.result c.requires.layout c.as_slice.ensures (omega arith) c.index-as_slice-bus.is in
    λ h. left_enough m c.args.taken c.loop-bus.bus (length c.args.moves.now) c.loop-bus.left c.index-as_slice-bus.result c.loop-bus-test.true is c.loop-bus.invariant.left
    (sym c.has_bus.ensures ∙ h)

pub push_bus-requires-clause-order : goal.push_bus-requires-clause-order
push_bus-requires-clause-order c =
    let many = layout_buses c.args.m.now c.args.codes.now.layout.now c.requires.layout in
    in_order_at c.args.codes.now.layout.now.buses c.loop-bus.bus c.index-as_slice-bus.result c.requires.order (omega arith)
    (c.index-as_slice-bus.is ∙ ap (λ (fs : List BusFields). get_or fs c.loop-bus.bus c.index-as_slice-bus.result) c.as_slice.ensures)

pub loop-bus-preserved : goal.loop-bus-preserved
loop-bus-preserved c =
    let m = c.args.m.now in let f = c.index-as_slice-bus.result in let bus = c.loop-bus.bus in
    let is = layout_bus_read m c.args.codes.now.layout.now c.as_slice.result.now bus f c.requires.layout c.as_slice.ensures (omega arith) c.index-as_slice-bus.is in
    record {
      bits = slots_more m c.args.taken c.args.value c.loop-bus.left c.in_ok-left.left bus c.args.moves.now _ f c.has_bus.result _ _ _ c.loop-bus-test.true refl is c.has_bus.ensures
          c.in_ok-left.ensures.bits c.in_ok-left.ensures.left c.loop-bus.invariant.left c.loop-bus.invariant.bits;
      left = left_more m c.args.taken bus (length c.args.moves.now) c.loop-bus.left c.in_ok-left.left f c.has_bus.result c.loop-bus-test.true is c.has_bus.ensures c.loop-bus.invariant.left c.in_ok-left.ensures.left;
    }

pub bounds-as_slice-bus-in-loop-bus : goal.bounds-as_slice-bus-in-loop-bus
bounds-as_slice-bus-in-loop-bus c =
    let same = ap length c.as_slice-in-loop-bus.ensures in
    let many = layout_buses c.args.m.now c.args.codes.now.layout.now c.requires.layout in
    omega arith

pub offset_bounds-as_slice-bus-in-loop-bus : goal.offset_bounds-as_slice-bus-in-loop-bus
offset_bounds-as_slice-bus-in-loop-bus c =
    let same = ap length c.as_slice-in-loop-bus.ensures in
    let many = layout_buses c.args.m.now c.args.codes.now.layout.now c.requires.layout in
    let within : c.loop-bus.bus < length c.as_slice-in-loop-bus.result.now = omega arith in
    omega (arith, c.as_slice-in-loop-bus.type_inv.1)
