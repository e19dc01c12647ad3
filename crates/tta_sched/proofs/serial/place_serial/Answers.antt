use Rattle.std.proofs.Common.{length, arith, ap, ◌∙◌, refl}
use Rattle.std.specs.Prelude.{◌&&◌, nat_le}
use Rattle.std.specs.List.{list_all}
use Rattle.std.proofs.lemmas.List.{take_all}
use Rattle.std.proofs.lemmas.Bool.{and_parts}
use Rattle.tta_sched.specs.Cited.{has_slot, control_is_last}
use Rattle.tta_sched.specs.Serial.{StandsAlone, serial_length}
use Rattle.tta_sched.proofs.Ones.{each_push, order_step, end_step, serial_long, serial_respects}
use Rattle.tta_sched.proofs.Firsts.{serial_has_room}
use Rattle.tta_sched.proofs.serial.place_serial.Goals as goal

pub loop-x-preserved : goal.loop-x-preserved
loop-x-preserved c = record {
  order = order_step c.loop-x.placed c.push.new.self _ c.args.b.now.items c.as_slice-x-items.result.now c.loop-x.x-index _ c.in_ok-push.ensures.ok c.as_slice-x-items.ensures refl (omega arith) c.loop-x.invariant.order;
  alone = rw c.in_ok-push.ensures.ok (each_push (StandsAlone c.args.m.now) c.loop-x.placed _ c.loop-x.invariant.alone (record { cycle = c.loop-x.invariant.end; carried = c.slot_alone-slot.ensures.carried; least = c.slot_alone-slot.ensures.least }));
  end = rw c.in_ok-push.ensures.ok (end_step c.args.m.now c.loop-x.placed _ c.lasts-cycle.result c.loop-x.invariant.end c.lasts-cycle.ensures.value);
  few = omega arith;
}

pub returns-clause-serial : goal.returns-clause-serial
returns-clause-serial c =
    let last = (and_parts (nat_le (length c.args.b.now.items) 16777216 && list_all (has_slot c.args.m.now) c.args.b.now.items) (control_is_last c.args.b.now.items) c.requires.list).1 in
    let order = c.loop-x.invariant.order ∙ take_all c.loop-x.x-index c.args.b.now.items (omega (arith, ap length c.as_slice-x-items.ensures)) in
    record {
      order = order;
      alone = c.loop-x.invariant.alone;
      long = let b = serial_long c.args.m.now c.args.b.now.items c.loop-x.placed order last c.loop-x.invariant.alone in let e = c.loop-x.invariant.end in c.block_length-length.ensures.value ∙ ap (λ l. serial_length c.args.m.now l c.loop-x.cycle) c.as_slice.ensures ∙ ap (λ n. serial_length c.args.m.now c.args.b.now.items n) e ∙ b;
    }

pub returns-clause-respects : goal.returns-clause-respects
returns-clause-respects c = serial_respects c.args.m.now c.block_length-length.ensures.rules c.args.b.now.items _ (returns-clause-serial c)

pub returns-clause-room : goal.returns-clause-room
returns-clause-room c = serial_has_room c.args.m.now c.args.b.now.items _ (returns-clause-serial c)
