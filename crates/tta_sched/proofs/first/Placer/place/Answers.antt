use Rattle.std.proofs.Common.{◌∙◌, length, map, ap, sym, subst, arith}
use Rattle.std.specs.Prelude.{◌&&◌, nat_le}
use Rattle.std.specs.List.{list_all}
use Rattle.std.proofs.lemmas.List.{take_all}
use Rattle.std.proofs.lemmas.Bool.{and_parts}
use Rattle.tta_sched.specs.Cited.{PlacedItem, has_slot, control_is_last, FitsFirst, end_of}
use Rattle.tta_moves.proofs.FirstFitLaws.{first_fit_respects}
use Rattle.tta_sched.proofs.Ones.{Each, each_push, order_step}
use Rattle.tta_sched.proofs.Firsts.{first_fit_has_room}
use Rattle.tta_sched.proofs.Fitting.{nothing_kept, no_entry, none_before, end_grows}
use Rattle.tta_sched.proofs.first.Placer.place.Goals as goal

pub loop-x-init : goal.loop-x-init
loop-x-init c = record {
  keeps = nothing_kept c.args.on.now.machine.now _ _ c.of-placed.result (c.of-placed.ensures ∙ c.in_ok-room.ensures.items) c.clear.ensures (c.clear-2.ensures.none c.args.on.now.machine.now);
  order = ap (map (λ (y : PlacedItem). y.item)) (c.of-placed.ensures ∙ c.in_ok-room.ensures.items);
  first = λ k y e. absurd (no_entry c.of-placed.result k y (c.of-placed.ensures ∙ c.in_ok-room.ensures.items) e);
  soon = let e = ap (end_of c.args.on.now.machine.now) (c.of-placed.ensures ∙ c.in_ok-room.ensures.items) in omega arith;
}

pub place_item-requires-clause-controls : goal.place_item-requires-clause-controls
place_item-requires-clause-controls c =
    let last = (and_parts (nat_le (length c.args.b.now.items) 16777216 && list_all (has_slot c.args.on.now.machine.now) c.args.b.now.items) (control_is_last c.args.b.now.items) c.requires.list).1 in
    let size = ap length c.as_slice-x-items.ensures in
    none_before c.args.b.now.items c.loop-x.x-index c.loop-x.placed last (omega arith) c.loop-x.invariant.order

pub loop-x-preserved : goal.loop-x-preserved
loop-x-preserved c =
    let adds = c.in_ok-place_item.ensures.adds in
    record {
      keeps = c.in_ok-place_item.ensures.keeps;
      order = order_step c.loop-x.placed _ adds.last c.args.b.now.items c.as_slice-x-items.result.now c.loop-x.x-index _ adds.longer c.as_slice-x-items.ensures adds.item (omega arith) c.loop-x.invariant.order;
      first = subst (Each (FitsFirst c.args.on.now.machine.now)) (sym adds.longer) (each_push (FitsFirst c.args.on.now.machine.now) c.loop-x.placed adds.last c.loop-x.invariant.first adds.first);
      soon = end_grows c.args.on.now.machine.now c.rules.ensures c.loop-x.placed _ _ c.loop-x.x-index adds c.loop-x.invariant.soon;
    }

pub returns-clause-first : goal.returns-clause-first
returns-clause-first c = record {
  order = c.loop-x.invariant.order ∙ take_all c.loop-x.x-index c.args.b.now.items (omega (arith, ap length c.as_slice-x-items.ensures));
  first = c.loop-x.invariant.first;
  long = c.length-length.ensures c.args.on.now.machine.now c.loop-x.placed c.loop-x.invariant.keeps.bounds;
}

pub returns-clause-respects : goal.returns-clause-respects
returns-clause-respects c = first_fit_respects c.args.on.now.machine.now c.args.b.now.items _ (returns-clause-first c)

pub returns-clause-room : goal.returns-clause-room
returns-clause-room c = first_fit_has_room c.args.on.now.machine.now c.rules.ensures c.args.b.now.items _ c.requires.list (returns-clause-first c)
