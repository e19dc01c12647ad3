use Rattle.std.proofs.Common.{◌+◌, ◌<◌, ℕ, length, map, refl, sym, ap, ◌∙◌, subst, arith, append_assoc}
use Rattle.std.specs.Prelude.{◌&&◌, None, is_some, is_none, option_map, fold, slice_index_or}
use Rattle.std.specs.List.{find, list_any, filter_map, AllByRecursion}
use Rattle.tta_sim.specs.Cited.{stated, write_of, first_some, store_data, store_frame, takes}
use Rattle.tta_sim.specs.Places.{HasWritten}
use Rattle.tta_sim.specs.Results.{results_at, shown_by}
use Rattle.tta_sim.specs.Moves.{brought_of}
use Rattle.tta_sim.specs.Starts.{puts}
use Rattle.tta_sim.specs.Writing.{long_writes}
use Rattle.tta_sim.specs.Lines.{control_brought, IsLineThere}
use Rattle.tta_sim.specs.Dues.{shown_from, started_at}
use Rattle.tta_sim.specs.Ready.{begun_in, AreLeft, Begin}
use Rattle.tta_sim.specs.Unset.{IsFaultOf}
use Rattle.tta_sim.specs.Kept.{kept_as}
use Rattle.tta_sim.proofs.Facing.{placed, acting_same}
use Rattle.tta_sim.proofs.Cycles.{faulted}
use Rattle.tta_sim.proofs.Leaving.{arrivals, starts, is_left, left_can, left_few, written_within}
use Rattle.tta_sim.proofs.Shown.{dues_begun}
use Rattle.tta_sim.proofs.Growing.{words_same}
use Rattle.tta_sim.proofs.Owning.{others_same}
use Rattle.tta_sim.proofs.Acting.{carried_wait, carried_at}
use Rattle.tta_sim.proofs.Writes.{length-stored, length-stored_frame}
use Rattle.tta_sim.proofs.carry.carry_any.Goals as goal

-- ---- what the calls need

pub find_fault-requires : goal.find_fault-requires
find_fault-requires g c = subst (λ r. IsLineThere r.units c.args.line.now) (sym c.of-results.ensures) c.requires.there

pub acting_in-acting-requires : goal.acting_in-acting-requires
acting_in-acting-requires g c = subst (λ r. IsLineThere r.units c.args.line.now) (sym c.of-results.ensures) c.requires.there

pub note_results-requires : goal.note_results-requires
note_results-requires g c =
    let r = results_at c.args.context.now.part c.args.region.now in
    let has = subst (λ r. AreLeft c.args.run.now.store r c.args.line.now c.find_fault.new.buffers) c.of-results.ensures (c.find_fault.ensures.left c.in_default.is) in
    left_few c.args.context.now.part.count c.args.run.now.store r c.args.line.now _ _ c.requires.there has c.as_slice-starts.ensures

pub begin_all-requires-clause-can : goal.begin_all-requires-clause-can
begin_all-requires-clause-can g c =
    let U = stated (λ v. (goal.OpUnit-dyn g v).unit_meaning v.1) c.args.context.now.units.now in
    let store = c.args.run.now.store in
    let r = results_at c.args.context.now.part c.args.region.now in
    let has = subst (λ r. AreLeft store r c.args.line.now c.find_fault.new.buffers) c.of-results.ensures (c.find_fault.ensures.left c.in_default.is) in
    let dues_are = c.as_slice.ensures ∙ c.note_results.ensures ∙ ap (filter_map (shown_from U c.unwrap_or-word.result store)) c.as_slice-starts.ensures in
    left_can U c.unwrap_or-word.result store r c.args.line.now _ _ c.requires.fitting has dues_are

pub finish_cycle-requires-clause-writes : goal.finish_cycle-requires-clause-writes
finish_cycle-requires-clause-writes g c =
    subst (AllByRecursion (λ w. w.place < 609)) (sym (c.as_slice-2.ensures ∙ (c.find_fault.ensures.left c.in_default.is).writes))
    (written_within _ c.args.run.now.store c.of-results.result c.args.line.now c.requires.there)

pub finish_cycle-requires-clause-few : goal.finish_cycle-requires-clause-few
finish_cycle-requires-clause-few g c = omega (arith, c.requires.few, c.put_all-put.ensures.cycle)

pub advance-requires-clause-within : goal.advance-requires-clause-within
advance-requires-clause-within g c = omega (arith, c.requires.within)

pub advance-requires-clause-few : goal.advance-requires-clause-few
advance-requires-clause-few g c = omega (arith, c.requires.few, c.finish_cycle.ensures.cycle, c.put_all-put.ensures.cycle)

-- ---- a cycle that faults

pub returns-in-Some : goal.returns-in-Some
returns-in-Some g c =
    let U = stated (λ v. (goal.OpUnit-dyn g v).unit_meaning v.1) c.args.context.now.units.now in
    faulted U c.args.context.now.part c.args.context.now.delay c.args.line.now c.args.next (kept_as c.args.run.now.store c.args.run.now.control c.args.region.now) _ _ _
    c.stop.new.control c.stop.result c.of-results.ensures c.find_fault.ensures.fault c.in-Some.is c.stop.ensures.stopped c.stop.ensures.answer

-- ---- a cycle that waits

pub returns-then-is_stuck : goal.returns-then-is_stuck
returns-then-is_stuck g c = record {
  carried = λ m i lines s decoded size delay same fed.
      let U = stated (λ v. (goal.OpUnit-dyn g v).unit_meaning v.1) c.args.context.now.units.now in
      let store = c.args.run.now.store in
      let r = results_at c.args.context.now.part c.args.region.now in
      let p = is_some c.args.run.now.control.pending in
      let back = c.args.run.now.control.pc + 1 + c.args.context.now.delay in
      let fault = subst (λ r. IsFaultOf store.places r p c.args.line.now c.find_fault.result) c.of-results.ensures c.find_fault.ensures.fault in
      let none = sym (fault m back i decoded size) ∙ c.in_default.is in
      let has = subst (λ r. AreLeft store r c.args.line.now c.find_fault.new.buffers) c.of-results.ensures (c.find_fault.ensures.left c.in_default.is) in
      let left = is_left m i store r back c.args.line.now _ decoded p none has in
      let took_is = c.any_takes-took.ensures ∙ ap (list_any takes) (c.as_slice-starts.ensures ∙ left.starts_are) in
      let must = ap (λ b. b && is_none c.args.next) (sym took_is) ∙ sym c.is_stuck.ensures ∙ c.if-is_stuck.true in
      carried_wait U m decoded.rules i decoded.legal lines store r c.args.run.now.control s size same none c.args.next fed must;
  takes = refl;
  counted = omega arith;
  memory = refl;
  frame = refl;
  waits = λ lines is. refl;
  stays = λ is. refl;
  others = others_same c.args.context.now.part c.args.region.now;
  words = words_same c.args.run.now.store.places (results_at c.args.context.now.part c.args.region.now);
}

-- ---- a cycle that is carried out

pub returns : goal.returns
returns g c = record {
  carried = λ m i lines s decoded size delay same fed.
      let U = stated (λ v. (goal.OpUnit-dyn g v).unit_meaning v.1) c.args.context.now.units.now in
      let store = c.args.run.now.store in
      let line = c.args.line.now in
      let r = results_at c.args.context.now.part c.args.region.now in
      let p = is_some c.args.run.now.control.pending in
      let back = c.args.run.now.control.pc + 1 + c.args.context.now.delay in
      let brought = arrivals m i store r in
      let begins = starts m i store r in
      let fault = subst (λ r. IsFaultOf store.places r p line c.find_fault.result) c.of-results.ensures c.find_fault.ensures.fault in
      let none = sym (fault m back i decoded size) ∙ c.in_default.is in
      let has = subst (λ r. AreLeft store r line c.find_fault.new.buffers) c.of-results.ensures (c.find_fault.ensures.left c.in_default.is) in
      let left = is_left m i store r back line _ decoded p none has in
      let starts_are = c.as_slice-starts.ensures ∙ left.starts_are in
      let took_is = c.any_takes-took.ensures ∙ ap (list_any takes) starts_are in
      let new_is = ap (begun_in U c.unwrap_or-word.result store) starts_are ∙ ap {A = ℕ} (λ n. begun_in U n store begins) c.unwrap_or-word.ensures in
      let dues_are = ap (map (started_at store.cycle)) (c.as_slice.ensures ∙ c.note_results.ensures)
      ∙ dues_begun U store.memory.items store.frame.items c.unwrap_or-word.result store.cycle c.as_slice-starts.result.now ∙ new_is in
      let begun = subst (λ new. Begin new store.cycle r (results_at c.args.context.now.part c.begin_all.new.region)) dues_are (c.begin_all.ensures.begun store.cycle) in
      let words = c.put_all-put.ensures.data ∙ ap (fold store_data store.memory.items) starts_are in
      let others = c.put_all-put.ensures.frame ∙ ap (fold store_frame store.frame.items) starts_are in
      let controls = c.acting_in-acting.ensures ∙ ap (λ r. first_some (control_brought store.places (shown_by r)) line.controls) c.of-results.ensures in
      carried_at U m decoded.rules i decoded.legal lines store r c.args.run.now.control s size same
      none c.requires.running c.finish_cycle.new.store (results_at c.args.context.now.part c.begin_all.new.region) c.advance.new.self brought begins c.put_all-put.result _ c.args.next c.any_takes-took.result fed took_is
      (sym c.is_stuck.ensures ∙ c.if-is_stuck.false) refl refl back _ _ refl delay refl
      (λ ws had.
      subst (HasWritten c.finish_cycle.new.store.places) (append_assoc (filter_map (write_of m back) (map brought_of brought)) (long_writes m i.long) ws)
      (c.finish_cycle.ensures.written _ ws (c.as_slice-2.ensures ∙ left.writes) (placed m decoded.rules i decoded.legal back line decoded.line store.places r p)
      (subst (λ ps. HasWritten ps ws) (sym c.put_all-put.ensures.places) had)))
      begun
      (c.finish_cycle.ensures.cycle ∙ ap (λ n. n + 1) c.put_all-put.ensures.cycle)
      (c.finish_cycle.ensures.data ∙ words) (c.finish_cycle.ensures.frame ∙ others) (c.put_all-put.ensures.put ∙ ap (λ ts. option_map (λ t. t.word) (find puts ts)) starts_are)
      (controls ∙ acting_same m decoded.rules i decoded.legal back line decoded.line store.places r p) c.advance.ensures;
  takes = sym c.is_stuck.ensures ∙ c.if-is_stuck.false;
  counted = c.finish_cycle.ensures.cycle ∙ ap (λ n. n + 1) c.put_all-put.ensures.cycle;
  memory = ap length (c.finish_cycle.ensures.data ∙ c.put_all-put.ensures.data) ∙ length-stored c.args.run.now.store.memory.items c.as_slice-starts.result.now;
  frame = ap length (c.finish_cycle.ensures.frame ∙ c.put_all-put.ensures.frame) ∙ length-stored_frame c.args.run.now.store.frame.items c.as_slice-starts.result.now;
  waits = λ lines is. cc;
  stays = λ is. cc;
  others = c.begin_all.ensures.others;
  words = record {
    places = λ k some. c.finish_cycle.ensures.grows k (ap (λ ps. is_some (slice_index_or ps k None)) c.put_all-put.ensures.places ∙ some);
    ports = c.begin_all.ensures.ports;
  };
}
