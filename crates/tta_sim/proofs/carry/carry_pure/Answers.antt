use Rattle.std.proofs.Common.{◌≡◌, ◌+◌, ◌<◌, ℕ, false, length, map, refl, sym, ap, ◌∙◌, subst, append_assoc}
use Rattle.std.specs.Prelude.{is_some, option_map}
use Rattle.std.specs.Option.{unwrap_or}
use Rattle.std.specs.List.{list_any, filter_map, AllByRecursion}
use Rattle.tta_sim.specs.Cited.{stated, write_of, first_some}
use Rattle.tta_sim.specs.Places.{HasWritten}
use Rattle.tta_sim.specs.Results.{results_at, shown_by}
use Rattle.tta_sim.specs.Moves.{brought_of}
use Rattle.tta_sim.specs.Starts.{is_loud}
use Rattle.tta_sim.specs.Writing.{long_writes}
use Rattle.tta_sim.specs.Lines.{control_brought, IsLineThere}
use Rattle.tta_sim.specs.Dues.{started_at}
use Rattle.tta_sim.specs.Ready.{begun_in, AreDue, Begin}
use Rattle.tta_sim.specs.Unset.{IsFaultOf}
use Rattle.tta_sim.specs.Kept.{kept_as}
use Rattle.tta_sim.proofs.Facing.{placed, acting_same}
use Rattle.tta_sim.proofs.Leaving.{arrivals, starts, is_left, left_can, due_left, with_starts, written_within}
use Rattle.tta_sim.proofs.Shown.{dues_begun}
use Rattle.tta_sim.proofs.Cycles.{faulted}
use Rattle.tta_sim.proofs.Pure.{pure_left, soft_memory, soft_frame, soft_puts, soft_takes, soft_begun}
use Rattle.tta_sim.proofs.Acting.{carried_at}
use Rattle.tta_sim.proofs.carry.carry_pure.Goals as goal

pub find_pure_fault-requires-clause-there : goal.find_pure_fault-requires-clause-there
find_pure_fault-requires-clause-there g c = subst (λ r. IsLineThere r.units c.args.line.now) (sym c.of-results.ensures) c.requires.ready.there

pub begin_all-requires-clause-can : goal.begin_all-requires-clause-can
begin_all-requires-clause-can g c =
    let U = stated (λ v. (goal.OpUnit-dyn g v).unit_meaning v.1) c.args.context.now.units.now in
    let store = c.args.run.now.store in
    let r = results_at c.args.context.now.part c.args.region.now in
    let due = subst (λ r. AreDue U store r c.args.line.now c.find_pure_fault.new.buffers) c.of-results.ensures (c.find_pure_fault.ensures.left c.in_default.is) in
    left_can U 0 store r c.args.line.now (with_starts store r c.args.line.now c.find_pure_fault.new.buffers) _ c.requires.ready.fitting
    (due_left U store r c.args.line.now _ due) (c.as_slice.ensures ∙ due.dues)

pub finish_cycle-requires-clause-writes : goal.finish_cycle-requires-clause-writes
finish_cycle-requires-clause-writes g c =
    subst (AllByRecursion (λ w. w.place < 609)) (sym (c.as_slice-2.ensures ∙ (c.find_pure_fault.ensures.left c.in_default.is).writes))
    (written_within _ c.args.run.now.store c.of-results.result c.args.line.now c.requires.ready.there)

pub returns-in-Some-clause-cycle : goal.returns-in-Some-clause-cycle
returns-in-Some-clause-cycle g c = λ next.
    let U = stated (λ v. (goal.OpUnit-dyn g v).unit_meaning v.1) c.args.context.now.units.now in
    faulted U c.args.context.now.part c.args.context.now.delay c.args.line.now next (kept_as c.args.run.now.store c.args.run.now.control c.args.region.now) _ _ _
    c.stop.new.control c.stop.result c.of-results.ensures (c.find_pure_fault.ensures.fault (is_some c.args.run.now.control.pending)) c.in-Some.is c.stop.ensures.stopped c.stop.ensures.answer

pub returns-clause-cycle : goal.returns-clause-cycle
returns-clause-cycle g c = λ next. record {
  carried = λ m i lines s decoded size delay_is same fed.
      let U = stated (λ v. (goal.OpUnit-dyn g v).unit_meaning v.1) c.args.context.now.units.now in
      let store = c.args.run.now.store in
      let line = c.args.line.now in
      let r = results_at c.args.context.now.part c.args.region.now in
      let p = is_some c.args.run.now.control.pending in
      let back : ℕ = c.args.run.now.control.pc + 1 + c.args.context.now.delay in
      let brought = arrivals m i store r in
      let begins = starts m i store r in
      let fault = subst (λ r. IsFaultOf store.places r p line c.find_pure_fault.result) c.of-results.ensures (c.find_pure_fault.ensures.fault p) in
      let none = sym (fault m back i decoded size) ∙ c.in_default.is in
      let due = subst (λ r. AreDue U store r line c.find_pure_fault.new.buffers) c.of-results.ensures (c.find_pure_fault.ensures.left c.in_default.is) in
      let has = due_left U store r line c.find_pure_fault.new.buffers due in
      let left = is_left m i store r back line _ decoded p none has in
      let pure = pure_left c.args.context.now.part.count store r line _ c.requires.ready.there has c.requires.pure in
      let soft : list_any is_loud begins ≡ false = ap (list_any is_loud) (sym left.starts_are) ∙ pure.0 in
      let new_is = ap (map (started_at store.cycle)) (c.as_slice.ensures ∙ due.dues)
      ∙ dues_begun U store.memory.items store.frame.items 0 store.cycle (with_starts store r line c.find_pure_fault.new.buffers).starts
      ∙ ap (begun_in U 0 store) left.starts_are ∙ soft_begun U store.cycle store.memory.items store.frame.items 0 (unwrap_or next 0) begins soft in
      let begun = subst (λ new. Begin new store.cycle r (results_at c.args.context.now.part c.begin_all.new.region)) new_is (c.begin_all.ensures.begun store.cycle) in
      let controls = ap (first_some (control_brought store.places (shown_by r))) (sym pure.1)
      ∙ acting_same m decoded.rules i decoded.legal back line decoded.line store.places r p in
      carried_at U m decoded.rules i decoded.legal lines store r c.args.run.now.control s size same
      none c.requires.ready.running c.finish_cycle.new.store (results_at c.args.context.now.part c.begin_all.new.region) c.advance.new.self brought begins _ _ next false fed (sym (soft_takes begins soft))
      refl refl refl back c.args.context.now.delay _ refl delay_is refl
      (λ ws had.
      subst (HasWritten c.finish_cycle.new.store.places) (append_assoc (filter_map (write_of m back) (map brought_of brought)) (long_writes m i.long) ws)
      (c.finish_cycle.ensures.written _ ws (c.as_slice-2.ensures ∙ left.writes) (placed m decoded.rules i decoded.legal back line decoded.line store.places r p) had))
      begun
      c.finish_cycle.ensures.cycle
      (c.finish_cycle.ensures.data ∙ sym (soft_memory store.memory.items begins soft)) (c.finish_cycle.ensures.frame ∙ sym (soft_frame store.frame.items begins soft))
      (ap (option_map (λ t. t.word)) (sym (soft_puts begins soft)))
      controls c.advance.ensures;
  takes = refl;
  counted = c.finish_cycle.ensures.cycle;
  memory = ap length c.finish_cycle.ensures.data;
  frame = ap length c.finish_cycle.ensures.frame;
  waits = λ lines is. cc;
  stays = λ is. cc;
  others = c.begin_all.ensures.others;
  words = record { places = c.finish_cycle.ensures.grows; ports = c.begin_all.ensures.ports };
}
