use Rattle.std.proofs.Common.{◌≡◌, ◌+◌, ◌++◌, ℕ, true, false, IsTrue, List, [], length, map, refl, sym, ap, ◌∙◌, subst, append_assoc, arith}
use Rattle.std.specs.Prelude.{None, is_some, option_map, fold, slice_index_or}
use Rattle.std.specs.Option.{unwrap_or}
use Rattle.std.specs.List.{filter_map, find, list_any, AllByRecursion}
use Rattle.tta_sim.specs.Cited.{Units, stated, Start, are_different, write_of, first_some, store_data, store_frame, takes}
use Rattle.tta_sim.specs.Order.{is_touched, is_barred}
use Rattle.tta_sim.specs.declared.control.Control.{Control}
use Rattle.tta_sim.specs.declared.decoded.Line.{Line}
use Rattle.tta_sim.specs.declared.dues.Due.{Due}
use Rattle.tta_sim.specs.declared.store.Store.{Store}
use Rattle.tta_sim.specs.declared.store.CycleBuffers.{CycleBuffers}
use Rattle.tta_sim.specs.Places.{HasWritten}
use Rattle.tta_sim.specs.Results.{Results, results_at, shown_by}
use Rattle.tta_sim.specs.Moves.{brought_of}
use Rattle.tta_sim.specs.Starts.{puts, kind_and_word}
use Rattle.tta_sim.specs.Writing.{long_writes}
use Rattle.tta_sim.specs.Lines.{write_brought, control_brought, operand_in, is_ready, is_write_there, is_start_there, is_control_there}
use Rattle.tta_sim.specs.Dues.{shown_from, started_at, CanAllBegin}
use Rattle.tta_sim.specs.Ready.{writes_in, begun_in, AreLeft, Begin}
use Rattle.tta_sim.specs.Flat.{write_said, start_said, control_said, line_said}
use Rattle.tta_sim.specs.Known.{is_known, is_start_known}
use Rattle.tta_sim.specs.InPlace.{starts_of_line, begun_here, dues_in, AreWritten, AreStarted}
use Rattle.tta_sim.proofs.Acting.{lands_same, carried_at}
use Rattle.tta_sim.proofs.Ahead.{all_begin, none_beside}
use Rattle.tta_sim.proofs.Beginning.{AreBegun, all_begun, others_begun}
use Rattle.tta_sim.proofs.Flats.{all_said, first_said}
use Rattle.tta_sim.proofs.Facing.{none_found, placed, acting_same}
use Rattle.tta_sim.proofs.Growing.{written_grows, begun_grows}
use Rattle.tta_sim.proofs.Leaving.{arrivals, starts, is_left}
use Rattle.tta_sim.proofs.Placed.{written_places}
use Rattle.tta_sim.proofs.Settled.{Ordered, ordered, all_known, settled_ready}
use Rattle.tta_sim.proofs.Found.{plain_starts, starts_known, starts_begun, control_same}
use Rattle.tta_sim.proofs.Shown.{dues_begun, dues_can}
use Rattle.tta_sim.proofs.Writes.{length-stored, length-stored_frame}
use Rattle.tta_sim.proofs.in_place.carry_in_place.Goals.{After-write_in_place}
use Rattle.tta_sim.proofs.in_place.carry_in_place.Given as given
use Rattle.tta_sim.proofs.in_place.carry_in_place.Goals as goal

pub write_in_place-requires-clause-known : goal.write_in_place-requires-clause-known
write_in_place-requires-clause-known g c =
    let places = c.args.store.now.places in
    let r = results_at c.args.context.now.part c.args.region.now in
    let line = line_said c.args.row.now in
    subst (λ ws. AllByRecursion (λ w. IsTrue (is_known places (shown_by c.of-results.result) w.reading)) ws) (sym (ap (map write_said) c.as_slice.ensures))
    (subst (λ q. AllByRecursion (λ w. IsTrue (is_known places (shown_by q) w.reading)) line.writes) (sym c.of-results.ensures)
    (all_known places (shown_by r) line c.requires.settled).writes)

pub write_in_place-requires-clause-there : goal.write_in_place-requires-clause-there
write_in_place-requires-clause-there g c =
    subst (λ ws. AllByRecursion (λ w. IsTrue (is_write_there c.of-results.result.units w)) ws) (sym (ap (map write_said) c.as_slice.ensures))
    (subst (λ q. AllByRecursion (λ w. IsTrue (is_write_there q.units w)) (line_said c.args.row.now).writes) (sym c.of-results.ensures) c.requires.ready.there.writes)

pub write_in_place-requires-clause-order : goal.write_in_place-requires-clause-order
write_in_place-requires-clause-order g c =
    subst (λ ws. are_different is_touched ws ≡ true) (sym (ap (map write_said) c.as_slice.ensures)) (ordered (line_said c.args.row.now) c.requires.order).touched

-- what is known once all words are written
module _ (g : given.Over) (c : After-write_in_place g) where
  abbrev store : Store
  store = c.args.store.now

  abbrev r : Results
  r = results_at c.args.context.now.part c.args.region.now

  -- what a run holds then
  abbrev after : Store
  after = record store { places = c.write_in_place.new.places }

  -- the operations that start
  abbrev ts : List Start
  ts = starts_of_line store r (line_said c.args.row.now)

  written : AreWritten store.places (writes_in store r (line_said c.args.row.now)) after.places
  written =
      subst (λ ws. AreWritten store.places (filter_map (write_brought store.places (shown_by r)) ws) after.places) (ap (map write_said) c.as_slice.ensures)
      (subst (λ q. AreWritten store.places (filter_map (write_brought store.places (shown_by q)) (map write_said c.as_slice.result.now)) after.places) c.of-results.ensures c.write_in_place.ensures)

  begun_is : filter_map (begun_here after r) (line_said c.args.row.now).starts ≡ ts
  begun_is = starts_begun store r (line_said c.args.row.now) (ordered (line_said c.args.row.now) c.requires.order) after written

  known : AllByRecursion (λ s. IsTrue (is_start_known after.places (shown_by r) s)) (line_said c.args.row.now).starts
  known = starts_known store r (line_said c.args.row.now) (ordered (line_said c.args.row.now) c.requires.order) after written (all_known store.places (shown_by r) (line_said c.args.row.now) c.requires.settled)

  module _ (U : Units) where
    dues_are : dues_in U after r (line_said c.args.row.now).starts ≡ filter_map (shown_from U 0 store) ts
    dues_are = ap (filter_map (shown_from U 0 after)) begun_is

    can : CanAllBegin r (dues_in U after r (line_said c.args.row.now).starts)
    can =
        subst (CanAllBegin r) (sym dues_are)
        (dues_can U store.memory.items store.frame.items 0 r ts (c.requires.ready.fitting (operand_in store.places (writes_in store r (line_said c.args.row.now)))) c.requires.free)

pub start_in_place-requires-clause-known : goal.start_in_place-requires-clause-known
start_in_place-requires-clause-known g c =
    let at = (goal.at.start_in_place-requires-clause-known g c).After-write_in_place in
    subst (λ ss. AllByRecursion (λ s. IsTrue (is_start_known c.write_in_place.new.places (shown_by (r g at)) s)) ss) (sym (ap (map start_said) c.as_slice-2.ensures)) (known g at)

pub start_in_place-requires-clause-can : goal.start_in_place-requires-clause-can
start_in_place-requires-clause-can g c =
    let at = (goal.at.start_in_place-requires-clause-can g c).After-write_in_place in
    let U = stated (λ v. (goal.OpUnit-dyn g v).unit_meaning v.1) c.args.context.now.units.now in
    subst (λ ss. CanAllBegin (r g at) (dues_in U (after g at) (r g at) ss)) (sym (ap (map start_said) c.as_slice-2.ensures)) (can g at U)

pub start_in_place-requires-clause-there : goal.start_in_place-requires-clause-there
start_in_place-requires-clause-there g c =
    subst (λ ss. AllByRecursion (λ s. IsTrue (is_start_there c.args.context.now.part.count s)) ss) (sym (ap (map start_said) c.as_slice-2.ensures)) c.requires.ready.there.starts

pub start_in_place-requires-clause-order : goal.start_in_place-requires-clause-order
start_in_place-requires-clause-order g c =
    subst (λ ss. are_different is_barred ss ≡ true) (sym (ap (map start_said) c.as_slice-2.ensures)) (ordered (line_said c.args.row.now) c.requires.order).barred

pub of-after-requires : goal.of-after-requires
of-after-requires g c = record {
  few = c.requires.ready.units.few;
  there = omega (arith, c.requires.ready.units.there, (c.start_in_place.ensures.started 0).kept.units);
}

pub take_control-requires-clause-there : goal.take_control-requires-clause-there
take_control-requires-clause-there g c =
    subst (λ ts. AllByRecursion (λ t. IsTrue (is_control_there c.of-after.result.units (control_said t))) ts) (sym c.as_slice-controls.ensures)
    (subst (λ q. AllByRecursion (λ t. IsTrue (is_control_there q.units (control_said t))) c.args.row.now.controls) (sym c.of-after.ensures)
    (all_said (λ t. IsTrue (is_control_there c.args.context.now.part.count t)) control_said c.args.row.now.controls c.requires.ready.there.controls))

pub come_on-requires : goal.come_on-requires
come_on-requires g c = omega (arith, c.requires.own.few, (c.start_in_place.ensures.started 0).kept.units)

pub returns-clause-cycle : goal.returns-clause-cycle
returns-clause-cycle g c =
    let at : After-write_in_place g = (goal.at.returns-clause-cycle g c).After-write_in_place in
    let U : Units = stated (λ v. (goal.OpUnit-dyn g v).unit_meaning v.1) c.args.context.now.units.now in
    let control : Control = c.args.control.now in
    let line : Line = line_said c.args.row.now in
    let order : Ordered line = ordered line c.requires.order in
    let final : Store = record (c.start_in_place.new.store) { cycle = c.start_in_place.new.store.cycle + 1 } in
    let said = map start_said c.as_slice-2.result.now in
    let starts_are : said ≡ line.starts = ap (map start_said) c.as_slice-2.ensures in
    let begun : List Start = filter_map (begun_here (after g at) (r g at)) said in
    let begun_are : begun ≡ ts g at = ap (filter_map (begun_here (after g at) (r g at))) starts_are ∙ begun_is g at in
    let moves_dues : List Due = dues_in U (after g at) (r g at) said in
    let dues : moves_dues ≡ dues_in U (after g at) (r g at) line.starts = ap (dues_in U (after g at) (r g at)) starts_are in
    let moves_can : CanAllBegin (r g at) moves_dues = subst (CanAllBegin (r g at)) (sym dues) (can g at U) in
    let begun_at : (now : ℕ) → AreBegun now (r g at) (map (started_at now) moves_dues) c.come_on.new.region = λ now. all_begin now (r g at) moves_dues c.start_in_place.new.region c.come_on.new.region c.requires.ready.units moves_can (c.start_in_place.ensures.started now) c.come_on.ensures (none_beside (r g at).base (r g at).units c.args.region.now c.come_on.new.region c.requires.own.first c.requires.own.all) in
    let started_first : AreStarted 0 (r g at) (map (started_at 0) (dues_in U (after g at) (r g at) line.starts)) c.start_in_place.new.region = subst (λ ss. AreStarted 0 (r g at) (map (started_at 0) (dues_in U (after g at) (r g at) ss)) c.start_in_place.new.region) starts_are (c.start_in_place.ensures.started 0) in
    let acting = first_some (λ t. control_brought c.start_in_place.new.store.places (shown_by c.of-after.result) (control_said t)) c.as_slice-controls.result.now in
    let acts : acting ≡ first_some (control_brought (store g at).places (shown_by (r g at))) line.controls = ap (first_some (λ t. control_brought c.start_in_place.new.store.places (shown_by c.of-after.result) (control_said t))) c.as_slice-controls.ensures ∙ sym (first_said (control_brought c.start_in_place.new.store.places (shown_by c.of-after.result)) control_said c.args.row.now.controls) ∙ ap (λ q. first_some (control_brought c.start_in_place.new.store.places (shown_by q)) line.controls) c.of-after.ensures ∙ ap (λ ps. first_some (control_brought ps (shown_by (results_at c.args.context.now.part c.start_in_place.new.region))) line.controls) c.start_in_place.ensures.places ∙ control_same (store g at) (r g at) line order (after g at) (written g at) U c.start_in_place.new.region started_first c.requires.ready.there in
    λ next. record {
      carried = λ m i lines s decoded size delay_is same fed.
          let p = is_some control.pending in
          let back : ℕ = control.pc + 1 + c.args.context.now.delay in
          let brought = arrivals m i (store g at) (r g at) in
          let begins = starts m i (store g at) (r g at) in
          let ready : is_ready (store g at).places (r g at) p line ≡ true =
          settled_ready (store g at) (r g at) line (all_known (store g at).places (shown_by (r g at)) line c.requires.settled) p c.requires.free c.requires.controls in
          let none = sym (none_found m decoded.rules i decoded.legal back line decoded.line (store g at).places (r g at) p (is_ready (store g at).places (r g at) p line) refl ready) in
          let buffers : CycleBuffers = record { writes = writes_in (store g at) (r g at) line; starts = ts g at; dues = [] } in
          let has : AreLeft (store g at) (r g at) line buffers = record { writes = refl; starts = refl; free = c.requires.free } in
          let left = is_left m i (store g at) (r g at) back line buffers decoded p none has in
          let plain = plain_starts (store g at) (r g at) line order (after g at) (written g at) in
          let stored : begun ≡ begins = begun_are ∙ left.starts_are in
          let new_is = ap (map (started_at (store g at).cycle)) (dues ∙ dues_are g at U)
          ∙ dues_begun U (store g at).memory.items (store g at).frame.items 0 (store g at).cycle (ts g at)
          ∙ plain.begun U (store g at).cycle (store g at).memory.items (store g at).frame.items 0 (unwrap_or next 0) ∙ ap (begun_in U (unwrap_or next 0) (store g at)) left.starts_are in
          let begin = subst (λ new. Begin new (store g at).cycle (r g at) (results_at c.args.context.now.part c.come_on.new.region)) new_is
          (all_begun (store g at).cycle (r g at) moves_dues c.come_on.new.region moves_can (begun_at (store g at).cycle)) in
          carried_at U m decoded.rules i decoded.legal lines (store g at) (r g at) control s size same
          none c.requires.ready.running final (results_at c.args.context.now.part c.come_on.new.region) c.advance.new.control brought begins None _ next false fed
          (sym (ap (list_any takes) (sym left.starts_are) ∙ plain.takes))
          refl refl refl back c.args.context.now.delay _ refl delay_is refl
          (λ ws had.
          subst (HasWritten final.places) (append_assoc (filter_map (write_of m back) (map brought_of brought)) (long_writes m i.long) ws)
          (subst (λ ps. HasWritten ps ((filter_map (write_of m back) (map brought_of brought) ++ long_writes m i.long) ++ ws)) (sym c.start_in_place.ensures.places)
          (written_places (store g at).places (after g at).places _ ws (subst (λ list. AreWritten (store g at).places list (after g at).places) left.writes (written g at))
          (placed m decoded.rules i decoded.legal back line decoded.line (store g at).places (r g at) p) had)))
          begin
          (ap (λ n. n + 1) c.start_in_place.ensures.cycle)
          (c.start_in_place.ensures.«data» ∙ ap (fold store_data (store g at).memory.items) stored)
          (c.start_in_place.ensures.frame ∙ ap (fold store_frame (store g at).frame.items) stored)
          (ap (option_map (λ t. t.word)) (sym (ap (find puts) (sym left.starts_are) ∙ plain.puts)))
          (acts ∙ acting_same m decoded.rules i decoded.legal back line decoded.line (store g at).places (r g at) p)
          (λ t is. c.advance.ensures.control t is
          ∙ lands_same t (c.start_in_place.new.store.cycle + 1) c.take_control.ensures.pc c.take_control.ensures.pending c.take_control.ensures.phase);
      takes = refl;
      counted = ap (λ n. n + 1) c.start_in_place.ensures.cycle;
      memory = ap length c.start_in_place.ensures.«data» ∙ length-stored (store g at).memory.items begun;
      frame = ap length c.start_in_place.ensures.frame ∙ length-stored_frame (store g at).frame.items begun;
      waits = λ lines is. cc;
      stays = λ is. cc;
      others = others_begun 0 c.args.context.now.part c.args.region.now _ c.come_on.new.region (begun_at 0);
      words = record {
        places = λ k some. ap (λ ps. is_some (slice_index_or ps k None)) c.start_in_place.ensures.places ∙ written_grows (store g at).places (after g at).places _ (written g at) k some;
        ports = begun_grows 0 (r g at) _ c.come_on.new.region (begun_at 0);
      };
    }
