use Rattle.std.proofs.Common.{◌≤◌, IsTrue, length, map, refl, ap, ◌∙◌, sym, subst, arith}
use Rattle.std.specs.Prelude.{fold}
use Rattle.std.specs.List.{filter_map}
use Rattle.tta_sim.specs.Cited.{stated, store_data, store_frame}
use Rattle.tta_sim.specs.Results.{results_at}
use Rattle.tta_sim.specs.Lines.{is_start_there}
use Rattle.tta_sim.specs.Dues.{started_at}
use Rattle.tta_sim.specs.Flat.{start_said}
use Rattle.tta_sim.specs.InPlace.{begun_here, dues_in, AreStarted}
use Rattle.std.proofs.lemmas.List.{length-map}
use Rattle.tta_sim.proofs.Ahead.{none_started}
use Rattle.tta_sim.proofs.Beginning.{all_at, take_past}
use Rattle.tta_sim.proofs.Flats.{within_said, at_said}
use Rattle.tta_sim.proofs.InTurn.{then_known, next_can, next_started, next_stored}
use Rattle.tta_sim.proofs.in_place.start_in_place.Goals as goal

pub loop-s-init : goal.loop-s-init
loop-s-init g c = record {
  places = refl;
  cycle = refl;
  memory = refl;
  frame = refl;
  started = λ now. none_started now (results_at c.args.part c.args.region.now) c.pass_all.new.self c.pass_all.ensures;
}

pub start_one-requires-clause-are : goal.start_one-requires-clause-are
start_one-requires-clause-are g c =
    record { few = c.requires.are.few; there = omega (arith, c.requires.are.there, (c.loop-s.invariant.started 0).kept.units) }

pub start_one-requires-clause-there : goal.start_one-requires-clause-there
start_one-requires-clause-there g c =
    let said = map start_said c.args.moves.now in
    let k = c.loop-s.s-index in
    let less = within_said start_said c.args.moves.now k c.loop-s-test.true in
    let at = at_said start_said c.args.moves.now k _ _ c.loop-s-test.true refl in
    subst (λ s. IsTrue (is_start_there c.args.part.count s)) (sym at) (all_at (λ s. IsTrue (is_start_there c.args.part.count s)) said k _ c.requires.there less)

pub start_one-requires-clause-known : goal.start_one-requires-clause-known
start_one-requires-clause-known g c =
    let U = stated (λ v. (goal.OpUnit-dyn g v).unit_meaning v.1) c.args.units.now in
    let said = map start_said c.args.moves.now in
    let k = c.loop-s.s-index in
    let less = within_said start_said c.args.moves.now k c.loop-s-test.true in
    let at = at_said start_said c.args.moves.now k _ _ c.loop-s-test.true refl in
    then_known U c.args.store.now (results_at c.args.part c.args.region.now) c.requires.are said k _ _ less at c.requires.order
    c.loop-s.store c.loop-s.invariant.places c.loop-s.invariant.memory c.loop-s.invariant.frame c.loop-s.region c.loop-s.invariant.started
    (subst (λ s. IsTrue (is_start_there c.args.part.count s)) (sym at) (all_at (λ s. IsTrue (is_start_there c.args.part.count s)) said k _ c.requires.there less)) c.requires.known

pub start_one-requires-clause-can : goal.start_one-requires-clause-can
start_one-requires-clause-can g c =
    let U = stated (λ v. (goal.OpUnit-dyn g v).unit_meaning v.1) c.args.units.now in
    let said = map start_said c.args.moves.now in
    let k = c.loop-s.s-index in
    let less = within_said start_said c.args.moves.now k c.loop-s-test.true in
    let at = at_said start_said c.args.moves.now k _ _ c.loop-s-test.true refl in
    next_can U c.args.store.now (results_at c.args.part c.args.region.now) c.requires.are said k _ _ less at c.requires.order
    c.loop-s.store c.loop-s.invariant.places c.loop-s.invariant.memory c.loop-s.invariant.frame c.loop-s.region c.loop-s.invariant.started
    (subst (λ s. IsTrue (is_start_there c.args.part.count s)) (sym at) (all_at (λ s. IsTrue (is_start_there c.args.part.count s)) said k _ c.requires.there less)) c.requires.can

pub loop-s-preserved : goal.loop-s-preserved
loop-s-preserved g c =
    let U = stated (λ v. (goal.OpUnit-dyn g v).unit_meaning v.1) c.args.units.now in
    let said = map start_said c.args.moves.now in
    let k = c.loop-s.s-index in
    let less = within_said start_said c.args.moves.now k c.loop-s-test.true in
    let at = at_said start_said c.args.moves.now k _ _ c.loop-s-test.true refl in
    let there = subst (λ s. IsTrue (is_start_there c.args.part.count s)) (sym at) (all_at (λ s. IsTrue (is_start_there c.args.part.count s)) said k _ c.requires.there less) in
    let stored = next_stored U c.args.store.now (results_at c.args.part c.args.region.now) c.requires.are said k _ _ less at c.requires.order
    c.loop-s.store c.loop-s.invariant.places c.loop-s.invariant.memory c.loop-s.invariant.frame c.loop-s.region c.loop-s.invariant.started there in
    record {
      places = c.start_one.ensures.places ∙ c.loop-s.invariant.places;
      cycle = c.start_one.ensures.cycle ∙ c.loop-s.invariant.cycle;
      memory = c.start_one.ensures.«data» ∙ stored.0;
      frame = c.start_one.ensures.frame ∙ stored.1;
      started = next_started U c.args.store.now (results_at c.args.part c.args.region.now) c.requires.are said k _ _ less at c.requires.order
          c.loop-s.store c.loop-s.invariant.places c.loop-s.invariant.memory c.loop-s.invariant.frame c.loop-s.region c.loop-s.invariant.started there
          c.requires.can c.start_one.new.region c.start_one.ensures.started;
    }

pub returns-clause-data : goal.returns-clause-data
returns-clause-data g c =
    let said = map start_said c.args.moves.now in
    let all : length said ≤ c.loop-s.s-index = omega (arith, c.loop-s-test.false, length-map c.args.moves.now start_said) in
    c.loop-s.invariant.memory
    ∙ ap (λ ms. fold store_data c.args.store.now.memory.items (filter_map (begun_here c.args.store.now (results_at c.args.part c.args.region.now)) ms)) (take_past said c.loop-s.s-index all)

pub returns-clause-frame : goal.returns-clause-frame
returns-clause-frame g c =
    let said = map start_said c.args.moves.now in
    let all : length said ≤ c.loop-s.s-index = omega (arith, c.loop-s-test.false, length-map c.args.moves.now start_said) in
    c.loop-s.invariant.frame
    ∙ ap (λ ms. fold store_frame c.args.store.now.frame.items (filter_map (begun_here c.args.store.now (results_at c.args.part c.args.region.now)) ms)) (take_past said c.loop-s.s-index all)

pub returns-clause-started : goal.returns-clause-started
returns-clause-started g c = λ now.
    let U = stated (λ v. (goal.OpUnit-dyn g v).unit_meaning v.1) c.args.units.now in
    let r = results_at c.args.part c.args.region.now in
    let said = map start_said c.args.moves.now in
    let all : length said ≤ c.loop-s.s-index = omega (arith, c.loop-s-test.false, length-map c.args.moves.now start_said) in
    subst (λ ms. AreStarted now r (map (started_at now) (dues_in U c.args.store.now r ms)) c.loop-s.region) (take_past said c.loop-s.s-index all)
    (c.loop-s.invariant.started now)
