use Rattle.std.proofs.Common.{◌≡◌, ℕ, suc, ◌+◌, ◌-◌, ◌*◌, ◌<◌, ◌^◌, List, length, sym, ap, ◌∙◌, subst, arith}
use Rattle.std.specs.Prelude.{slice_get}
use Rattle.std.proofs.lemmas.List.{length-replicate}
use Rattle.tta_profile.specs.Cited.{iterate, stated, Instruction, State, next, Stands, HasWritten}
use Rattle.tta_list.specs.Input.{left as unread}
use Rattle.tta_profile.specs.Counts.{Counts, AreCounts}
use Rattle.tta_profile.specs.Outside.{AreOutside}
use Rattle.tta_profile.proofs.Tallies.{counts_begin, are_small, counts_on, counts_over, outside_begin, are_small_outside, outside_on, outside_over}
use Rattle.tta_profile.proofs.counting.count_cycles.Given as given
use Rattle.tta_profile.proofs.counting.count_cycles.Goals.{After-count_cycle}
use Rattle.tta_profile.proofs.counting.count_cycles.Goals as goal

module _ (g : given.Over) (c : After-count_cycle g) where
  abbrev step : State → State
  step = next (stated (λ v. (goal.OpUnit-dyn g v).unit_meaning v.1) c.args.basis.now.units.now) c.args.basis.now.m.now c.args.basis.now.code.now

  abbrev words : List Instruction
  words = c.args.basis.now.code.now.words

  -- how many cycles were made before this one
  abbrev made : ℕ
  made = c.args.bound - c.cycles.left

  -- what the cycle is fed
  fed : (s : State) → Stands c.args.sim.now s → s.rest ≡ c.args.input.now → slice_get (iterate made step s).rest 0 ≡ c.first_of.result
  fed s stands given = ap (λ (l : List ℕ). slice_get l 0) (c.cycles.invariant.rest s stands given) ∙ sym c.first_of.ensures

  -- with it there is one more
  one_more : made + 1 ≡ c.args.bound - (c.cycles.left - 1)
  one_more = let w = c.cycles.invariant.within in let t = c.cycles-test.true in omega arith

  -- with all that are left they are all
  all_made : c.cycles.left + made ≡ c.args.bound
  all_made = let w = c.cycles.invariant.within in omega arith

  -- what is kept of what was written before the cycle
  kept : (t : State) → HasWritten c.cycles.followed.row t.written → HasWritten c.note_carried.new.followed.row t.written
  kept t had = subst (λ r. HasWritten r t.written) (sym c.note_carried.ensures.row) had

  -- few cycles were made
  few_made : made < 2 ^ 62
  few_made = let b = c.cycles.invariant.bounded in omega arith

pub cycles-init : goal.cycles-init
cycles-init g c =
    let words = c.args.basis.now.code.now.words in
    let step = next (stated (λ v. (goal.OpUnit-dyn g v).unit_meaning v.1) c.args.basis.now.units.now) c.args.basis.now.m.now c.args.basis.now.code.now in
    let none : 0 ≡ c.args.bound - c.args.bound = omega arith in
    let few = c.requires.few in
    record {
      loaded = c.requires.loaded;
      few = few;
      bounded = omega arith;
      within = omega arith;
      size = ap length c.requires.none ∙ length-replicate (length words) 0;
      room = ap length c.requires.none_passed ∙ length-replicate (16 * length words) 0;
      stands = λ s stands given. subst (λ (n : ℕ). Stands c.args.sim.now (iterate n step s)) none stands;
      rest = λ s stands given. subst (λ (n : ℕ). (iterate n step s).rest ≡ c.args.input.now) none given;
      room_data = ap length c.requires.none_data ∙ length-replicate (length words) 0;
      room_frame = ap length c.requires.none_frame ∙ length-replicate (length words) 0;
      counts = λ s stands given. subst (λ (n : ℕ). AreCounts step words s n c.args.counts.now) none (counts_begin step words s c.args.counts.now c.requires.none c.requires.none_passed);
      outside = λ s stands given had. (
        subst (λ (n : ℕ). HasWritten c.args.followed.now.row (iterate n step s).written) none had,
        subst (λ (n : ℕ). AreOutside step c.args.basis.now.m.now words s n c.args.counts.now) none
            (outside_begin step c.args.basis.now.m.now words s c.args.counts.now c.requires.none_data c.requires.none_frame),
      );
    }

pub cycles-preserved : goal.cycles-preserved
cycles-preserved g c =
    let at = (goal.at.cycles-preserved g c).After-count_cycle in
    let counted = c.count_cycle.ensures.counted in
    let few = c.cycles.invariant.few in
    let within = c.cycles.invariant.within in
    let test = c.cycles-test.true in
    let goes = λ (s : State) (stands : Stands c.args.sim.now s) (given : s.rest ≡ c.args.input.now).
    c.in-Some.ensures.goes (iterate (made g at) (step g at) s) (c.cycles.invariant.stands s stands given) (fed g at s stands given)
    (are_small (step g at) (words g at) s (made g at) c.cycles.counts (few_made g at) (c.cycles.invariant.counts s stands given)) in
    record {
      loaded = c.count_cycle.ensures.loaded;
      few = omega arith;
      bounded = c.cycles.invariant.bounded;
      within = omega arith;
      size = c.count_cycle.ensures.size ∙ c.cycles.invariant.size;
      room = c.count_cycle.ensures.room ∙ c.cycles.invariant.room;
      stands = λ s stands given. subst (λ (n : ℕ). Stands c.count_cycle.new.sim (iterate n (step g at) s)) (one_more g at)
          (subst (λ (n : ℕ). Stands c.count_cycle.new.sim (iterate n (step g at) s)) (let e : suc (made g at) ≡ made g at + 1 = omega arith in e) (goes s stands given).0.stands);
      rest = λ s stands given. subst (λ (n : ℕ). (iterate n (step g at) s).rest ≡ c.left_of-rest.result.now) (one_more g at)
          (subst (λ (n : ℕ). (iterate n (step g at) s).rest ≡ c.left_of-rest.result.now) (let e : suc (made g at) ≡ made g at + 1 = omega arith in e)
          ((goes s stands given).0.rest ∙ ap (unread c.in-Some.took) (c.cycles.invariant.rest s stands given) ∙ sym c.left_of-rest.ensures));
      counts = λ s stands given. subst (λ (n : ℕ). AreCounts (step g at) (words g at) s n c.count_cycle.new.counts) (one_more g at)
          (counts_on (step g at) (words g at) s (made g at) c.cycles.counts c.count_cycle.new.counts (c.cycles.invariant.counts s stands given) (goes s stands given).1
          c.count_cycle.ensures.size c.count_cycle.ensures.room);
      room_data = c.count_cycle.ensures.room_data ∙ c.cycles.invariant.room_data;
      room_frame = c.count_cycle.ensures.room_frame ∙ c.cycles.invariant.room_frame;
      outside = λ s stands given had.
          let m = c.args.basis.now.m.now in
          let t = iterate (made g at) (step g at) s in
          let was = c.cycles.invariant.outside s stands given had in
          let now = c.cycles.invariant.stands s stands given in
          let went = c.in-Some.ensures.outside t now (fed g at s stands given) (kept g at t was.0) (c.in_ok-note_carried.ensures.carried t now was.0)
          (are_small_outside (step g at) m (words g at) s (made g at) c.cycles.counts (few_made g at) was.1) in (
            subst (λ (n : ℕ). HasWritten c.count_cycle.new.followed.row (iterate n (step g at) s).written) (one_more g at)
                (subst (λ (n : ℕ). HasWritten c.count_cycle.new.followed.row (iterate n (step g at) s).written) (let e : suc (made g at) ≡ made g at + 1 = omega arith in e) went.0),
            subst (λ (n : ℕ). AreOutside (step g at) m (words g at) s n c.count_cycle.new.counts) (one_more g at)
                (outside_on (step g at) m (words g at) s (made g at) c.cycles.counts c.count_cycle.new.counts was.1 went.1 c.count_cycle.ensures.room_data
                c.count_cycle.ensures.room_frame),
          );
    }

pub returns-in-None : goal.returns-in-None
returns-in-None g c = record {
  size = c.count_cycle.ensures.size ∙ c.cycles.invariant.size;
  counts = λ s stands given.
      let at = (goal.at.returns-in-None g c).After-count_cycle in
      let are = c.cycles.invariant.counts s stands given in
      let goes = c.in-None.ensures.goes (iterate (made g at) (step g at) s) (c.cycles.invariant.stands s stands given) (fed g at s stands given)
      (are_small (step g at) (words g at) s (made g at) c.cycles.counts (few_made g at) are) in
      subst (λ (x : Counts). AreCounts (step g at) (words g at) s c.args.bound x) (sym goes.1)
      (subst (λ (n : ℕ). AreCounts (step g at) (words g at) s n c.cycles.counts) (all_made g at)
      (counts_over (step g at) (words g at) s (made g at) c.cycles.left c.cycles.counts are goes.0));
  outside = λ s stands given had.
      let at = (goal.at.returns-in-None g c).After-count_cycle in
      let m = c.args.basis.now.m.now in
      let was = c.cycles.invariant.outside s stands given had in
      let goes = c.in-None.ensures.goes (iterate (made g at) (step g at) s) (c.cycles.invariant.stands s stands given) (fed g at s stands given)
      (are_small (step g at) (words g at) s (made g at) c.cycles.counts (few_made g at) (c.cycles.invariant.counts s stands given)) in
      subst (λ (x : Counts). AreOutside (step g at) m (words g at) s c.args.bound x) (sym goes.1)
      (subst (λ (n : ℕ). AreOutside (step g at) m (words g at) s n c.cycles.counts) (all_made g at)
      (outside_over (step g at) m (words g at) s (made g at) c.cycles.left c.cycles.counts was.1 goes.0));
}

pub returns : goal.returns
returns g c = record {
  size = c.cycles.invariant.size;
  counts = λ s stands given.
      let words = c.args.basis.now.code.now.words in
      let step = next (stated (λ v. (goal.OpUnit-dyn g v).unit_meaning v.1) c.args.basis.now.units.now) c.args.basis.now.m.now c.args.basis.now.code.now in
      let test = c.cycles-test.false in
      let all : c.args.bound - c.cycles.left ≡ c.args.bound = omega arith in
      subst (λ (n : ℕ). AreCounts step words s n c.cycles.counts) all (c.cycles.invariant.counts s stands given);
  outside = λ s stands given had.
      let words = c.args.basis.now.code.now.words in
      let step = next (stated (λ v. (goal.OpUnit-dyn g v).unit_meaning v.1) c.args.basis.now.units.now) c.args.basis.now.m.now c.args.basis.now.code.now in
      let test = c.cycles-test.false in
      let all : c.args.bound - c.cycles.left ≡ c.args.bound = omega arith in
      subst (λ (n : ℕ). AreOutside step c.args.basis.now.m.now words s n c.cycles.counts) all (c.cycles.invariant.outside s stands given had).1;
}
