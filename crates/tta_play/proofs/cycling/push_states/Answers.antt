use Rattle.std.proofs.Common.{◌≡◌, ℕ, suc, ◌-◌, ◌++◌, List, Option, length, sym, ap, ◌∙◌, subst, arith, rules}
use Rattle.std.specs.Prelude.{is_some, slice_get}
use Rattle.tta_list.specs.Input.{left as unread}
use Rattle.tta_list.proofs.Results.{onward}
use Rattle.tta_play.specs.Cited.{stated, State, next, Fits, within}
use Rattle.tta_play.specs.Controls.{Follows}
use Rattle.tta_play.specs.States.{state_text, state_and_cycle_text, whole_text}
use Rattle.tta_play.specs.Steps.{IsCarriedOut, PutsWithCycle}
use Rattle.tta_play.proofs.Rows.{state_full, state_more, state_over, state_last}
use Rattle.tta_play.proofs.cycling.push_states.Given as given
use Rattle.tta_play.proofs.cycling.push_states.Goals.{After-fit}
use Rattle.tta_play.proofs.cycling.push_states.Goals as goal

module _ (g : given.Over) (c : After-fit g) where
  abbrev step : State → State
  step = next (stated (λ v. (goal.OpUnit-dyn g v).unit_meaning v.1) c.args.basis.now.units.now) c.args.basis.now.m.now c.args.basis.now.code.now

  abbrev told : State → List ℕ
  told = whole_text (stated (λ v. (goal.OpUnit-dyn g v).unit_meaning v.1) c.args.basis.now.units.now) c.args.basis.now.m.now c.args.basis.now.code.now.words

  -- with this cycle there is one less
  one_less : c.cycles.most.cycles ≡ suc (c.cycles.most.cycles - 1)
  one_less = let t = c.cycles-test.true in omega arith

  -- the state that the run stood for was put, with its cycle
  puts : (t : State) → Follows c.cycles.sim c.cycles.beside.under_way t → t.rest ≡ c.cycles.rest.now
      → PutsWithCycle step (Follows c.push_state_and_cycle.new.sim c.push_state_and_cycle.new.beside.under_way) told t c.cycles.out.items c.push_state_and_cycle.new.out.items c.in_ok-went.went
  puts t stands rest =
      let fed : slice_get t.rest 0 ≡ c.first_of.result = ap (λ l. slice_get l 0) rest ∙ sym c.first_of.ensures in
      c.in_ok-went.ensures.puts t stands fed

  -- whether there was room for both
  fits : (t : State) → Follows c.cycles.sim c.cycles.beside.under_way t → t.rest ≡ c.cycles.rest.now → (o : Option ℕ) → c.fit.result ≡ o
      → Fits c.cycles.most.room c.cycles.out.items (state_and_cycle_text step told t) c.fit.new.out.items o
  fits t stands rest o is =
      let from : length c.cycles.out.items ≡ c.len-from.result = search rules in
      subst (λ o. Fits c.cycles.most.room c.cycles.out.items (state_and_cycle_text step told t) c.fit.new.out.items o) is
      (c.fit.ensures c.cycles.out.items (state_and_cycle_text step told t) (puts t stands rest).tells from)

pub returns-in_default : goal.returns-in_default
returns-in_default g c = λ s stands given.
    let at = (goal.at.returns-in_default g c).After-fit in
    let now = c.cycles.invariant.put s stands given in
    let t = now.0 in
    let full = fits g at t now.1 now.2 _ c.in_default.is in
    state_full (step g at) (told g at) t _ _ _ _ _ _ (one_less g at) full.0 full.1 now.3

pub returns-in_default-went : goal.returns-in_default-went
returns-in_default-went g c = λ s stands given.
    let at = (goal.at.returns-in_default-went g c).After-fit in
    let now = c.cycles.invariant.put s stands given in
    let t = now.0 in
    let on = fits g at t now.1 now.2 _ c.in-Some.is in
    let over = subst (λ o. IsCarriedOut (step g at) (Follows c.push_state_and_cycle.new.sim c.push_state_and_cycle.new.beside.under_way) t o) c.in_default-went.is (puts g at t now.1 now.2).goes in
    state_over (step g at) (told g at) t _ _ _ _ _ _ (one_less g at) over on.0 on.1 now.3

pub cycles-preserved : goal.cycles-preserved
cycles-preserved g c =
    let at = (goal.at.cycles-preserved g c).After-fit in
    let counted = c.push_state_and_cycle.ensures.counted in
    let few = c.cycles.invariant.few in
    let test = c.cycles-test.true in
    let some = ap is_some c.in-Some-went.is in
    record {
      loaded = c.push_state_and_cycle.ensures.loaded;
      few = omega arith;
      memory = c.in_ok-went.ensures.memory some;
      frame = c.in_ok-went.ensures.frame some;
      put = λ s stands given.
          let now = c.cycles.invariant.put s stands given in
          let t = now.0 in
          let on = fits g at t now.1 now.2 _ c.in-Some.is in
          let made = subst (λ o. IsCarriedOut (step g at) (Follows c.push_state_and_cycle.new.sim c.push_state_and_cycle.new.beside.under_way) t o) c.in-Some-went.is (puts g at t now.1 now.2).goes in (
            step g at t,
            made.stands,
            made.rest ∙ ap (unread c.in-Some-went.took) now.2 ∙ sym c.left_of-rest.ensures,
            state_more (step g at) (told g at) t _ _ _ _ _ _ _ (one_less g at) made.made on.0 on.1 on.2 now.3,
          );
    }

pub returns : goal.returns
returns g c = λ s stands given.
    let on = c.args.basis.now in
    let U = stated (λ v. (goal.OpUnit-dyn g v).unit_meaning v.1) on.units.now in
    let now = c.cycles.invariant.put s stands given in
    let t = now.0 in
    let room = c.cycles.most.room in
    let none : c.cycles.most.cycles ≡ 0 = let test = c.cycles-test.false in omega (arith, test) in
    let fed : slice_get t.rest 0 ≡ c.first_of-2.result = ap (λ l. slice_get l 0) now.2 ∙ sym c.first_of-2.ensures in
    onward c.push_last.result
    (λ is. state_last (next U on.m.now on.code.now) (whole_text U on.m.now on.code.now.words) t _ _ _ _ _ none
    (is ∙ ap (λ o. c.cycles.out.items ++ within room (state_text U on.m.now on.code.now.words o t)) (sym fed)) now.3)
    (c.push_last.ensures t now.1)
