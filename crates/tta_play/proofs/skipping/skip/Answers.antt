use Rattle.std.proofs.Common.{◌≡◌, ◌≤◌, ◌+◌, suc, ◌-◌, sym, ap, ◌∙◌, subst, arith}
use Rattle.std.specs.Prelude.{is_some, slice_get}
use Rattle.tta_list.specs.Input.{left as unread}
use Rattle.tta_play.specs.Cited.{iterate, stated, State, next}
use Rattle.tta_play.specs.Controls.{Follows}
use Rattle.tta_play.specs.Steps.{IsAt}
use Rattle.tta_play.proofs.Skipped.{rest_after, one_first, over, ran_counts}
use Rattle.tta_play.proofs.skipping.skip.Given as given
use Rattle.tta_play.proofs.skipping.skip.Goals.{After-went_on}
use Rattle.tta_play.proofs.skipping.skip.Goals as goal

module _ (g : given.Over) (c : After-went_on g) where
  abbrev step : State → State
  step = next (stated (λ v. (goal.OpUnit-dyn g v).unit_meaning v.1) c.args.basis.now.units.now) c.args.basis.now.m.now c.args.basis.now.code.now

  -- with this cycle there is one less
  one_less : c.cycles.left ≡ suc (c.cycles.left - 1)
  one_less = let t = c.cycles-test.true in omega arith

  -- the word of the input that comes next is that of the state that the run stood for
  fed : (t : State) → t.rest ≡ c.cycles.rest.now → slice_get t.rest 0 ≡ c.first_of.result
  fed t rest = ap (λ l. slice_get l 0) rest ∙ sym c.first_of.ensures

pub returns-in_default-clause-stands : goal.returns-in_default-clause-stands
returns-in_default-clause-stands g c = λ s was given.
    let at = (goal.at.returns-in_default-clause-stands g c).After-went_on in
    let on = c.args.basis.now in
    let U = stated (λ v. (goal.OpUnit-dyn g v).unit_meaning v.1) on.units.now in
    let now = c.cycles.invariant.at s was given in
    let t = now.0 in
    let taken = fed g at t now.2 in
    let none = sym c.went_on.ensures ∙ c.in_default.is in
    let new = c.cycle_followed-step.new.sim in
    let after = c.cycle_followed-step.new.under_way in
    let stands = now.1.stands in
    let done = over U on.m.now on.code.now c.cycles.sim new c.cycles.under_way after t c.cycle_followed-step.result (c.cycles.left - 1) c.cycles.left (one_less g at) none now.1
    (c.cycle_followed-step.ensures.stays none) (c.cycle_followed-step.ensures.next t stands taken) (c.cycle_followed-step.ensures.answer t stands taken) in
    subst (λ goal. IsAt (step g at) (Follows new after) c.cycles.rest.now goal) now.3
    (subst (λ rest. IsAt (step g at) (Follows new after) rest (iterate c.cycles.left (step g at) t)) now.2 done)

pub cycles-preserved : goal.cycles-preserved
cycles-preserved g c =
    let at = (goal.at.cycles-preserved g c).After-went_on in
    let on = c.args.basis.now in
    let U = stated (λ v. (goal.OpUnit-dyn g v).unit_meaning v.1) on.units.now in
    let test = c.cycles-test.true in
    let few = c.cycles.invariant.few in
    let so = c.cycles.invariant.counted in
    let more : c.cycle_followed-step.new.sim.cycle ≤ c.cycles.sim.cycle + 1 =
    ran_counts c.cycle_followed-step.result c.cycles.sim.cycle c.cycle_followed-step.new.sim.cycle c.cycle_followed-step.ensures.counted in
    record {
      loaded = c.cycle_followed-step.ensures.loaded;
      counted = omega arith;
      few = omega arith;
      at = λ s was given.
          let now = c.cycles.invariant.at s was given in
          let t = now.0 in
          let taken = fed g at t now.2 in
          let some = sym c.went_on.ensures ∙ c.in-Some.is in
          let rest = rest_after U on.m.now on.code.now t c.cycle_followed-step.result c.in-Some.took some (c.cycle_followed-step.ensures.answer t now.1.stands taken) in (
            step g at t,
            c.cycle_followed-step.ensures.follows t now.1 taken (ap is_some some),
            rest ∙ ap (unread c.in-Some.took) now.2 ∙ sym c.left_of-rest.ensures,
            sym (one_first (c.cycles.left - 1) c.cycles.left (step g at) t (one_less g at)) ∙ now.3,
          );
    }
