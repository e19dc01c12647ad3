use Rattle.std.proofs.Common.{◌≡◌, suc, ◌-◌, ◌++◌, List, sym, ap, ◌∙◌, subst, arith}
use Rattle.std.specs.Prelude.{slice_get}
use Rattle.tta_list.specs.Input.{left as unread}
use Rattle.tta_waves.specs.Cited.{stated, State, Running, next, Stands, HasWritten}
use Rattle.tta_waves.specs.declared.level.Level.{Level}
use Rattle.tta_waves.specs.Dump.{last_text}
use Rattle.tta_waves.specs.Levels.{levels_in}
use Rattle.tta_waves.specs.Steps.{GoesBy, outcome_of}
use Rattle.tta_waves.proofs.Rows.{state_more, state_over, state_last}
use Rattle.tta_waves.proofs.cycling.push_states.Given as given
use Rattle.tta_waves.proofs.cycling.push_states.Goals.{After-went_on}
use Rattle.tta_waves.proofs.cycling.push_states.Goals as goal

module _ (g : given.Over) (c : After-went_on g) where
  abbrev step : State → State
  step = next (stated (λ v. (goal.OpUnit-dyn g v).unit_meaning v.1) c.args.basis.now.units.now) c.args.basis.now.m.now c.args.basis.now.code.now

  abbrev levels : State → List Level
  levels = levels_in c.args.basis.now.m.now c.args.basis.now.code.now.words

  -- that the run stands for a state, with the words that it has written
  abbrev Is : State → Type 0
  Is t = Stands c.cycle_once-step.new.sim t × HasWritten c.cycle_once-step.new.dump.row t.written

  -- with this cycle there is one less
  one_less : c.states.left ≡ suc (c.states.left - 1)
  one_less = let t = c.states-test.true in omega arith

  -- what became of the cycle of the state that the run stood for
  went : (t : State) → Stands c.states.sim t → HasWritten c.states.dump.row t.written → t.rest ≡ c.states.rest.now
      → GoesBy step Is t (outcome_of c.cycle_once-step.result t.cycle) c.went_on.result
  went t stands had rest =
      let fed : slice_get t.rest 0 ≡ c.first_of.result = ap (λ l. slice_get l 0) rest ∙ sym c.first_of.ensures in
      let kept : HasWritten c.push_moment.new.dump.row t.written = subst (λ r. HasWritten r t.written) (sym c.push_moment.ensures.row) had in
      subst (λ o. GoesBy step Is t (outcome_of c.cycle_once-step.result t.cycle) o) (sym c.went_on.ensures)
      (c.cycle_once-step.ensures.goes t stands fed kept (c.in_ok-push_moment.ensures.carried t stands had))

pub returns-in_default : goal.returns-in_default
returns-in_default g c = λ s stands had given.
    let at = (goal.at.returns-in_default g c).After-went_on in
    let now = c.states.invariant.put s stands had given in
    let t = now.0 in
    let told = c.in_ok-push_moment.ensures.text t now.1 now.2 in
    let over = subst (λ o. GoesBy (step g at) (Is g at) t (outcome_of c.cycle_once-step.result t.cycle) o) (c.in_default.is) (went g at t now.1 now.2 now.3) in
    let mid = c.push_moment.new.dump.out.items in
    let last = c.in_ok-push_last.ensures ∙ ap (λ o. o.items ++ last_text (outcome_of c.cycle_once-step.result c.cycles-cycle.result) c.cycles-cycle.result) c.cycle_once-step.ensures.out
    ∙ ap (λ n. mid ++ last_text (outcome_of c.cycle_once-step.result n) n) (c.cycles-cycle.ensures ∙ now.1.cycle) in
    state_over (step g at) (levels g at) t _ _ _ _ _ _ _ _ (one_less g at) over.made over.outcome told.text last now.4

pub states-preserved : goal.states-preserved
states-preserved g c =
    let at = (goal.at.states-preserved g c).After-went_on in
    let counted = c.cycle_once-step.ensures.counted in
    let few = c.states.invariant.few in
    let test = c.states-test.true in
    record {
      loaded = c.cycle_once-step.ensures.loaded;
      signals = ap (λ v. v.items) (c.cycle_once-step.ensures.signals ∙ c.push_moment.ensures.signals) ∙ c.states.invariant.signals;
      few = omega arith;
      put = λ s stands had given.
          let now = c.states.invariant.put s stands had given in
          let t = now.0 in
          let told = c.in_ok-push_moment.ensures.text t now.1 now.2 in
          let on = subst (λ o. GoesBy (step g at) (Is g at) t (outcome_of c.cycle_once-step.result t.cycle) o) (c.in-Some.is) (went g at t now.1 now.2 now.3) in
          let put = ap (λ v. v.items) c.cycle_once-step.ensures.out ∙ told.text in
          let last = ap (λ v. v.items) c.cycle_once-step.ensures.before ∙ told.last in (
            step g at t,
            on.stands.0,
            on.stands.1,
            on.rest ∙ ap (unread c.in-Some.took) now.3 ∙ sym c.left_of-rest.ensures,
            state_more (step g at) (levels g at) t _ _ _ _ _ _ _ (one_less g at) on.made put last now.4,
          );
    }

pub returns : goal.returns
returns g c = λ s stands had given.
    let step = next (stated (λ v. (goal.OpUnit-dyn g v).unit_meaning v.1) c.args.basis.now.units.now) c.args.basis.now.m.now c.args.basis.now.code.now in
    let levels = levels_in c.args.basis.now.m.now c.args.basis.now.code.now.words in
    let now = c.states.invariant.put s stands had given in
    let t = now.0 in
    let told = c.in_ok-push_moment-2.ensures.text t now.1 now.2 in
    let test = c.states-test.false in
    let none : c.states.left ≡ 0 = omega (arith, test) in
    let last = c.in_ok-push_last-2.ensures ∙ ap (λ n. c.push_moment-2.new.dump.out.items ++ last_text Running n) (c.cycles.ensures ∙ now.1.cycle) in
    state_last step levels t _ _ _ _ _ _ none told.text last now.4
