use Rattle.std.proofs.Common.{◌≡◌, ℕ, Bool, Option, inl, inr, refl, ap, sym, ◌∙◌, subst, add-zero}
use Rattle.std.specs.Prelude.{option_copied, ◌&&◌, is_none, slice_get}
use Rattle.tta_tacrun.specs.Cited.{stated, Step, State, Halted, takes, waits}
use Rattle.tta_tacrun.specs.declared.answer.SeqStep.TheVariants.{Ran}
use Rattle.tta_tacrun.specs.Run.{outcome_of, IsAnswer}
use Rattle.tta_tacrun.proofs.Placed.{run_carried}
use Rattle.tta_tacrun.proofs.Stands.{ran_stands, ran_answer, waits_answer, next_word, halted_stands, halted_answer}
use Rattle.tta_tacrun.proofs.seq.Seq.step.Goals as goal

-- whether a step has to wait, as the code tests it
stuck_by : (s : State) (step : Step) (took stuck : Bool) (next : Option ℕ) → took ≡ takes step → stuck ≡ (took && is_none next) → slice_get s.rest 0 ≡ next
    → waits s step ≡ stuck
stuck_by s step took stuck next is by fed = ap (λ o. takes step && is_none o) fed ∙ ap (λ t. t && is_none next) (sym is) ∙ sym by

pub returns-in-Stopped : goal.returns-in-Stopped
returns-in-Stopped g c =
    let U = stated (λ v. (goal.OpUnit-dyn g v).unit_meaning v.1) c.args.units.now in
    let ended : outcome_of c.self.inside.phase ≡ Halted = elim c.in-Stopped.is [ inl stopped ↦ rw stopped refl | inr returned ↦ rw returned refl ] in
    let over = ap (λ r. r.outcome) (sym c.self.view_is) ∙ ended in
    record {
      loaded = c.requires.loaded;
      space = refl;
      counted = sym (add-zero c.args.self.now.steps);
      next = λ s same fed. halted_stands U c.args.p.now c.args.self.now over s same;
      answer = λ s same fed. halted_answer U c.args.p.now c.args.self.now over s same;
      waits = λ is. absurd cc;
    }

pub returns-clause-loaded : goal.returns-clause-loaded
returns-clause-loaded g c =
    let U = stated (λ v. (goal.OpUnit-dyn g v).unit_meaning v.1) c.args.units.now in
    let held = rw c.in-Running.is at c.self.view_is in
    let path = rw (← held) at c.requires.loaded.path in
    let here = sym (rw (c.top.ensures.proc, c.top.ensures.at) at c.step_of.ensures.value) ∙ ap option_copied c.unwrap-step.ensures in
    let coded = rw (← held) at c.requires.loaded.code in
    run_carried c.args.p.now c.step_of.ensures.rules U c.self.inside.calls c.carry-phase.new.calls c.self.inside.memory c.carry-phase.new.memory
    c.carry-phase.result.0 c.carry-phase.result.1 c.unwrap-step.result.now _ _ _ coded path here c.carry-phase.ensures.loaded c.carry-phase.ensures.carried

pub returns-clause-next : goal.returns-clause-next
returns-clause-next g c = λ s same fed.
    let U = stated (λ v. (goal.OpUnit-dyn g v).unit_meaning v.1) c.args.units.now in
    let held = rw c.in-Running.is at c.self.view_is in
    let here = sym (rw (c.top.ensures.proc, c.top.ensures.at) at c.step_of.ensures.value) ∙ ap option_copied c.unwrap-step.ensures in
    let goes_on = stuck_by s c.unwrap-step.result.now _ _ c.args.next c.takes-took.ensures c.is_stuck.ensures fed ∙ c.if-is_stuck.false in
    ran_stands U c.args.p.now c.self.inside.calls _ c.self.inside.memory c.self.inside.steps c.unwrap-step.result.now here s (rw (← held) at same)
    c.carry-phase.new.calls c.carry-phase.new.memory c.carry-phase.result.0 c.carry-phase.result.1 _ c.carry-phase.ensures.carried goes_on
    (next_word s.rest c.args.next fed ∙ sym c.unwrap_or.ensures)

pub returns-clause-answer : goal.returns-clause-answer
returns-clause-answer g c = λ s same fed.
    let U = stated (λ v. (goal.OpUnit-dyn g v).unit_meaning v.1) c.args.units.now in
    let held = rw c.in-Running.is at c.self.view_is in
    let here = sym (rw (c.top.ensures.proc, c.top.ensures.at) at c.step_of.ensures.value) ∙ ap option_copied c.unwrap-step.ensures in
    let goes_on = stuck_by s c.unwrap-step.result.now _ _ c.args.next c.takes-took.ensures c.is_stuck.ensures fed ∙ c.if-is_stuck.false in
    subst (λ took. IsAnswer U c.args.p.now s (Ran c.carry-phase.result.1 took)) (sym c.takes-took.ensures)
    (ran_answer U c.args.p.now c.self.inside.calls _ c.self.inside.memory c.self.inside.steps c.unwrap-step.result.now here s (rw (← held) at same)
    c.carry-phase.new.calls c.carry-phase.new.memory c.carry-phase.result.0 c.carry-phase.result.1 _ c.carry-phase.ensures.carried goes_on
    (next_word s.rest c.args.next fed ∙ sym c.unwrap_or.ensures))

pub returns-then-is_stuck-clause-answer : goal.returns-then-is_stuck-clause-answer
returns-then-is_stuck-clause-answer g c = λ s same fed.
    let U = stated (λ v. (goal.OpUnit-dyn g v).unit_meaning v.1) c.args.units.now in
    let held = rw c.in-Running.is at c.self.view_is in
    let here = sym (rw (c.top.ensures.proc, c.top.ensures.at) at c.step_of.ensures.value) ∙ ap option_copied c.unwrap-step.ensures in
    let must = stuck_by s c.unwrap-step.result.now _ _ c.args.next c.takes-took.ensures c.is_stuck.ensures fed ∙ c.if-is_stuck.true in
    waits_answer U c.args.p.now c.self.inside.calls _ c.self.inside.memory c.self.inside.steps c.unwrap-step.result.now here s (rw (← held) at same) must
