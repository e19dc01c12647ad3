use Rattle.std.proofs.Common.{◌≡◌, ◌+◌, ◌-◌, [], suc, length, is_some, refl, sym, ap, ◌∙◌, subst, arith, true}
use Rattle.std.specs.Prelude.{IfSome}
use Rattle.tta_tacrun.specs.Cited.{iterate, stated, next}
use Rattle.tta_list.proofs.Lists.{list_all_one}
use Rattle.tta_list.proofs.Tests.{none_from_is_some}
use Rattle.tta_tacrun.specs.Flat.{has_cells, said}
use Rattle.tta_tacrun.specs.Run.{going, silent_at, GoesTo}
use Rattle.tta_tacrun.proofs.Coded.{mapped_at}
use Rattle.tta_tacrun.proofs.InCall.{one_more_step, one_more_placed}
use Rattle.tta_tacrun.proofs.silent.run_silent.Goals as goal

pub step_in-step-requires : goal.step_in-step-requires
step_in-step-requires g c = c.requires.all c.steps.leg.at c.steps.invariant.placed

pub step_silent-requires-clause-within : goal.step_silent-requires-clause-within
step_silent-requires-clause-within g c =
    subst (λ n. has_cells n c.step_in-step.result.now ≡ true) (sym c.steps.invariant.size)
    (list_all_one (has_cells (length c.args.vars.now)) c.args.steps.now c.steps.leg.at c.step_in-step.result.now c.requires.cells c.step_in-step.ensures.value)

pub steps-preserved : goal.steps-preserved
steps-preserved g c =
    let U = stated (λ v. (goal.OpUnit-dyn g v).unit_meaning v.1) c.args.basis.now.units.now in
    let p = c.args.basis.now.p.now in
    let old = c.args.leg.now in
    let proc = old.proc in
    let at = c.steps.leg.at in
    let to = c.in-Some.to in
    let vars = c.steps.vars in
    let memory = c.steps.memory in
    let new_vars = c.step_silent.new.vars in
    let new_memory = c.step_silent.new.memory in
    let flat = c.step_in-step.result.now in
    let step = said (length vars) flat in
    let goes : IfSome step (GoesTo U at to vars new_vars memory new_memory) = c.in-Some.ensures.made in
    let some : is_some step ≡ true = sym c.in-Some.ensures.silent in
    let k = old.left - c.steps.leg.left in
    let is : suc k ≡ old.left - (c.steps.leg.left - 1) = omega (arith, c.steps.invariant.within, c.steps-test.true) in
    let here : silent_at p proc at ≡ step =
    sym (c.requires.silent at) ∙ mapped_at (said (length c.args.vars.now)) c.args.steps.now at flat c.step_in-step.ensures.value
    ∙ ap (λ n. said n flat) (sym c.steps.invariant.size) in
    record {
      within = omega (arith, c.steps.invariant.within);
      size = c.in-Some.ensures.size ∙ c.steps.invariant.size;
      space = c.in-Some.ensures.space ∙ c.steps.invariant.space;
      made = λ callers rest output n.
          let start = going proc old.at c.args.vars.now callers c.args.memory.now rest output n in
          subst (λ k. iterate k (next U p) start ≡ going proc to new_vars callers new_memory rest output (n + k)) is
          (one_more_step U at to vars new_vars memory new_memory p proc callers step some goes here rest output start n k
          (c.steps.invariant.made callers rest output n));
      placed = one_more_placed U at to vars new_vars memory new_memory p proc [] step some goes here c.requires.rules refl;
    }

pub returns-in_default-clause-stops : goal.returns-in_default-clause-stops
returns-in_default-clause-stops g c = λ more.
    let flat = c.step_in-step.result.now in
    mapped_at (said (length c.args.vars.now)) c.args.steps.now c.steps.leg.at flat c.step_in-step.ensures.value
    ∙ ap (λ n. said n flat) (sym c.steps.invariant.size)
    ∙ none_from_is_some (said (length c.steps.vars) flat) (sym c.in_default.ensures.silent)
