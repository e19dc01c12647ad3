use Rattle.std.proofs.Common.{◌≡◌, ℕ, List, [], length, map, reverse, get_or, Some, ap, sym, ◌∙◌, subst}
use Rattle.std.specs.Prelude.{IfSome}
use Rattle.std.proofs.lemmas.List.{get_or_read, get_or-set_same}
use Rattle.tta_tacrun.specs.Cited.{stated, carry_out}
use Rattle.tta_tacrun.specs.Calls.{Calls, frame_of}
use Rattle.tta_tacrun.specs.declared.phase.Phase.TheVariants.{Running}
use Rattle.tta_tacrun.specs.Flat.{said}
use Rattle.tta_tacrun.specs.Run.{GoesTo, frame, going, silent_part, state_of}
use Rattle.tta_tacrun.proofs.Coded.{silent_of}
use Rattle.tta_tacrun.proofs.Kept.{calls_set}
use Rattle.tta_tacrun.proofs.calls.Calls.step_silent.Goals as goal

pub returns-clause-top : goal.returns-clause-top
returns-clause-top g c =
    let vs = c.self.inside.variables.items in
    let proc = c.self.inside.top.proc in
    let new = c.step_silent.new.vars in
    let read : c.index_mut-vars.result.now ≡ get_or vs proc [] =
    get_or_read vs proc c.index_mut-vars.result.now c.self.invariant.within.0 c.index_mut-vars.ensures.value [] in
    let size : length new ≡ length (get_or vs proc []) = c.in-Some.ensures.size ∙ ap length read in
    let with_vars : List ℕ → Calls = λ vars. record {
      sizes = map length vs;
      top = frame proc c.in-Some.to vars;
      below = map (frame_of vs) (reverse c.self.inside.callers.items);
    } in
    rw (← c.self.view_is)
    (calls_set vs c.self.inside.top c.self.inside.callers.items _ c.in-Some.to new c.self.invariant size
    ∙ ap with_vars (sym (get_or-set_same vs proc new [] c.self.invariant.within.0)))

pub returns-clause-made : goal.returns-clause-made
returns-clause-made g c =
    let U = stated (λ v. (goal.OpUnit-dyn g v).unit_meaning v.1) c.args.units.now in
    let vs = c.self.inside.variables.items in
    let proc = c.self.inside.top.proc in
    let at = c.self.inside.top.at in
    let to = c.in-Some.to in
    let new = c.step_silent.new.vars in
    let callers = map (frame_of vs) (reverse c.self.inside.callers.items) in
    let step = c.args.step.now in
    let read : c.index_mut-vars.result.now ≡ get_or vs proc [] =
    get_or_read vs proc c.index_mut-vars.result.now c.self.invariant.within.0 c.index_mut-vars.ensures.value [] in
    let size : length new ≡ length (get_or vs proc []) = c.in-Some.ensures.size ∙ ap length read in
    let flat = c.flat_of-flat.result in
    let n = length c.index_mut-vars.result.now in
    let part : said n flat ≡ silent_part step = ap (λ n. said n flat) (sym c.len.ensures) ∙ c.flat_of-flat.ensures.said in
    let one : said n flat ≡ Some step = silent_of step (said n flat) part (sym c.in-Some.ensures.silent) in
    let goes : GoesTo U at to c.index_mut-vars.result.now new c.args.memory.now c.step_silent.new.memory step =
    subst (λ o. IfSome o (GoesTo U at to c.index_mut-vars.result.now new c.args.memory.now c.step_silent.new.memory)) one c.in-Some.ensures.made in
    rw (← c.self.view_is) (λ is p rest output n.
    ap (λ vars. carry_out U p (going proc at vars callers c.args.memory.now rest output n) (frame proc at vars) callers step) (sym read)
    ∙ goes.1 p proc callers rest output n
    ∙ ap (λ calls. state_of Running calls c.step_silent.new.memory rest output n)
    (sym (calls_set vs c.self.inside.top c.self.inside.callers.items _ to new c.self.invariant size)))
