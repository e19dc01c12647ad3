use Rattle.std.proofs.Common.{◌≡◌, ℕ, List, ◌+◌, ◌-◌, [], length, map, reverse, get_or, ap, sym, ◌∙◌, subst}
use Rattle.std.proofs.lemmas.List.{get_or_read, get_or-set_same}
use Rattle.tta_tacrun.specs.Cited.{iterate, stated, next}
use Rattle.tta_tacrun.specs.Calls.{Calls, frame_of}
use Rattle.tta_tacrun.specs.declared.phase.Phase.TheVariants.{Running}
use Rattle.tta_tacrun.specs.declared.flat.FlatStep.{FlatStep}
use Rattle.tta_tacrun.specs.declared.flat_proc.FlatProc.{FlatProc}
use Rattle.tta_tacrun.specs.Code.{said_proc}
use Rattle.tta_tacrun.specs.Flat.{said}
use Rattle.tta_tacrun.specs.Run.{AreSilentOf, HasSteps, frame, going, state_of}
use Rattle.tta_tacrun.proofs.Kept.{calls_set, length_at}
use Rattle.tta_tacrun.proofs.calls.Calls.run_silent.Goals as goal

-- what the steps of a procedure say, as the loop reads them
said_as : (f : FlatProc) (n : ℕ) (steps : List FlatStep) → f.size ≡ n → steps ≡ f.steps.items → (said_proc f).steps ≡ map (said n) steps
said_as f n steps wide same = ap (λ n. map (said n) f.steps.items) wide ∙ ap (map (said n)) (sym same)

pub returns-clause-top : goal.returns-clause-top
returns-clause-top g c =
    let vs = c.self.inside.variables.items in
    let proc = c.self.inside.top.proc in
    let new = c.run_silent.new.vars in
    let read : c.index_mut-vars.result.now ≡ get_or vs proc [] =
    get_or_read vs proc c.index_mut-vars.result.now c.self.invariant.within.0 c.index_mut-vars.ensures.value [] in
    let size : length new ≡ length (get_or vs proc []) = c.run_silent.ensures.size ∙ ap length read in
    let with_vars : List ℕ → Calls = λ vars. record {
      sizes = map length vs;
      top = frame proc c.run_silent.new.leg.at vars;
      below = map (frame_of vs) (reverse c.self.inside.callers.items);
    } in
    rw (← c.self.view_is)
    (calls_set vs c.self.inside.top c.self.inside.callers.items _ c.run_silent.new.leg.at new c.self.invariant size
    ∙ ap with_vars (sym (get_or-set_same vs proc new [] c.self.invariant.within.0)))

pub run_silent-requires-clause-silent : goal.run_silent-requires-clause-silent
run_silent-requires-clause-silent g c =
    let vs = c.self.inside.variables.items in
    let proc = c.self.inside.top.proc in
    let read : c.index_mut-vars.result.now ≡ get_or vs proc [] =
    get_or_read vs proc c.index_mut-vars.result.now c.self.invariant.within.0 c.index_mut-vars.ensures.value [] in
    let wide : c.args.flat.now.size ≡ length c.index_mut-vars.result.now =
    (rw (← c.self.view_is) at c.requires.size) ∙ length_at vs proc ∙ ap length (sym read) in
    subst (AreSilentOf c.args.basis.now.p.now proc)
    (said_as c.args.flat.now (length c.index_mut-vars.result.now) c.as_slice-steps.result.now wide c.as_slice-steps.ensures.value)
    (rw (← c.self.view_is) at c.requires.silent)

pub run_silent-requires-clause-all : goal.run_silent-requires-clause-all
run_silent-requires-clause-all g c =
    subst (λ steps. HasSteps c.args.basis.now.p.now c.self.inside.top.proc (length steps)) (sym c.as_slice-steps.ensures.value)
    (rw (← c.self.view_is) at c.requires.all)

pub run_silent-requires-clause-placed : goal.run_silent-requires-clause-placed
run_silent-requires-clause-placed g c = rw (← c.self.view_is) at c.requires.placed

pub returns-clause-made : goal.returns-clause-made
returns-clause-made g c =
    let U = stated (λ v. (goal.OpUnit-dyn g v).unit_meaning v.1) c.args.basis.now.units.now in
    let p = c.args.basis.now.p.now in
    let vs = c.self.inside.variables.items in
    let proc = c.self.inside.top.proc in
    let at = c.self.inside.top.at in
    let new = c.run_silent.new.vars in
    let callers = map (frame_of vs) (reverse c.self.inside.callers.items) in
    let k = c.args.most - c.run_silent.new.leg.left in
    let read : c.index_mut-vars.result.now ≡ get_or vs proc [] =
    get_or_read vs proc c.index_mut-vars.result.now c.self.invariant.within.0 c.index_mut-vars.ensures.value [] in
    let size : length new ≡ length (get_or vs proc []) = c.run_silent.ensures.size ∙ ap length read in
    rw (← c.self.view_is) (λ rest output n.
    ap (λ vars. iterate k (next U p) (going proc at vars callers c.args.memory.now rest output n)) (sym read)
    ∙ c.run_silent.ensures.made callers rest output n
    ∙ ap (λ calls. state_of Running calls c.run_silent.new.memory rest output (n + k))
    (sym (calls_set vs c.self.inside.top c.self.inside.callers.items _ c.run_silent.new.leg.at new c.self.invariant size)))

pub returns-clause-placed : goal.returns-clause-placed
returns-clause-placed g c = rw (← c.self.view_is) c.run_silent.ensures.placed
