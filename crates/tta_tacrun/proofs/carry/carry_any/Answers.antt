use Rattle.std.proofs.Common.{Some, length, refl, ap, ◌∙◌, arith}
use Rattle.std.proofs.lemmas.List.{length-map}
use Rattle.tta_tacrun.specs.Cited.{Proc}
use Rattle.tta_tacrun.proofs.Calling.{met, size_at}
use Rattle.tta_tacrun.proofs.carry.carry_any.Goals as goal

pub enter-requires-clause-there : goal.enter-requires-clause-there
enter-requires-clause-there c =
    let call = met c.args.p.now c.requires.rules c.in-Invoke.d c.in-Invoke.callee c.in-Invoke.args c.args.calls.now.top c.args.calls.now.below
    c.requires.loaded.path (c.requires.at ∙ ap Some c.in-Invoke.is) in
    omega (arith, call.there, ap length c.requires.loaded.sizes, length-map c.args.p.now.procs (λ (q : Proc). q.vars))

pub enter-requires-clause-fresh : goal.enter-requires-clause-fresh
enter-requires-clause-fresh c =
    (met c.args.p.now c.requires.rules c.in-Invoke.d c.in-Invoke.callee c.in-Invoke.args c.args.calls.now.top c.args.calls.now.below
    c.requires.loaded.path (c.requires.at ∙ ap Some c.in-Invoke.is)).fresh

pub enter-requires-clause-fit : goal.enter-requires-clause-fit
enter-requires-clause-fit c =
    let call = met c.args.p.now c.requires.rules c.in-Invoke.d c.in-Invoke.callee c.in-Invoke.args c.args.calls.now.top c.args.calls.now.below
    c.requires.loaded.path (c.requires.at ∙ ap Some c.in-Invoke.is) in
    rw (c.as_slice.ensures.all, c.requires.loaded.sizes) call.fit

pub returns-in-Invoke-clause-carried : goal.returns-in-Invoke-clause-carried
returns-in-Invoke-clause-carried c = λ U memory rest output steps fed.
    rw (c.in-Invoke.is, c.enter.ensures, c.as_slice.ensures.all, c.requires.loaded.sizes, size_at c.args.p.now.procs c.in-Invoke.callee) refl
