use Rattle.std.proofs.Common.{◌≡◌, get_or, true, sym, subst}
use Rattle.tta_tacrun.specs.Flat.{has_variables}
use Rattle.tta_tacrun.proofs.Rules.{step_there}
use Rattle.std.proofs.Common.{refl, sym}
use Rattle.tta_tacrun.proofs.carry.carry.Goals as goal

pub returns-then-step_silent-clause-carried : goal.returns-then-step_silent-clause-carried
returns-then-step_silent-clause-carried g c = λ rest output steps fed.
    rw (c.if-step_silent.ensures.takes refl) (sym (c.if-step_silent.ensures.made refl c.args.basis.now.p.now rest output steps))

pub step_silent-requires-clause-there : goal.step_silent-requires-clause-there
step_silent-requires-clause-there g c =
    let calls = c.args.calls.now in
    subst (λ sizes. has_variables (get_or sizes calls.top.proc 0) c.args.step.now ≡ true) (sym c.requires.loaded.sizes)
    (step_there c.args.basis.now.p.now c.requires.rules calls.top.proc calls.top.at c.args.step.now c.requires.at)
