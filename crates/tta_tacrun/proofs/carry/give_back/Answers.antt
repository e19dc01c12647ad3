use Rattle.std.proofs.Common.{ap, sym, ◌∙◌}
use Rattle.tta_program.specs.Sequential.{returns as returned}
use Rattle.tta_tacrun.specs.declared.phase.Phase.TheVariants.{Running}
use Rattle.tta_tacrun.specs.Run.{state_of}
use Rattle.tta_tacrun.proofs.carry.give_back.Goals as goal

pub returns-clause-returned : goal.returns-clause-returned
returns-clause-returned c = λ memory rest output steps.
    let s = state_of Running c.args.calls.now memory rest output steps in
    c.take_value.ensures.taken s ∙ sym (ap (λ callers. returned c.args.p.now s callers c.args.value) c.if-not-leave.ensures.left)
