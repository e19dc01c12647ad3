use Rattle.std.proofs.Common.{List, refl, subst}
use Rattle.std.proofs.lemmas.Result.{err_from_is_err_and}
use Rattle.tta_build.specs.Cited.{Placed, IsLinked}
use Rattle.tta_build.proofs.Directs.{are_blocks, linked_for, cause_for}
use Rattle.tta_build.proofs.direct.compile_direct.Goals as goal

pub link_placed-requires : goal.link_placed-requires
link_placed-requires c =
    are_blocks c.args.on.now.machine.now c.args.p.now c.in_ok-lowered.lowered c.rules-2.ensures c.requires.direct c.in_ok-lowered.ensures c.rules.ensures
    c.in_ok-planned.planned c.in_ok-planned.ensures c.as_slice.result.now c.as_slice.ensures.value

pub returns-clause-value : goal.returns-clause-value
returns-clause-value c = record {
  pair = c.requires.direct;
  choice = refl;
  lowered = c.in_ok-lowered.ensures;
  planned = c.in_ok-planned.ensures;
  linked = subst (λ (ps : List Placed). IsLinked c.args.on.now.machine.now c.in_ok-code.code ps) c.as_slice.ensures.value c.in_ok-code.ensures.linked;
}

pub returns-clause-code : goal.returns-clause-code
returns-clause-code c u =
    linked_for c.args.on.now.machine.now c.args.p.now c.in_ok-lowered.lowered c.rules-2.ensures c.requires.direct c.in_ok-lowered.ensures c.rules.ensures
    c.in_ok-planned.planned c.in_ok-planned.ensures c.as_slice.result.now c.as_slice.ensures.value c.in_ok-code.code c.in_ok-code.ensures.linked c.in_ok-code.ensures.legal u

pub returns-in_err-code-clause-cause : goal.returns-in_err-code-clause-cause
returns-in_err-code-clause-cause c =
    let error = err_from_is_err_and c.from_residual-in_err-code.result c.from_residual-in_err-code.ensures.1 in
    rw (error.1, error.2) (cause_for c.args.on.now.machine.now c.args.p.now c.in_ok-lowered.lowered c.rules-2.ensures c.requires.direct c.in_ok-lowered.ensures c.rules.ensures
    c.in_ok-planned.planned c.in_ok-planned.ensures c.as_slice.result.now c.as_slice.ensures.value c.in_err-code.field-0.0 c.in_err-code.ensures.cause)
