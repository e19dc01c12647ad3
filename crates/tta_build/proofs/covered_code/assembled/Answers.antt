use Rattle.std.proofs.Common.{◌≡◌, ℕ, true, Option, sym, ◌∙◌, subst}
use Rattle.std.specs.Prelude.{IfNone}
use Rattle.std.proofs.lemmas.Result.{err_from_is_err_and, IfOk-at_ok, IfErr-at_err}
use Rattle.tta_build.specs.Cited.{stated, IsCause, are_offered}
use Rattle.tta_build.specs.declared.placed_program.Homed.{Homed}
use Rattle.tta_build.specs.declared.value.Assembled.{Assembled}
use Rattle.tta_build.specs.Value.{IsHomedBest}
use Rattle.tta_build.specs.Parts.{IsCodeFor}
use Rattle.tta_build.proofs.Offers.{first_same}
use Rattle.tta_build.proofs.Compiling.{are_blocks, code_for, cause_for, lower_cause}
use Rattle.tta_build.proofs.covered_code.assembled.Goals as goal

pub returns-in-Some-clause-cause : goal.returns-in-Some-clause-cause
returns-in-Some-clause-cause g c =
    let U = stated (λ v. (goal.OpUnit-dyn g v).unit_meaning v.1) c.args.units.now in record {
      other = c.requires.other;
      covered = c.requires.kept;
      first = sym (first_same U c.args.on.now.joined.machine.now c.args.on.now.choice.now c.args.on.now.choice_of c.args.p.now) ∙ sym c.unoffered.ensures.first ∙ c.in-Some.is;
    }

pub link_placed-requires : goal.link_placed-requires
link_placed-requires g c =
    let U = stated (λ v. (goal.OpUnit-dyn g v).unit_meaning v.1) c.args.units.now in
    let m = c.args.on.now.joined.machine.now in
    let choice = c.args.on.now.choice.now in
    let p = c.args.p.now in
    let offered = subst (λ (o : Option ℕ). IfNone o (are_offered U m choice p ≡ true)) c.in_default.is c.unoffered.ensures.offered in
    let best = IfOk-at_ok (λ (r : Homed). IsHomedBest U m choice p c.in_ok-known.known r) c.in_ok-known-2.ensures.other c.homed_best-homed.ensures.best in
    are_blocks U m choice p c.rules.ensures c.requires.over c.args.on.now.choice_of c.rules-2.ensures offered c.in_ok-known.known c.in_ok-known.ensures
    c.in_ok-known-2.homed best c.as_slice.result.now c.as_slice.ensures.value

pub returns-in_err-known-2-clause-cause : goal.returns-in_err-known-2-clause-cause
returns-in_err-known-2-clause-cause g c =
    let U = stated (λ v. (goal.OpUnit-dyn g v).unit_meaning v.1) c.args.units.now in
    let m = c.args.on.now.joined.machine.now in
    let choice = c.args.on.now.choice.now in
    let p = c.args.p.now in
    let supplied = sym (first_same U m choice c.args.on.now.choice_of p) ∙ sym c.unoffered.ensures.first ∙ c.in_default.is in
    let cause = IfErr-at_err (IsCause p m.frame_words) c.in_err-known-2.ensures.failed c.homed_best-homed.ensures.cause in
    let error = err_from_is_err_and c.from_residual-in_err-known-2.result c.from_residual-in_err-known-2.ensures.1 in
    rw (error.1, error.2) (lower_cause U m p c.requires.other c.requires.kept supplied c.in_err-known-2.field-0.0 cause)

pub returns-clause-code : goal.returns-clause-code
returns-clause-code g c =
    let U = stated (λ v. (goal.OpUnit-dyn g v).unit_meaning v.1) c.args.units.now in
    let m = c.args.on.now.joined.machine.now in
    let choice = c.args.on.now.choice.now in
    let p = c.args.p.now in
    let offered = subst (λ (o : Option ℕ). IfNone o (are_offered U m choice p ≡ true)) c.in_default.is c.unoffered.ensures.offered in
    let supplied = sym (first_same U m choice c.args.on.now.choice_of p) ∙ sym c.unoffered.ensures.first ∙ c.in_default.is in
    let best = IfOk-at_ok (λ (r : Homed). IsHomedBest U m choice p c.in_ok-known.known r) c.in_ok-known-2.ensures.other c.homed_best-homed.ensures.best in
    subst (λ (x : Assembled). IsCodeFor U m p x.code) (sym c.gathered.ensures)
    (code_for U m choice p c.rules.ensures c.requires.over c.args.on.now.choice_of c.rules-2.ensures offered c.in_ok-known.known c.in_ok-known.ensures
    c.in_ok-known-2.homed best c.as_slice.result.now c.as_slice.ensures.value c.requires.other c.requires.kept supplied
    c.in_ok-code.code c.in_ok-code.ensures.linked c.in_ok-code.ensures.legal)

pub returns-in_err-code-clause-cause : goal.returns-in_err-code-clause-cause
returns-in_err-code-clause-cause g c =
    let U = stated (λ v. (goal.OpUnit-dyn g v).unit_meaning v.1) c.args.units.now in
    let m = c.args.on.now.joined.machine.now in
    let choice = c.args.on.now.choice.now in
    let p = c.args.p.now in
    let offered = subst (λ (o : Option ℕ). IfNone o (are_offered U m choice p ≡ true)) c.in_default.is c.unoffered.ensures.offered in
    let supplied = sym (first_same U m choice c.args.on.now.choice_of p) ∙ sym c.unoffered.ensures.first ∙ c.in_default.is in
    let best = IfOk-at_ok (λ (r : Homed). IsHomedBest U m choice p c.in_ok-known.known r) c.in_ok-known-2.ensures.other c.homed_best-homed.ensures.best in
    let error = err_from_is_err_and c.from_residual-in_err-code.result c.from_residual-in_err-code.ensures.1 in
    rw (error.1, error.2) (cause_for U m choice p c.rules.ensures c.requires.over c.args.on.now.choice_of c.rules-2.ensures offered c.in_ok-known.known c.in_ok-known.ensures
    c.in_ok-known-2.homed best c.as_slice.result.now c.as_slice.ensures.value c.requires.other c.requires.kept supplied
    c.in_err-code.field-0.0 c.in_err-code.ensures.cause)
