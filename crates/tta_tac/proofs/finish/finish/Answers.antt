-- Each stage reports what it found, or hands on what holds.
use Rattle.std.proofs.Common.{sym, ◌∙◌, ap, subst, length}
use Rattle.tta_tac.specs.Cycles.{IsAcyclic}
use Rattle.tta_tac.specs.Cited.{IsProgram}
use Rattle.tta_tac.specs.Reported.{LeadsBack, MakesProgram}
use Rattle.tta_tac.specs.Draft.{draft_seen, procs_seen}
use Rattle.tta_tac.proofs.Finished.{linked_length, reported_in_passes, told_by_recursion, told_without_main, made_program}
use Rattle.tta_tac.proofs.Seen.{procs_seen_length}
use Rattle.tta_tac.proofs.KeptRules.{keeps_rules}
use Rattle.tta_tac.proofs.finish.finish.Goals as goal

pub returns-in-Err-clause-refused : goal.returns-in-Err-clause-refused
returns-in-Err-clause-refused c = reported_in_passes (draft_seen c.args.draft.now) c.in-Err.error c.in-Err.ensures

pub check_calls-requires : goal.check_calls-requires
check_calls-requires c =
    ap length c.as_slice.ensures
    ∙ linked_length (draft_seen c.args.draft.now) (procs_seen c.args.draft.now.procs) c.in-Ok.procs c.in-Ok.ensures
    ∙ procs_seen_length c.args.draft.now.procs

pub returns-in-Err-check_calls-clause-refused : goal.returns-in-Err-check_calls-clause-refused
returns-in-Err-check_calls-clause-refused c =
    told_by_recursion (draft_seen c.args.draft.now) c.in-Ok.procs c.in-Err-check_calls.error c.in-Ok.ensures
    (subst (λ s. LeadsBack (draft_seen c.args.draft.now) s c.in-Err-check_calls.error) c.as_slice.ensures c.in-Err-check_calls.ensures.refused)

pub invariant_of-result : goal.invariant_of-result
invariant_of-result c =
    subst (λ init. IsProgram (record { procs = c.in-Ok.procs; main = c.in-Some.main; init = init })) (sym c.in_ok-init.ensures) (
    keeps_rules (draft_seen c.args.draft.now) c.in-Ok.procs c.in-Some.main c.requires.kept c.requires.ended c.in-Ok.ensures
    (sym c.in-Some.ensures) (subst (λ s. IsAcyclic s) c.as_slice.ensures c.in-Ok-check_calls.ensures.acyclic))

pub returns-in-Some-clause-made : goal.returns-in-Some-clause-made
returns-in-Some-clause-made c =
    subst (λ init. MakesProgram (draft_seen c.args.draft.now) (record { procs = c.in-Ok.procs; main = c.in-Some.main; init = init })) (sym c.in_ok-init.ensures) (
    made_program (draft_seen c.args.draft.now) c.in-Ok.procs c.in-Some.main c.in-Ok.ensures
    (subst (λ s. IsAcyclic s) c.as_slice.ensures c.in-Ok-check_calls.ensures.acyclic) (sym c.in-Some.ensures))

pub returns-in-None-clause-refused : goal.returns-in-None-clause-refused
returns-in-None-clause-refused c =
    told_without_main (draft_seen c.args.draft.now) c.in-Ok.procs c.code.result c.in-Ok.ensures
    (subst (λ s. IsAcyclic s) c.as_slice.ensures c.in-Ok-check_calls.ensures.acyclic) (sym c.in-None.ensures) c.code.ensures
