use Rattle.std.proofs.Common.{List, ℕ, [], ◌++◌}
use Rattle.tta_list.proofs.Lists.{then_more}
use Rattle.tta_list.proofs.Results.{onward}
use Rattle.tta_rtl.proofs.Texts.{alone}
use Rattle.tta_trap_rtl.specs.declared.fault.Case.{Case}
use Rattle.tta_trap_rtl.specs.declared.fault.Case.TheVariants as case
use Rattle.tta_trap_rtl.specs.declared.reads.Lack.TheVariants as lack
use Rattle.tta_trap_rtl.specs.declared.findings.Finding.TheVariants as finding
use Rattle.tta_trap_rtl.specs.Texts.{case_text}
use Rattle.tta_trap_rtl.proofs.fault.push_cases.Goals as goal

pub returns : goal.returns
unfolding case_text
returns c =
    let text : Case → List ℕ = case_text c.args.m.now c.args.words in
    let r5 = text case.Jumps ++ [] in
    let r4 = text (case.Finds finding.Clash) ++ r5 in
    let r3 = text (case.Finds finding.Operand) ++ r4 in
    let r2 = text (case.Lacks lack.Port) ++ r3 in
    let r1 = text (case.Lacks lack.Register) ++ r2 in
    onward c.push_case-6.result (λ last.
    then_more _ _ _ (text case.Outside) r1 c.in_ok-push_case.ensures
    (then_more _ _ _ (text (case.Lacks lack.Register)) r2 c.in_ok-push_case-2.ensures
    (then_more _ _ _ (text (case.Lacks lack.Port)) r3 c.in_ok-push_case-3.ensures
    (then_more _ _ _ (text (case.Finds finding.Operand)) r4 c.in_ok-push_case-4.ensures
    (then_more _ _ _ (text (case.Finds finding.Clash)) r5 c.in_ok-push_case-5.ensures
    (alone _ _ (text case.Jumps) last)))))) c.push_case-6.ensures
