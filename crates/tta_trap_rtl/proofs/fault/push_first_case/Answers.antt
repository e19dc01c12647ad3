use Rattle.std.proofs.Common.{List, ℕ, ◌++◌, sym, ap, ◌∙◌}
use Rattle.tta_circuit.specs.Circuit.{Const}
use Rattle.tta_list.proofs.Lists.{then_more}
use Rattle.tta_list.proofs.Results.{onward}
use Rattle.tta_rtl.specs.Texts.{choices}
use Rattle.tta_rtl.proofs.Choices.{text_first}
use Rattle.tta_trap.specs.Watches.{fault_choices}
use Rattle.tta_trap_rtl.specs.Cited.{constant}
use Rattle.tta_trap_rtl.proofs.fault.push_first_case.Goals as goal

pub returns : goal.returns
returns c =
    let m = c.args.m.now in
    let cases = fault_choices m c.args.words in
    onward c.push_constant.result (λ last.
    then_more _ _ _ (choices m cases) (constant 7 0) c.in_ok-push_cases.ensures last
    ∙ ap (λ (t : List ℕ). c.args.out.now.items ++ t) (sym (text_first m cases (Const 7 0)))) c.push_constant.ensures
