use Rattle.std.proofs.Common.{List, ℕ, [], ◌++◌, sym, ap, ◌∙◌}
use Rattle.tta_list.proofs.Lists.{then_more}
use Rattle.tta_list.proofs.Results.{onward}
use Rattle.tta_rtl.specs.Cited.{KeptRa, Keeps, Pc, HasHalted, Goal, Ends}
use Rattle.tta_hardware.specs.Signals.{Signal as Named, Whole}
use Rattle.tta_rtl.specs.Kept.{fixed, line_of, underways}
use Rattle.tta_rtl.specs.Texts.{registers_text}
use Rattle.tta_rtl.proofs.Texts.{alone}
use Rattle.tta_rtl.proofs.RegisterTexts.{lines_of, registers_append}
use Rattle.tta_rtl.proofs.states.push_states.Goals as goal

pub returns : goal.returns
returns c =
    let m = c.args.on.now.m.now in
    let line : Named → List ℕ = line_of m c.args.declares in
    let before = registers_text m c.args.declares (underways m) in
    let r6 = line Ends ++ [] in
    let r5 = line Goal ++ r6 in
    let r4 = line HasHalted ++ r5 in
    let r3 = line Whole ++ r4 in
    let r2 = line Pc ++ r3 in
    let old = c.args.out.now.items in
    onward c.push_state-2.result (λ last.
    then_more _ _ _ before (line (Keeps KeptRa) ++ r2) c.in_ok-push_underways.ensures
    (then_more _ _ _ (line (Keeps KeptRa)) r2 c.in_ok-push_return.ensures
    (then_more _ _ _ (line Pc) r3 c.in_ok-push_pc.ensures
    (then_more _ _ _ (line Whole) r4 c.in_ok-push_word.ensures
    (then_more _ _ _ (line HasHalted) r5 c.in_ok-push_halted.ensures
    (then_more _ _ _ (line Goal) r6 c.in_ok-push_state.ensures
    (alone _ _ (line Ends) last))))))
    ∙ ap (λ (t : List ℕ). old ++ (before ++ t)) (sym (lines_of m c.args.declares fixed))
    ∙ ap (λ (t : List ℕ). old ++ t) (sym (registers_append m c.args.declares (underways m) fixed))) c.push_state-2.ensures
