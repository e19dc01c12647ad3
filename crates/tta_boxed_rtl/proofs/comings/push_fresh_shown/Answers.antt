use Rattle.std.proofs.Common.{◌++◌, List, ℕ, map, ap, sym, ◌∙◌}
use Rattle.tta_hardware.specs.Chains.{first_of}
use Rattle.tta_hardware.specs.Signals.{HasBegun}
use Rattle.tta_hardware.specs.Wires.{loads, read_word}
use Rattle.tta_list.proofs.Lists.{then_more}
use Rattle.tta_list.proofs.Results.{onward}
use Rattle.tta_rtl.specs.Texts.{fresh_choices}
use Rattle.tta_rtl.proofs.Choices.{text_first}
use Rattle.tta_boxed_rtl.specs.Cited.{Signal, Due, Expression, UnitOp, text_of, shown}
use Rattle.tta_boxed_rtl.specs.Left.{told_by}
use Rattle.tta_boxed_rtl.proofs.comings.push_fresh_shown.Goals as goal

pub returns : goal.returns
returns c =
    let m = c.args.at.now.on.now.m.now in
    let unit = c.args.unit in
    let other : Expression = first_of (shown m (told_by c.args.at.now.leaves.now) unit) (Signal (Due unit 1)) in
    let fresh : List (Expression × Expression) =
    map (λ (o : ℕ × UnitOp). (Signal (HasBegun unit o.0), read_word unit o.0)) (loads m unit 2) in
    onward c.push_shown.result (λ last.
    then_more _ _ _ (fresh_choices m unit 2) (text_of m other) c.in_ok-push_fresh.ensures last
    ∙ ap (λ (t : List ℕ). c.args.out.now.items ++ t) (sym (text_first m fresh other))) c.push_shown.ensures
