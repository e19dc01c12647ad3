use Rattle.std.proofs.Common.{◌++◌, ℕ, List, map, ap, sym, ◌∙◌}
use Rattle.std.specs.Prelude.{◌==◌, ◌&&◌}
use Rattle.std.specs.List.{flat_map, enumerate_from}
use Rattle.tta_hardware.specs.Wires.{ops_of, timed}
use Rattle.tta_list.proofs.Lists.{then_more}
use Rattle.tta_list.proofs.Results.{onward}
use Rattle.tta_rtl.specs.Cited.{constant}
use Rattle.tta_rtl.proofs.Choices.{choices_passed, text_first}
use Rattle.tta_boxed_rtl.specs.Cited.{Expression, Signal, Starts, UnitOp, has_result, kept_result, nothing}
use Rattle.tta_boxed_rtl.specs.Left.{told_by}
use Rattle.tta_boxed_rtl.specs.Texts.{kept_choice}
use Rattle.tta_boxed_rtl.proofs.comings.push_kept_made.Goals as goal

pub returns : goal.returns
unfolding kept_choice
returns c =
    let m = c.args.at.now.on.now.m.now in
    let leaves = told_by c.args.at.now.leaves.now in
    let unit = c.args.unit in
    let latency = c.args.latency in
    let old = c.args.out.now.items in
    let ops = c.ops_at.result.now in
    let made : List (Expression × Expression) =
    map (λ (o : ℕ × UnitOp). (Signal (Starts unit o.0), kept_result m leaves unit o.1)) (timed m unit latency) in
    let line : ℕ × UnitOp → List ℕ = kept_choice m leaves unit latency in
    onward c.push_constant.result (λ last.
    then_more _ _ _ (flat_map line (enumerate_from 0 ops)) (constant 32 0) c.in_ok-push_kept_from.ensures last
    ∙ ap (λ (os : List (ℕ × UnitOp)). old ++ (flat_map line os ++ constant 32 0)) (sym c.ops_at.ensures.all)
    ∙ ap (λ (t : List ℕ). old ++ (t ++ constant 32 0))
    (sym (choices_passed m (λ (o : ℕ × UnitOp). has_result o.1.op && o.1.latency == latency)
    (λ (o : ℕ × UnitOp). Signal (Starts unit o.0)) (λ (o : ℕ × UnitOp). kept_result m leaves unit o.1) (ops_of m unit)))
    ∙ ap (λ (t : List ℕ). old ++ t) (sym (text_first m made nothing))) c.push_constant.ensures
