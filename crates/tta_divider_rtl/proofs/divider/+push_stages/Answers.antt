use Rattle.std.proofs.Common.{◌<◌, ◌+◌, ◌-◌, ℕ, List, ◌++◌, sym, ap, ◌∙◌, arith}
use Rattle.std.specs.List.{flat_map}
use Rattle.tta_list.proofs.Lists.{then_more}
use Rattle.tta_list.proofs.Results.{onward}
use Rattle.tta_divider_rtl.specs.Cited.{wire_text, made_by, stage_wires}
use Rattle.tta_divider_rtl.specs.Texts.{divider_names}
use Rattle.tta_divider_rtl.specs.Pieces.{digits_text}
use Rattle.tta_divider_rtl.proofs.Cuts.{stages_more}
use Rattle.tta_divider_rtl.proofs.divider.+push_stages.Goals as goal

pub returns : goal.returns
returns t c =
    let stages = c.args.stages in
    let stage = c.args.stage in
    let some : 0 < c.args.count = omega (arith, c.if-count-eq0.false) in
    let others = flat_map (wire_text divider_names) (stage_wires stages (stage + 1) (c.args.count - 1)) in
    let one = c.in_ok-push_wires_of.ensures ∙ ap (λ (n : ℕ). c.args.out.now.items ++ digits_text stage 0 n) c.made_by.ensures.value in
    onward c.push_stages.result (λ last.
    then_more _ _ _ (digits_text stage 0 (made_by stages stage)) others one last
    ∙ ap (λ (text : List ℕ). c.args.out.now.items ++ text) (sym (stages_more stages stage c.args.count some)))
    c.push_stages.ensures
