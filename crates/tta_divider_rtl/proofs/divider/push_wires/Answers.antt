use Rattle.std.proofs.Common.{◌+◌, ℕ, List, [], ◌∷◌, ◌++◌, sym, ap, ◌∙◌}
use Rattle.std.specs.Prelude.{codes}
use Rattle.std.specs.List.{flat_map}
use Rattle.std.proofs.lemmas.Grind.{flat_map-append}
use Rattle.std.proofs.lemmas.List.{append-nil}
use Rattle.tta_list.proofs.Lists.{then_more}
use Rattle.tta_list.proofs.Results.{onward}
use Rattle.tta_divider_rtl.specs.Cited.{expression, wire_line, wire_text, wire, Shown, stage_wires, stage_cut, shown_of}
use Rattle.tta_divider_rtl.specs.Texts.{divider_names}
use Rattle.tta_divider_rtl.proofs.divider.push_wires.Goals as goal

pub returns : goal.returns
returns c =
    let stages = c.args.stages in
    let word = shown_of c.args.kind (stage_cut stages stages) in
    let before = stage_wires stages 0 (stages + 1) in
    let one = flat_map (wire_text divider_names) before in
    let shown = wire_line (codes "n_word") 32 (expression divider_names word) in
    onward c.push_shown.result (λ last.
    then_more _ _ _ one shown c.in_ok-push_stages.ensures last
    ∙ ap (λ (text : List ℕ). c.args.out.now.items ++ (one ++ text)) (sym (append-nil shown))
    ∙ ap (λ (text : List ℕ). c.args.out.now.items ++ text)
    (sym (flat_map-append (wire_text divider_names) before (wire Shown 32 word ∷ [])))) c.push_shown.ensures
