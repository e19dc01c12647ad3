use Rattle.std.proofs.Common.{ℕ, true, false, List, ◌++◌, sym, ap, ◌∙◌}
use Rattle.std.specs.List.{flat_map}
use Rattle.std.proofs.lemmas.List.{append-nil}
use Rattle.tta_list.proofs.Lists.{then_more}
use Rattle.tta_list.proofs.Results.{onward}
use Rattle.tta_divider_rtl.specs.Cited.{wire_text, register_text, divider}
use Rattle.tta_divider_rtl.specs.Texts.{divider_names}
use Rattle.tta_divider_rtl.proofs.divider.push_parts.Goals as goal

pub returns : goal.returns
returns c =
    let of = divider c.args.kind c.args.stages in
    let declared = flat_map (register_text divider_names true) of.registers in
    let wires = flat_map (wire_text divider_names) of.wires in
    let next = flat_map (register_text divider_names false) of.registers in
    onward c.push_registers-2.result (λ last.
    then_more _ _ _ declared (wires ++ next) c.in_ok-push_registers.ensures
    (then_more _ _ _ wires next c.in_ok-push_wires.ensures last)
    ∙ ap (λ (text : List ℕ). c.args.out.now.items ++ (declared ++ (wires ++ text))) (sym (append-nil next))) c.push_registers-2.ensures
