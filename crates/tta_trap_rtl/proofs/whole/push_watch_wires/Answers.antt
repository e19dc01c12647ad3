use Rattle.std.proofs.Common.{List, ℕ, ◌++◌, length, sym, ap, ◌∙◌}
use Rattle.std.specs.List.{flat_map}
use Rattle.tta_list.proofs.Lists.{then_more}
use Rattle.tta_list.proofs.Results.{onward}
use Rattle.tta_rtl.proofs.Layouts.{layout_count}
use Rattle.tta_trap_rtl.specs.Cited.{numbers}
use Rattle.tta_trap_rtl.specs.Texts.{bus_text, fault_text, unit_text}
use Rattle.tta_trap_rtl.proofs.Wires.{watch_text}
use Rattle.tta_trap_rtl.proofs.whole.push_watch_wires.Goals as goal

pub returns : goal.returns
returns c =
    let on = c.args.on.now in
    let m = on.m.now in
    let old = c.args.out.now.items in
    let buses : ℕ → List ℕ = λ n. flat_map (bus_text m) (numbers n) in
    let units = flat_map (unit_text m) (numbers (length m.units)) in
    let fault = fault_text m c.args.words in
    let had = length on.layout.now.buses in
    onward c.push_fault.result (λ last.
    then_more _ _ _ (buses had) (units ++ fault) c.in_ok-push_bus_watches.ensures
    (then_more _ _ _ units fault c.in_ok-push_unit_watches.ensures last)
    ∙ ap (λ (n : ℕ). old ++ (buses n ++ (units ++ fault))) (layout_count m on.layout.now on.layout_is)
    ∙ ap (λ (t : List ℕ). old ++ t) (sym (watch_text m c.args.words))) c.push_fault.ensures
