use Rattle.std.proofs.Common.{List, ℕ, ◌++◌, length, map, sym, ap, ◌∙◌}
use Rattle.std.specs.List.{flat_map, enumerate_from}
use Rattle.tta_list.proofs.Lists.{then_more}
use Rattle.tta_list.proofs.Results.{onward}
use Rattle.tta_rtl.specs.Cited.{numbers, Fetched, Port, all_fields, bus_wires, unit_wires}
use Rattle.tta_rtl.specs.Texts.{wires_text}
use Rattle.tta_rtl.proofs.Layouts.{layout_count}
use Rattle.tta_rtl.proofs.Modules.{control_names, wires_parts}
use Rattle.tta_rtl.proofs.whole.push_wires.Goals as goal

pub returns : goal.returns
returns c =
    let on = c.args.on.now in
    let m = on.m.now in
    let old = c.args.out.now.items in
    let fields = wires_text m (map Fetched (all_fields m)) in
    let ports = wires_text m (map Port (numbers (length m.units))) in
    let buses : ℕ → List ℕ = λ n. wires_text m (flat_map bus_wires (numbers n)) in
    let units = wires_text m (flat_map unit_wires (enumerate_from 0 m.units)) in
    let control = wires_text m control_names in
    let had = length on.layout.now.buses in
    onward c.push_control.result (λ last.
    then_more _ _ _ fields (ports ++ (buses had ++ (units ++ control))) c.in_ok-push_fields.ensures
    (then_more _ _ _ ports (buses had ++ (units ++ control)) c.in_ok-push_ports.ensures
    (then_more _ _ _ (buses had) (units ++ control) c.in_ok-push_buses.ensures
    (then_more _ _ _ units control c.in_ok-push_units.ensures last)))
    ∙ ap (λ (n : ℕ). old ++ (fields ++ (ports ++ (buses n ++ (units ++ control))))) (layout_count m on.layout.now on.layout_is)
    ∙ ap (λ (t : List ℕ). old ++ t) (sym (wires_parts m))) c.push_control.ensures
