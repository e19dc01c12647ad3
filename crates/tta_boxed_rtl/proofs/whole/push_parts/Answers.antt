use Rattle.std.proofs.Common.{◌++◌, ℕ, List, true, false, sym, ap, ◌∙◌}
use Rattle.std.specs.List.{flat_map}
use Rattle.tta_list.proofs.Lists.{then_more}
use Rattle.tta_list.proofs.Results.{onward}
use Rattle.tta_rtl.specs.Cited.{stated}
use Rattle.tta_rtl.specs.Memories.{words_in}
use Rattle.tta_rtl.specs.Module.{stores_text}
use Rattle.tta_rtl.proofs.Modules.{stores_parts}
use Rattle.tta_boxed_rtl.specs.Cited.{UnitOp}
use Rattle.tta_boxed_rtl.specs.Left.{lefts, told_by}
use Rattle.tta_boxed_rtl.specs.Beside.{module_line, module_lines}
use Rattle.tta_boxed_rtl.specs.Parts.{first_parts, registers_lines, wires_lines}
use Rattle.tta_boxed_rtl.proofs.Parts.{parts_are}
use Rattle.tta_boxed_rtl.proofs.whole.push_parts.Goals as goal

pub returns : goal.returns
returns g c =
    let of = c.args.of.now in
    let core = of.core.now in
    let m = core.on.now.m.now in
    let leaves = told_by of.leaves.now in
    let u = stated (λ v. (goal.OpUnit-dyn g v).unit_meaning v.1) core.units.now in
    let words = words_in m core.body.now core.words in
    let old = c.args.out.now.items in
    let declared = registers_lines m leaves of.faults true in
    let first = first_parts u m core.rom leaves words core.first.now in
    let wires = wires_lines m of.faults core.words in
    let lines : List (ℕ × (ℕ × UnitOp)) → List ℕ = flat_map (module_line u m) in
    let next = registers_lines m leaves of.faults false in
    let stores = stores_text m in
    let r5 = next ++ stores in
    let r4 = lines (lefts of.left.now) ++ r5 in
    let r3 = wires ++ r4 in
    onward c.push_stores.result (λ last.
    then_more _ _ _ declared (first ++ r3) c.in_ok-push_all_registers.ensures
    (then_more _ _ _ first r3 c.in_ok-push_first_parts.ensures
    (then_more _ _ _ wires r4 c.in_ok-push_all.ensures
    (then_more _ _ _ (lines (lefts of.left.now)) r5 c.in_ok-push_module_lines.ensures
    (then_more _ _ _ next stores c.in_ok-push_all_registers-2.ensures last))))
    ∙ ap (λ (ls : List (ℕ × (ℕ × UnitOp))). old ++ (declared ++ (first ++ (wires ++ (lines ls ++ r5))))) of.left_is
    ∙ ap (λ (t : List ℕ). old ++ (declared ++ (first ++ (wires ++ (module_lines u m leaves ++ (next ++ t))))))
    (sym (stores_parts m words core.first.now))
    ∙ ap (λ (t : List ℕ). old ++ t) (sym (parts_are u m core.rom leaves core.words words core.first.now of.faults)))
    c.push_stores.ensures
