use Rattle.std.proofs.Common.{List, ℕ, ◌++◌, true, false, sym, ap, ◌∙◌}
use Rattle.tta_list.proofs.Lists.{then_more}
use Rattle.tta_list.proofs.Results.{onward}
use Rattle.tta_rtl.specs.Cited.{stated, circuit_with, register_names, wire_names}
use Rattle.tta_rtl.specs.Functions.{functions_text}
use Rattle.tta_rtl.specs.Memories.{words_in}
use Rattle.tta_rtl.specs.Module.{memories_text, stores_text}
use Rattle.tta_rtl.specs.Texts.{registers_text, wires_text}
use Rattle.tta_rtl.proofs.Modules.{stores_parts}
use Rattle.tta_rtl.proofs.whole.push_parts.Goals as goal

pub returns : goal.returns
returns g c =
    let core = c.args.core.now in
    let m = core.on.now.m.now in
    let words = words_in m core.body.now core.words in
    let declared = registers_text m true (register_names m) in
    let memories = memories_text m core.rom (circuit_with m words core.first.now) in
    let functions = functions_text (stated (λ v. (goal.OpUnit-dyn g v).unit_meaning v.1) core.units.now) m in
    let wires = wires_text m (wire_names m) in
    let next = registers_text m false (register_names m) in
    let stores = stores_text m in
    let r5 = next ++ stores in
    let r4 = wires ++ r5 in
    let r3 = functions ++ r4 in
    let r2 = memories ++ r3 in
    onward c.push_stores.result (λ last.
    then_more _ _ _ declared r2 c.in_ok-push_registers.ensures
    (then_more _ _ _ memories r3 c.in_ok-push_memories.ensures
    (then_more _ _ _ functions r4 c.in_ok-push_functions.ensures
    (then_more _ _ _ wires r5 c.in_ok-push_wires.ensures
    (then_more _ _ _ next stores c.in_ok-push_registers-2.ensures last))))
    ∙ ap (λ (t : List ℕ). c.args.out.now.items ++ (declared ++ (memories ++ (functions ++ (wires ++ (next ++ t)))))) (sym (stores_parts m words core.first.now)))
    c.push_stores.ensures
