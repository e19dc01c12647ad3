use Rattle.std.proofs.Common.{◌≡◌, ◌-◌, List, ℕ, OnOk, subst}
use Rattle.std.specs.List.{flat_map, enumerate_from, range_with_len}
use Rattle.tta_rtl.specs.Cited.{KeptOperand, KeptPort, Keeps, longest}
use Rattle.tta_rtl.specs.Texts.{due_text, due_word_text, load_text, register_of, unit_registers_text}
use Rattle.tta_rtl.proofs.Pieces.{five}
use Rattle.tta_rtl.proofs.UnitRegisters.{unit_registers_parts}
use Rattle.tta_rtl.proofs.pipes.push_unit.Goals as goal

pub returns : goal.returns
returns c =
    let m = c.args.on.now.m.now in
    let unit = c.args.unit in
    let d = c.args.declares in
    let delays = range_with_len 1 (longest m unit - 1) in
    subst (λ (r : List ℕ). OnOk c.push_loads.result (c.push_loads.new.out.items ≡ r))
    (five c.args.out.now.items (register_of m d (Keeps (KeptOperand unit))) (register_of m d (Keeps (KeptPort unit)))
    (flat_map (due_text m d unit) delays) (flat_map (due_word_text m d unit) delays)
    (flat_map (load_text m d unit) (enumerate_from 0 c.args.u.now.ops)) (unit_registers_text m d (unit, c.args.u.now))
    c.push_operand_port.new.out.items c.push_result_port.new.out.items c.push_all_dues.new.out.items
    c.push_all_due_words.new.out.items c.in_ok-push_operand_port.ensures c.in_ok-push_result_port.ensures
    c.in_ok-push_all_dues.ensures c.in_ok-push_all_due_words.ensures (unit_registers_parts m d unit c.args.u.now))
    c.push_loads.ensures
