use Rattle.std.proofs.Common.{◌≡◌, List, ℕ, OnOk, length, subst}
use Rattle.std.specs.List.{flat_map}
use Rattle.tta_rtl.specs.Cited.{numbers, Trigger, Operand, wire, wire_text, names_of}
use Rattle.tta_rtl.specs.Texts.{start_text, unit_text}
use Rattle.tta_rtl.proofs.Pieces.{three}
use Rattle.tta_rtl.proofs.UnitWires.{unit_parts}
use Rattle.tta_rtl.proofs.unit_wires.push_unit.Goals as goal

pub returns : goal.returns
returns c =
    let m = c.args.on.now.m.now in
    let u = c.args.u.now in
    subst (λ (r : List ℕ). OnOk c.push_operand.result (c.push_operand.new.out.items ≡ r))
    (three c.args.out.now.items (flat_map (start_text m c.args.unit) (numbers (length u.ops)))
    (wire_text (names_of m) (wire m (Trigger c.args.unit))) (wire_text (names_of m) (wire m (Operand c.args.unit)))
    (unit_text m (c.args.unit, u)) c.push_starts.new.out.items c.push_trigger.new.out.items
    c.in_ok-push_starts.ensures c.in_ok-push_trigger.ensures (unit_parts m c.args.unit u))
    c.push_operand.ensures
