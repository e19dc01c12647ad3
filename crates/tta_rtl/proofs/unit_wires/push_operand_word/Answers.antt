use Rattle.std.proofs.Common.{◌≡◌, List, ℕ, OnOk, subst}
use Rattle.tta_arch.specs.declared.ends.Dest.TheVariants as dest
use Rattle.tta_rtl.specs.Cited.{KeptOperand, arrivals, operand_now, place_name, text_of}
use Rattle.tta_rtl.specs.Texts.{choices}
use Rattle.tta_rtl.proofs.Pieces.{two}
use Rattle.tta_rtl.proofs.UnitWires.{operand_text}
use Rattle.tta_rtl.proofs.unit_wires.push_operand_word.Goals as goal

pub returns : goal.returns
returns c =
    let m = c.args.on.now.m.now in
    subst (λ (r : List ℕ). OnOk c.push_unit_word.result (c.push_unit_word.new.out.items ≡ r))
    (two c.args.out.now.items (choices m (arrivals m (dest.Operand c.args.unit))) (place_name m (KeptOperand c.args.unit))
    (text_of m (operand_now m c.args.unit)) c.push_arrivals.new.out.items c.in_ok-push_arrivals.ensures (operand_text m c.args.unit))
    c.push_unit_word.ensures
