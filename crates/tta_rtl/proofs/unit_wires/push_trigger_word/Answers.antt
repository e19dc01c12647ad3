use Rattle.std.proofs.Common.{◌≡◌, List, ℕ, OnOk, subst}
use Rattle.tta_rtl.specs.Cited.{trigger_word, constant, text_of}
use Rattle.tta_rtl.specs.Texts.{triggers}
use Rattle.tta_rtl.proofs.Pieces.{two}
use Rattle.tta_rtl.proofs.UnitWires.{trigger_text}
use Rattle.tta_rtl.proofs.unit_wires.push_trigger_word.Goals as goal

pub returns : goal.returns
returns c =
    let m = c.args.on.now.m.now in
    let ops = c.ops_at.result.now in
    subst (λ (r : List ℕ). OnOk c.push_constant.result (c.push_constant.new.out.items ≡ r))
    (two c.args.out.now.items (triggers m c.args.unit 0 ops) (constant 32 0) (text_of m (trigger_word m c.args.unit))
    c.push_triggers_from.new.out.items c.in_ok-push_triggers_from.ensures (trigger_text m c.args.unit ops c.ops_at.ensures.all))
    c.push_constant.ensures
