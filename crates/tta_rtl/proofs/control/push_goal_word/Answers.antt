use Rattle.std.proofs.Common.{◌≡◌, List, ℕ, OnOk, codes, subst}
use Rattle.tta_arch.specs.declared.ends.Dest.TheVariants as dest
use Rattle.tta_rtl.specs.Cited.{GoalNow, arrivals, text_of}
use Rattle.tta_hardware.specs.Wires.{made_of}
use Rattle.tta_rtl.specs.Texts.{choices}
use Rattle.tta_rtl.proofs.Pieces.{three}
use Rattle.tta_rtl.proofs.UnitWires.{goal_text}
use Rattle.tta_rtl.proofs.control.push_goal_word.Goals as goal

pub returns : goal.returns
returns c =
    let m = c.args.on.now.m.now in
    subst (λ (r : List ℕ). OnOk c.push_text.result (c.push_text.new.out.items ≡ r))
    (three c.args.out.now.items (choices m (arrivals m dest.Jump)) (choices m (arrivals m dest.Call)) (codes "n_goal")
    (text_of m (made_of m GoalNow)) c.push_arrivals.new.out.items c.push_arrivals-2.new.out.items
    c.in_ok-push_arrivals.ensures c.in_ok-push_arrivals-2.ensures (goal_text m)) c.push_text.ensures
