use Rattle.std.proofs.Common.{◌≡◌, ◌+◌, List, ℕ, OnOk, subst}
use Rattle.tta_rtl.specs.Cited.{Signal, Due, fresh, text_of}
use Rattle.tta_rtl.specs.Texts.{fresh_choices}
use Rattle.tta_rtl.proofs.Pieces.{two}
use Rattle.tta_rtl.proofs.Shown.{fresh_or}
use Rattle.tta_rtl.proofs.coming.push_due_now.Goals as goal

pub returns : goal.returns
returns c =
    let m = c.args.on.now.m.now in
    let delay = c.args.delay in
    subst (λ (r : List ℕ). OnOk c.push_op_word.result (c.push_op_word.new.out.items ≡ r))
    (two c.args.out.now.items (fresh_choices m c.args.unit (delay + 1)) (text_of m (Signal (Due c.args.unit delay)))
    (text_of m (fresh m c.args.unit (delay + 1) (Signal (Due c.args.unit delay)))) c.push_fresh.new.out.items c.in_ok-push_fresh.ensures
    (fresh_or m c.args.unit (delay + 1) (Signal (Due c.args.unit delay)))) c.push_op_word.ensures
