use Rattle.std.proofs.Common.{List, ℕ, ◌++◌, sym, ap, ◌∙◌}
use Rattle.tta_list.proofs.Lists.{then_more}
use Rattle.tta_list.proofs.Results.{onward}
use Rattle.tta_rtl.specs.Texts.{wires_text}
use Rattle.tta_trap.specs.Trap.{early_wires}
use Rattle.tta_trap.specs.Watches.{watch_wires}
use Rattle.tta_trap_rtl.specs.Texts.{late_text, trap_wires_text}
use Rattle.tta_trap_rtl.proofs.Wires.{all_text}
use Rattle.tta_trap_rtl.proofs.whole.push_all_wires.Goals as goal

pub returns : goal.returns
returns c =
    let m = c.args.on.now.m.now in
    let n = c.args.words in
    let watches = trap_wires_text m n (watch_wires m) in
    onward c.push_late_wires.result (λ last.
    then_more _ _ _ (wires_text m (early_wires m)) (watches ++ late_text m) c.in_ok-push_early_wires.ensures
    (then_more _ _ _ watches (late_text m) c.in_ok-push_watch_wires.ensures last)
    ∙ ap (λ (t : List ℕ). c.args.out.now.items ++ t) (sym (all_text m n))) c.push_late_wires.ensures
