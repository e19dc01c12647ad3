use Rattle.std.proofs.Common.{◌≡◌, List, ℕ, OnOk, subst}
use Rattle.tta_rtl.specs.Cited.{KeptPort, Signal, Keeps, fresh, text_of}
use Rattle.tta_rtl.specs.Texts.{fresh_choices}
use Rattle.tta_rtl.proofs.Pieces.{two}
use Rattle.tta_rtl.proofs.Shown.{fresh_or}
use Rattle.tta_rtl.proofs.ports.push_port_word.Goals as goal

pub returns : goal.returns
returns c =
    let m = c.args.on.now.m.now in
    let unit = c.args.unit in
    subst (λ (r : List ℕ). OnOk c.push_unit_word.result (c.push_unit_word.new.out.items ≡ r))
    (two c.args.out.now.items (fresh_choices m unit 1) (text_of m (Signal (Keeps (KeptPort unit))))
    (text_of m (fresh m unit 1 (Signal (Keeps (KeptPort unit))))) c.push_fresh.new.out.items c.in_ok-push_fresh.ensures
    (fresh_or m unit 1 (Signal (Keeps (KeptPort unit))))) c.push_unit_word.ensures
