use Rattle.std.proofs.Common.{◌≡◌, ◌+◌, ◌-◌, ◌<◌, List, ℕ, OnOk, arith, subst}
use Rattle.std.specs.List.{flat_map, range_with_len}
use Rattle.tta_rtl.specs.Texts.{due_word_text}
use Rattle.tta_rtl.proofs.Pieces.{two}
use Rattle.tta_verilog.proofs.Lists.{one_more}
use Rattle.tta_rtl.proofs.dues.+push_due_words.Goals as goal

pub returns : goal.returns
returns t c =
    let some : 0 < c.args.count = omega arith in
    let f = due_word_text c.args.on.now.m.now c.args.declares c.args.unit in
    subst (λ (r : List ℕ). OnOk c.push_due_words.result (c.push_due_words.new.out.items ≡ r))
    (two c.args.out.now.items (f c.args.delay) (flat_map f (range_with_len (c.args.delay + 1) (c.args.count - 1)))
    (flat_map f (range_with_len c.args.delay c.args.count)) c.push_due_word.new.out.items c.in_ok-push_due_word.ensures
    (one_more f c.args.delay c.args.count some)) c.push_due_words.ensures
