use Rattle.std.proofs.Common.{◌++◌}
use Rattle.std.specs.Prelude.{codes}
use Rattle.tta_list.proofs.Lists.{then_more}
use Rattle.tta_list.proofs.Results.{onward}
use Rattle.tta_boxed_rtl.specs.Cited.{Boxes, Shows, Trigger, signal_name, text_of}
use Rattle.tta_boxed_rtl.specs.Beside.{first_word, joined_ports}
use Rattle.tta_boxed_rtl.proofs.modules.push_joined_ports.Goals as goal

pub returns : goal.returns
unfolding joined_ports
returns c =
    let m = c.args.on.now.m.now in
    let l = c.args.l in
    let first = text_of m (first_word l.unit l.o) in
    let second = signal_name m (Trigger l.unit) in
    let word = signal_name m (Boxes (Shows l.unit l.op)) in
    let end = codes "));\n" in
    let r3 = codes "), .word(" ++ (word ++ end) in
    let r2 = codes "), .b(" ++ (second ++ r3) in
    onward c.push_text-4.result (λ last.
    then_more _ _ _ (codes " (.clk(clk), .enable(n_goes), .a(") (first ++ r2) c.in_ok-push_text.ensures
    (then_more _ _ _ first r2 c.in_ok-push_first_word.ensures
    (then_more _ _ _ (codes "), .b(") (second ++ r3) c.in_ok-push_text-2.ensures
    (then_more _ _ _ second r3 c.in_ok-push_unit_word.ensures
    (then_more _ _ _ (codes "), .word(") (word ++ end) c.in_ok-push_text-3.ensures
    (then_more _ _ _ word end c.in_ok-push_made_name.ensures last)))))) c.push_text-4.ensures
