use Rattle.std.proofs.Common.{◌-◌, ◌++◌}
use Rattle.std.specs.List.{flat_map, enumerate_from, range_with_len}
use Rattle.tta_list.proofs.Lists.{then_more}
use Rattle.tta_list.proofs.Results.{onward}
use Rattle.tta_boxed_rtl.specs.Cited.{KeptOperand, Keeps, longest, due_text, load_text, register_of}
use Rattle.tta_boxed_rtl.specs.Left.{told_by}
use Rattle.tta_boxed_rtl.specs.Texts.{due_line, port_line, unit_lines}
use Rattle.tta_boxed_rtl.proofs.registers.push_unit.Goals as goal

pub returns : goal.returns
unfolding unit_lines
returns c =
    let m = c.args.at.now.on.now.m.now in
    let leaves = told_by c.args.at.now.leaves.now in
    let unit = c.args.unit in
    let d = c.args.declares in
    let delays = range_with_len 1 (longest m unit - 1) in
    let port = port_line m leaves d unit in
    let dues = flat_map (due_text m d unit) delays in
    let words = flat_map (due_line m leaves d unit) delays in
    let loads = flat_map (load_text m d unit) (enumerate_from 0 c.args.u.now.ops) in
    onward c.push_loads.result (λ last.
    then_more _ _ _ (register_of m d (Keeps (KeptOperand unit))) (port ++ (dues ++ (words ++ loads))) c.in_ok-push_operand_port.ensures
    (then_more _ _ _ port (dues ++ (words ++ loads)) c.in_ok-push_port.ensures
    (then_more _ _ _ dues (words ++ loads) c.in_ok-push_all_dues.ensures
    (then_more _ _ _ words loads c.in_ok-push_due_words.ensures last)))) c.push_loads.ensures
