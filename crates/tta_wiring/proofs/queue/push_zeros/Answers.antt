use Rattle.std.proofs.Common.{◌++◌}
use Rattle.std.specs.Prelude.{codes, decimal}
use Rattle.tta_list.proofs.Lists.{then_more}
use Rattle.tta_list.proofs.Results.{onward}
use Rattle.tta_verilog.specs.Circuits.{array_zeros}
use Rattle.tta_verilog.specs.Expressions.{constant}
use Rattle.tta_wiring.proofs.queue.push_zeros.Goals as goal

pub returns : goal.returns
unfolding array_zeros
returns c =
    let middle = codes "; k = k + 1) words[k] = " in
    let zero = constant 32 0 in
    let end = codes ";\n`endif\n" in
    onward c.push_text-3.result (λ last.
    then_more _ _ _ (codes "];\ninitial begin\n`ifndef SYNTHESIS\nfor (k = 0; k < ") (decimal c.args.size ++ (middle ++ (zero ++ end)))
    c.in_ok-push_text.ensures
    (then_more _ _ _ (decimal c.args.size) (middle ++ (zero ++ end)) c.in_ok-push_number.ensures
    (then_more _ _ _ middle (zero ++ end) c.in_ok-push_text-2.ensures
    (then_more _ _ _ zero end c.in_ok-push_constant.ensures last)))) c.push_text-3.ensures
