use Rattle.std.proofs.Common.{◌+◌, ◌++◌}
use Rattle.std.specs.Prelude.{codes}
use Rattle.tta_list.proofs.Lists.{then_more}
use Rattle.tta_list.proofs.Results.{onward}
use Rattle.tta_verilog.specs.Expressions.{between, choice, constant}
use Rattle.tta_wiring.proofs.registers.push_tail.Goals as goal

pub returns : goal.returns
unfolding between
returns c =
    let before = codes "always @(posedge clk) if ((reset)||(takes)) tail <= " in
    let next = choice (codes "reset") (constant (1 + c.args.k) 0) (between (codes "+") (codes "tail") (constant (1 + c.args.k) 1)) in
    onward c.push_text-2.result (λ last.
    then_more _ _ _ before (next ++ codes ";\n") c.in_ok-push_text.ensures
    (then_more _ _ _ next (codes ";\n") c.in_ok-push_next.ensures last)) c.push_text-2.ensures
