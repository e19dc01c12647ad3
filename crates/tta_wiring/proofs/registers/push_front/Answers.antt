use Rattle.std.proofs.Common.{List, ℕ, ◌++◌, sym, ap, append_assoc, ◌∙◌}
use Rattle.std.specs.Prelude.{codes}
use Rattle.tta_list.proofs.Lists.{then_more}
use Rattle.tta_list.proofs.Results.{onward}
use Rattle.tta_verilog.specs.Expressions.{choice, constant, part, reading}
use Rattle.tta_wiring.proofs.registers.push_front.Goals as goal

pub returns : goal.returns
unfolding choice reading
returns c =
    let start = codes "always @(posedge clk) if (" in
    let one = constant 1 1 in
    let middle = codes ") first <= (passes)?(in_data):words[" in
    let address = part (codes "next_head") 0 c.args.k in
    let before : List ℕ → List ℕ = λ t. c.args.out.now.items ++ (start ++ (one ++ (middle ++ t))) in
    onward c.push_text-3.result (λ last.
    then_more _ _ _ start (one ++ (middle ++ (address ++ codes "];\n"))) c.in_ok-push_text.ensures
    (then_more _ _ _ one (middle ++ (address ++ codes "];\n")) c.in_ok-push_constant.ensures
    (then_more _ _ _ middle (address ++ codes "];\n") c.in_ok-push_text-2.ensures
    (then_more _ _ _ address (codes "];\n") c.in_ok-push_address.ensures last)))
    ∙ ap before (sym (append_assoc address (codes "]") (codes ";\n")))
    ∙ ap (λ (t : List ℕ). c.args.out.now.items ++ (start ++ t))
    (sym (append_assoc one (codes ") ") (codes "first <= (passes)?(in_data):words[" ++ ((address ++ codes "]") ++ codes ";\n")))))
    c.push_text-3.ensures
