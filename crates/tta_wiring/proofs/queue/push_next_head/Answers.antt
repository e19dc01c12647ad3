use Rattle.std.proofs.Common.{ℕ, ◌+◌, List, ◌++◌, sym, ap, ◌∙◌}
use Rattle.std.specs.Prelude.{codes}
use Rattle.tta_list.proofs.Lists.{then_more}
use Rattle.tta_list.proofs.Results.{onward}
use Rattle.tta_verilog.specs.Expressions.{between, choice, constant}
use Rattle.tta_verilog.specs.Circuits.{range, wire_line}
use Rattle.tta_wiring.proofs.Pieces.{three_ends}
use Rattle.tta_wiring.proofs.queue.push_next_head.Goals as goal

pub returns : goal.returns
unfolding wire_line between choice
returns c =
    let bits = range (1 + c.args.k) in
    let test = codes "next_head = (gives)?((head)+(" in
    let one = constant (1 + c.args.k) 1 in
    let end = codes ")):head;\n" in
    let before : List ℕ → List ℕ = λ t. c.args.out.now.items ++ (codes "wire " ++ (bits ++ (test ++ t))) in
    onward c.push_text-3.result (λ last.
    then_more _ _ _ (codes "wire ") (bits ++ (test ++ (one ++ end))) c.in_ok-push_text.ensures
    (then_more _ _ _ bits (test ++ (one ++ end))
    (c.in_ok-push_range.ensures ∙ ap (λ (n : ℕ). c.push_text.new.out.items ++ range (1 + n)) c.from.ensures)
    (then_more _ _ _ test (one ++ end) c.in_ok-push_text-2.ensures
    (then_more _ _ _ one end
    (c.in_ok-push_constant.ensures ∙ ap (λ (n : ℕ). c.push_text-2.new.out.items ++ constant (1 + n) 1) c.from-2.ensures) last)))
    ∙ ap before (sym (three_ends one (codes ")") (codes "):head") (codes ";\n")))) c.push_text-3.ensures
