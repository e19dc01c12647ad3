use Rattle.std.proofs.Common.{ℕ, ◌+◌, List, ◌++◌, sym, ap, ◌∙◌}
use Rattle.std.specs.Prelude.{codes}
use Rattle.tta_list.proofs.Lists.{then_more}
use Rattle.tta_list.proofs.Results.{onward}
use Rattle.tta_verilog.specs.Expressions.{between, constant, negated}
use Rattle.tta_verilog.specs.Circuits.{range, wire_line}
use Rattle.tta_wiring.proofs.Pieces.{four_ends}
use Rattle.tta_wiring.proofs.queue.push_unless.Goals as goal

pub returns : goal.returns
unfolding wire_line between negated
returns c =
    let name = c.args.name.now in
    let test = codes " = (!(reset))&&(!((fill)==(" in
    let count = constant (1 + c.args.k) c.args.count in
    let end = codes ")));\n" in
    let before : List ℕ → List ℕ = λ t. c.args.out.now.items ++ (codes "wire " ++ (range 1 ++ (name ++ (test ++ t)))) in
    onward c.push_text-4.result (λ last.
    then_more _ _ _ (codes "wire ") (range 1 ++ (name ++ (test ++ (count ++ end)))) c.in_ok-push_text.ensures
    (then_more _ _ _ (range 1) (name ++ (test ++ (count ++ end))) c.in_ok-push_range.ensures
    (then_more _ _ _ name (test ++ (count ++ end)) c.in_ok-push_text-2.ensures
    (then_more _ _ _ test (count ++ end) c.in_ok-push_text-3.ensures
    (then_more _ _ _ count end
    (c.in_ok-push_constant.ensures ∙ ap (λ (n : ℕ). c.push_text-3.new.out.items ++ constant (1 + n) c.args.count) c.from.ensures) last))))
    ∙ ap before (sym (four_ends count (codes ")") (codes ")") (codes ")") (codes ";\n")))) c.push_text-4.ensures
