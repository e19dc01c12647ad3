use Rattle.std.proofs.Common.{ℕ, List, ◌++◌, sym, ap, ◌∙◌}
use Rattle.std.specs.Prelude.{codes}
use Rattle.tta_list.proofs.Lists.{then_more}
use Rattle.tta_list.proofs.Results.{onward}
use Rattle.tta_verilog.specs.Expressions.{between, part}
use Rattle.tta_verilog.specs.Circuits.{range, wire_line}
use Rattle.tta_wiring.proofs.Pieces.{two_end}
use Rattle.tta_wiring.proofs.queue.push_passes.Goals as goal

pub returns : goal.returns
unfolding wire_line between
returns c =
    let start = codes "passes = (takes)&&((" in
    let tail = part (codes "tail") 0 c.args.k in
    let same = codes ")==(" in
    let head = part (codes "next_head") 0 c.args.k in
    let end = codes "));\n" in
    let before : List ℕ → List ℕ = λ t. c.args.out.now.items ++ (codes "wire " ++ (range 1 ++ (start ++ t))) in
    onward c.push_text-4.result (λ last.
    then_more _ _ _ (codes "wire ") (range 1 ++ (start ++ (tail ++ (same ++ (head ++ end))))) c.in_ok-push_text.ensures
    (then_more _ _ _ (range 1) (start ++ (tail ++ (same ++ (head ++ end)))) c.in_ok-push_range.ensures
    (then_more _ _ _ start (tail ++ (same ++ (head ++ end))) c.in_ok-push_text-2.ensures
    (then_more _ _ _ tail (same ++ (head ++ end)) c.in_ok-push_address.ensures
    (then_more _ _ _ same (head ++ end) c.in_ok-push_text-3.ensures
    (then_more _ _ _ head end c.in_ok-push_address-2.ensures last)))))
    ∙ ap before (sym (two_end tail same head (codes ")") (codes ")") (codes ";\n")))) c.push_text-4.ensures
