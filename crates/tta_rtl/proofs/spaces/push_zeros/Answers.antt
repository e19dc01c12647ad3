use Rattle.std.proofs.Common.{ℕ, ◌++◌, ap, ◌∙◌}
use Rattle.std.specs.Prelude.{codes, decimal}
use Rattle.tta_list.proofs.Lists.{then_more}
use Rattle.tta_list.proofs.Results.{onward}
use Rattle.tta_rtl.specs.Cited.{array_zeros, constant}
use Rattle.tta_rtl.proofs.spaces.push_zeros.Goals as goal

pub returns : goal.returns
unfolding array_zeros
returns c =
    let name = c.args.name.now in
    let zeros = codes "[k] = " ++ (constant 32 0 ++ codes ";\n`endif\n") in
    let count = decimal c.args.size in
    onward c.push_text-5.result (λ last.
    then_more _ _ _ (codes "];\ninitial begin\n`ifndef SYNTHESIS\nfor (k = 0; k < ") (count ++ (codes "; k = k + 1) " ++ (name ++ zeros)))
    c.in_ok-push_text.ensures
    (then_more _ _ _ count (codes "; k = k + 1) " ++ (name ++ zeros))
    (c.in_ok-push_number.ensures ∙ ap (λ (n : ℕ). c.push_text.new.out.items ++ decimal n) c.from.ensures)
    (then_more _ _ _ (codes "; k = k + 1) ") (name ++ zeros) c.in_ok-push_text-2.ensures
    (then_more _ _ _ name zeros c.in_ok-push_text-3.ensures
    (then_more _ _ _ (codes "[k] = ") (constant 32 0 ++ codes ";\n`endif\n") c.in_ok-push_text-4.ensures
    (then_more _ _ _ (constant 32 0) (codes ";\n`endif\n") c.in_ok-push_constant.ensures last)))))) c.push_text-5.ensures
