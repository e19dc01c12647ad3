use Rattle.std.proofs.Common.{ℕ, ◌+◌, ◌++◌, ap, ◌∙◌}
use Rattle.std.specs.Prelude.{codes}
use Rattle.tta_list.proofs.Lists.{then_more}
use Rattle.tta_list.proofs.Results.{onward}
use Rattle.tta_verilog.specs.Expressions.{between}
use Rattle.tta_verilog.specs.Circuits.{range, wire_line}
use Rattle.tta_wiring.proofs.queue.push_fill.Goals as goal

pub returns : goal.returns
unfolding wire_line between
returns c =
    let rest = codes "fill = (tail)-(head);\n" in
    let bits = range (1 + c.args.k) in
    onward c.push_text-2.result (λ last.
    then_more _ _ _ (codes "wire ") (bits ++ rest) c.in_ok-push_text.ensures
    (then_more _ _ _ bits rest (c.in_ok-push_range.ensures ∙ ap (λ (n : ℕ). c.push_text.new.out.items ++ range (1 + n)) c.from.ensures) last))
    c.push_text-2.ensures
