use Rattle.std.proofs.Common.{ℕ, ◌+◌, ◌++◌, ap, ◌∙◌}
use Rattle.std.specs.Prelude.{codes}
use Rattle.tta_list.proofs.Lists.{number_more}
use Rattle.tta_origins.specs.Cited.{line_at, count_text}
use Rattle.tta_origins.proofs.lines.push_step_lines.Goals as goal

pub loop-i-preserved : goal.loop-i-preserved
loop-i-preserved c =
    let put = c.in_ok-push_count.ensures ∙ ap (λ (n : ℕ). c.loop-i.out.items ++ count_text (codes " ") n) (c.from.ensures ∙ c.line_at-line.ensures) in
    number_more (λ i. count_text (codes " ") (line_at c.args.p.now c.args.b.owner (c.args.b.first + i))) _ _ _ c.loop-i.i put c.loop-i.invariant
