use Rattle.std.proofs.Common.{◌≡◌, ◌++◌, ◌+◌}
use Rattle.std.specs.Prelude.{codes}
use Rattle.std.specs.List.{flat_map}
use Rattle.tta_origins.specs.Cited.{numbers, line_at, count_text}
use Rattle.tta_origins.proofs.lines.push_step_lines.Given as goal

abbrev pub invariant-loop-i : goal.invariant-loop-i
invariant-loop-i l =
    l.out.items ≡ l.initial.out.items ++ flat_map (λ i. count_text (codes " ") (line_at l.p l.b.owner (l.b.first + i))) (numbers l.i)
