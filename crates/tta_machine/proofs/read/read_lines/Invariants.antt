use Rattle.std.proofs.Common.{◌≡◌, ◌≤◌, ◌+◌, ◌^◌, length}
use Rattle.std.specs.List.{AllByRecursion}
use Rattle.tta_machine.specs.Cited.{lines_of, stated}
use Rattle.tta_parse.proofs.TextNames.{LineNames}
use Rattle.tta_machine.specs.Draft.{nothing}
use Rattle.tta_machine.specs.Text.{take_lines}
use Rattle.tta_machine.specs.Kept.{IsDraft}
use Rattle.tta_machine.proofs.read.read_lines.Given as goal

abbrev pub invariant-loop-words : goal.invariant-loop-words
invariant-loop-words g l =
    let U = stated (λ v. (goal.OpUnit-dyn g v).unit_meaning v.1) l.units in
    record {
      rest : take_lines U (l.line + 1) l.draft l.lines ≡ take_lines U 1 nothing (lines_of l.fn.text);
      kept : IsDraft l.draft;
      names : AllByRecursion LineNames l.lines;
      room : l.line + length l.lines ≤ 2 ^ 24 + 1;
    }

abbrev pub decreases-loop-words : goal.decreases-loop-words
decreases-loop-words g l = length l.lines
