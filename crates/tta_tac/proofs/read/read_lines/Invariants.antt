use Rattle.std.proofs.Common.{◌≡◌, ◌≤◌, ◌+◌, ◌^◌, length}
use Rattle.tta_tac.specs.Cited.{lines_of, stated}
use Rattle.tta_tac.specs.Draft.{nothing, draft_seen}
use Rattle.tta_tac.specs.DraftRules.{IsDraft}
use Rattle.tta_tac.specs.Text.{take_lines}
use Rattle.tta_tac.proofs.read.read_lines.Given as goal

abbrev pub invariant-loop-words : goal.invariant-loop-words
invariant-loop-words g l =
    let U = stated (λ v. (goal.OpUnit-dyn g v).unit_meaning v.1) l.units in
    record {
      rest : take_lines U (l.line + 1) (draft_seen l.draft) l.lines ≡ take_lines U 1 nothing (lines_of l.fn.text);
      kept : IsDraft (draft_seen l.draft);
      room : l.line + length l.lines ≤ 2 ^ 24 + 1;
    }

abbrev pub decreases-loop-words : goal.decreases-loop-words
decreases-loop-words g l = length l.lines
