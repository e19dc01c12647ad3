use Rattle.std.proofs.Common.{◌≡◌, ◌+◌, ◌^◌, ◌≤◌, length}
use Rattle.tta_asm.specs.Cited.{stated}
use Rattle.tta_asm.specs.Assembly.{take_pieces}
use Rattle.tta_asm.specs.Drafts.{draft_seen}
use Rattle.tta_asm.proofs.assembling.take_rest.Given as goal

-- the pieces left make of the draft what all pieces make of the one before them
abbrev pub invariant-loop-closed : goal.invariant-loop-closed
invariant-loop-closed g l =
    let U = stated (λ v. (goal.OpUnit-dyn g v).unit_meaning v.1) l.target.units.now in
    record {
      rest : take_pieces U l.target.machine.now l.labels (draft_seen l.draft) l.pieces ≡ take_pieces U l.target.machine.now l.labels (draft_seen l.initial.draft) l.initial.pieces;
      few : length (draft_seen l.draft).words + length l.pieces ≤ 2 ^ 24 + 2;
    }

-- each turn takes a piece
abbrev pub decreases-loop-closed : goal.decreases-loop-closed
decreases-loop-closed g l = length l.pieces
