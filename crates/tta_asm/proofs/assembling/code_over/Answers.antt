use Rattle.std.proofs.Common.{drop}
use Rattle.tta_asm.specs.Cited.{stated}
use Rattle.tta_asm.specs.Drafts.{draft_seen}
use Rattle.tta_asm.specs.Pieces.{pieces_of}
use Rattle.tta_asm.proofs.LegalCode.{taken_legal}
use Rattle.tta_asm.proofs.assembling.code_over.Goals as goal

-- what was read of all pieces is legal
pub returns-clause-legal : goal.returns-clause-legal
returns-clause-legal g c =
    let U = stated (λ v. (goal.OpUnit-dyn g v).unit_meaning v.1) c.args.target.now.units.now in
    taken_legal U c.args.target.now.machine.now c.args.labels.now (draft_seen c.take_rest.new.draft) (drop c.args.count (pieces_of c.args.text.now))
    (rw (c.in_ok-pieces.ensures.pieces, c.new-draft.ensures) at c.in_ok-take_rest.ensures)
