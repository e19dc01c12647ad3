use Rattle.std.proofs.Common.{arith, map}
use Rattle.tta_asm.specs.Seen.{placed_seen}
use Rattle.tta_asm.proofs.Cuts.{cut_next}
use Rattle.tta_asm.proofs.pieces.Pieces.skip.Goals as goal

-- a piece more is passed over
pub loop-preserved : goal.loop-preserved
loop-preserved c =
    cut_next (map placed_seen c.next_piece.new.words.items) c.in_ok-next_piece.field-0.close c.in_ok-next_piece.field-0.line c.args.self.now c.loop.self
    c.next_piece.new.self c.loop.counter (omega arith) c.loop.invariant c.in_ok-next_piece.ensures.cut
