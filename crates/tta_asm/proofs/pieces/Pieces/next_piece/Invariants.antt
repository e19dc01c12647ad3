use Rattle.std.proofs.Common.{◌≡◌, ◌+◌, ◌^◌, ◌≤◌, length, map, vec_capacity}
use Rattle.tta_asm.specs.Pieces.{pieces_from}
use Rattle.tta_asm.specs.Seen.{placed_seen}
use Rattle.tta_asm.proofs.pieces.Pieces.next_piece.Given as goal

-- the words so far begin the piece, and what is left of the text goes on from there
abbrev pub invariant-loop-token : goal.invariant-loop-token
invariant-loop-token l = record {
  pieces : pieces_from l.text l.self-inside.line (map placed_seen l.words.items) l.self-inside.scanner.tokens ≡ l.fn.self;
  text : l.self-inside.scanner.text ≡ l.text;
  same : l.self-inside.text.now ≡ l.text;
  few : l.self-inside.line ≤ 2 ^ 24 + 2;
  room : vec_capacity l.fn.words ≤ vec_capacity l.words;
}

-- each turn takes a token
abbrev pub decreases-loop-token : goal.decreases-loop-token
decreases-loop-token l = length l.self-inside.scanner.tokens
