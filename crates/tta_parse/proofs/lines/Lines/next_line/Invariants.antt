use Rattle.std.proofs.Common.{◌≡◌, ◌≤◌, length, map, vec_capacity}
use Rattle.tta_parse.specs.Lines.{plain, lines_from}
use Rattle.tta_parse.proofs.lines.Lines.next_line.Given as goal

-- the words so far begin the line, and what is left of the text goes on from there
abbrev pub invariant-loop-token : goal.invariant-loop-token
invariant-loop-token l = record {
  lines : lines_from l.text (map plain l.words.items) l.self-inside.scanner.tokens ≡ l.fn.self;
  text : l.self-inside.scanner.text ≡ l.text;
  same : l.self-inside.text.now ≡ l.text;
  room : vec_capacity l.fn.words ≤ vec_capacity l.words;
}

-- each turn takes a token
abbrev pub decreases-loop-token : goal.decreases-loop-token
decreases-loop-token l = length l.self-inside.scanner.tokens
