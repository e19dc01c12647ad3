use Rattle.std.proofs.Common.{length, drop, ◌-◌, ◌≡◌, ◌+◌, ◌^◌, ◌≤◌}
use Rattle.tta_text.specs.Tokens.{tokens_from}
use Rattle.tta_text.proofs.scanning.Scanner.next_token.Given as goal

abbrev pub invariant-loop-self : goal.invariant-loop-self
invariant-loop-self l = record {
  same_text : l.self-inside.text.now ≡ l.fn.self.text;
  within : l.self-inside.at ≤ length l.self-inside.text.now;
  short : length l.self-inside.text.now ≤ 2 ^ 24;
  line : l.self-inside.line ≤ l.self-inside.at + 1;
  left : tokens_from 0 l.self-inside.is_open l.self-inside.line l.self-inside.at (drop l.self-inside.at l.self-inside.text.now)
      ≡ l.fn.self.tokens;
}

abbrev pub decreases-loop-self : goal.decreases-loop-self
decreases-loop-self l = length l.self-inside.text.now - l.self-inside.at
