use Rattle.std.proofs.Common.{◌≡◌, ◌+◌, ◌^◌, ◌≤◌, length}
use Rattle.tta_input.specs.Lines.{lines_of}
use Rattle.tta_input.proofs.read.count_lines.Given as goal

-- the lines counted and those left are all
abbrev pub invariant-loop-lines : goal.invariant-loop-lines
invariant-loop-lines l = record {
  counted : l.count + length l.lines ≡ length (lines_of l.fn.bytes);
  few : l.count + length l.lines ≤ 2 ^ 24;
}

-- each turn takes a line
abbrev pub decreases-loop-lines : goal.decreases-loop-lines
decreases-loop-lines l = length l.lines
