use Rattle.std.proofs.Common.{◌≡◌, ◌+◌, ◌-◌, ◌^◌, ◌≤◌, length}
use Rattle.tta_input.specs.Input.{memory_of, input_of}
use Rattle.tta_input.proofs.Filled.{behind}
use Rattle.tta_input.proofs.read.read_input.Given as goal

-- the lines left go on after the words so far
abbrev pub invariant-loop-line : goal.invariant-loop-line
invariant-loop-line l = record {
  memory : behind l.memory.items (memory_of (l.space - length l.memory.items) l.lines) ≡ input_of l.fn.words l.fn.bytes;
  room : length l.memory.items ≤ l.space;
  few : length l.memory.items + length l.lines ≤ 2 ^ 24;
}

-- each turn takes a line
abbrev pub decreases-loop-line : goal.decreases-loop-line
decreases-loop-line l = length l.lines
