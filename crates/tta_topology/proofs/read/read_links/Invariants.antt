use Rattle.std.proofs.Common.{◌≡◌, ◌≤◌, ◌+◌, ◌^◌, length}
use Rattle.tta_topology.specs.Text.{links_from, links_of}
use Rattle.tta_topology.proofs.read.read_links.Given as goal

abbrev pub invariant-loop-words : goal.invariant-loop-words
invariant-loop-words l = record {
  rest : links_from (l.line + 1) l.feeds.items l.lines ≡ links_of l.cores l.fn.text;
  count : length l.feeds.items ≡ l.cores;
  room : l.line + length l.lines ≤ 2 ^ 24 + 1;
}

abbrev pub decreases-loop-words : goal.decreases-loop-words
decreases-loop-words l = length l.lines
