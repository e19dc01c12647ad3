use Rattle.std.proofs.Common.{◌≡◌, ◌≤◌, false, length, replicate, drop}
use Rattle.tta_optim.specs.Notes.{wanted_behind}
use Rattle.tta_optim.proofs.wanted.LiveOperands.end.Given as goal

abbrev pub invariant-loop-first : goal.invariant-loop-first
invariant-loop-first l = record {
  within : l.first ≤ length l.live;
  so_far : l.self ≡ wanted_behind (drop l.first l.live) (replicate 641 false);
}

abbrev pub decreases-loop-first : goal.decreases-loop-first
decreases-loop-first l = l.first
