use Rattle.std.proofs.Common.{◌≡◌, drop}
use Rattle.tta_draw.specs.Results.{longest}
use Rattle.tta_draw.proofs.results.longest.Given as goal

abbrev pub invariant-loop-o : goal.invariant-loop-o
invariant-loop-o l = longest l.most (drop l.o-index l.ops) ≡ longest 1 l.ops
