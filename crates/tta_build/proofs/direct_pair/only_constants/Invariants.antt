use Rattle.std.proofs.Common.{◌≡◌, drop}
use Rattle.tta_build.specs.Cited.{only_constants}
use Rattle.tta_build.proofs.direct_pair.only_constants.Given as goal

abbrev pub invariant-loop-k : goal.invariant-loop-k
invariant-loop-k l = only_constants l.steps ≡ only_constants (drop l.k l.steps)
