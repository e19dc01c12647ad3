use Rattle.std.proofs.Common.{◌≡◌, map, take}
use Rattle.tta_build.specs.Data.{datum_in}
use Rattle.tta_build.proofs.data_order.data_in.Given as goal

abbrev pub invariant-loop-d : goal.invariant-loop-d
invariant-loop-d l = l.data.items ≡ map datum_in (take l.d-index l.init)
