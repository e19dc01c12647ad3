use Rattle.std.proofs.Common.{◌≤◌, length}
use Rattle.std.proofs.lemmas.List.Elements.{All-same}
use Rattle.tta_arch.proofs.BusSources.{few_ops}
use Rattle.tta_draw.proofs.machine_places.units_of.Goals as goal

pub returns-clause-ops : goal.returns-clause-ops
returns-clause-ops c = All-same (λ u. length u.ops ≤ 256) _ _ c.as_slice.ensures (few_ops c.m.inside.sockets c.m.inside.units c.m.invariant.units)
