use Rattle.std.proofs.Common.{◌≤◌, length}
use Rattle.std.proofs.lemmas.List.Elements.{All-same}
use Rattle.tta_arch.proofs.BusSources.{few_ops}
use Rattle.tta_arch.proofs.codes.all_dests.Goals as goal

pub push_units-requires-clause-ops : goal.push_units-requires-clause-ops
push_units-requires-clause-ops c =
    All-same (λ u. length u.ops ≤ 256) _ _ c.as_slice-2.ensures (few_ops c.m.inside.sockets c.m.inside.units c.m.invariant.units)
