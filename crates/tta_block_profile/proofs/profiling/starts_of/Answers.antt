use Rattle.std.proofs.Common.{◌<◌, ◌^◌, List, sym, subst}
use Rattle.tta_ops.specs.Set.{stated}
use Rattle.tta_moves.specs.declared.items.Placed.{Placed}
use Rattle.tta_link.specs.Blocks.{total_length}
use Rattle.tta_stages.proofs.FewCycles.{few_cycles}
use Rattle.tta_block_profile.proofs.Legal.{stages_legal}
use Rattle.tta_block_profile.proofs.profiling.starts_of.Goals as goal

pub block_starts-requires : goal.block_starts-requires
block_starts-requires g c =
    let on = c.args.on.now in
    let U = stated (λ v. (goal.OpUnit-dyn g v).unit_meaning v.1) on.units.now in
    subst (λ (ps : List Placed). total_length ps < 2 ^ 32) (sym c.as_slice.ensures.value)
    (few_cycles U on.m.now on.p.now on.stages.now c.rules.ensures c.requires)

pub returns-clause-legal : goal.returns-clause-legal
returns-clause-legal g c =
    let on = c.args.on.now in
    let U = stated (λ v. (goal.OpUnit-dyn g v).unit_meaning v.1) on.units.now in
    stages_legal U on.m.now on.p.now on.stages.now c.requires
