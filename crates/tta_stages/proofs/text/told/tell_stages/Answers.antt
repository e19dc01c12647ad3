use Rattle.std.proofs.Common.{◌<◌, ◌^◌, List, sym, subst}
use Rattle.tta_stages.specs.Cited.{stated, Placed, total_length}
use Rattle.tta_stages.proofs.FewCycles.{few_cycles}
use Rattle.tta_stages.proofs.text.told.tell_stages.Goals as goal

pub block_starts-requires : goal.block_starts-requires
block_starts-requires g c =
    let U = stated (λ v. (goal.OpUnit-dyn g v).unit_meaning v.1) c.args.units.now in
    subst (λ (ps : List Placed). total_length ps < 2 ^ 32) (sym c.as_slice.ensures.value)
    (few_cycles U c.args.m.now c.args.p.now c.args.stages.now c.rules.ensures c.requires.stages)
