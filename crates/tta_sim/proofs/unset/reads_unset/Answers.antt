use Rattle.std.proofs.Common.{◌∙◌}
use Rattle.tta_sim.proofs.UnsetReads.{or_three, lacks_same}
use Rattle.tta_sim.proofs.unset.reads_unset.Goals as goal

pub returns : goal.returns
returns c = λ m back i decoded.
    or_three _ _ _ _ _ _ _ _ c.writes_lack-writes.ensures c.starts_lack-starts.ensures c.controls_lack-controls.ensures c.either.ensures c.either-2.ensures
    ∙ lacks_same c.args.what _ _ m back i _ decoded
