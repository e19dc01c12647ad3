use Rattle.std.proofs.Common.{[], if◌then◌else◌}
use Rattle.std.specs.Prelude.{codes}
use Rattle.tta_draw.specs.Cited.{has_bit}
use Rattle.tta_draw.specs.Svg.{box_text}
use Rattle.tta_draw.specs.CodePlaces.{cell_frame}
use Rattle.tta_draw.proofs.cells.push_all_taken.Goals as goal
use Rattle.tta_list.proofs.Lists.{number_more}

pub loop-bus-preserved : goal.loop-bus-preserved
loop-bus-preserved c = number_more (λ bus. if has_bit c.args.buses bus then box_text (codes "taken") (cell_frame c.args.sizes c.args.row bus) else []) _ _ _ c.loop-bus.bus c.in_ok-push_taken.ensures c.loop-bus.invariant
