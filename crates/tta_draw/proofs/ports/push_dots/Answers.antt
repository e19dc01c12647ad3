use Rattle.std.proofs.Common.{[], if◌then◌else◌}
use Rattle.tta_draw.specs.Cited.{has_bit}
use Rattle.tta_draw.specs.Svg.{dot_text}
use Rattle.tta_draw.specs.MachinePlaces.{bus_y}
use Rattle.tta_draw.proofs.ports.push_dots.Goals as goal
use Rattle.tta_list.proofs.Lists.{number_more}

pub loop-bus-preserved : goal.loop-bus-preserved
loop-bus-preserved c = number_more (λ bus. if has_bit c.args.buses bus then dot_text c.args.class.now c.args.x (bus_y bus) else []) _ _ _ c.loop-bus.bus c.in_ok-push_joint.ensures c.loop-bus.invariant
