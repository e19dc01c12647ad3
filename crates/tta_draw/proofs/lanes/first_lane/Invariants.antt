use Rattle.std.proofs.Common.{◌≡◌, ◌<◌, ◌-◌}
use Rattle.std.specs.Prelude.{nat_le, slice_index}
use Rattle.tta_draw.specs.Lanes.{first_lane}
use Rattle.tta_draw.proofs.lanes.first_lane.Given as goal

abbrev pub decreases-lanes : goal.decreases-lanes
decreases-lanes l = 16 - l.lane

abbrev pub invariant-lanes : goal.invariant-lanes
invariant-lanes l = record {
  within : l.lane < 16;
  rest : first_lane (λ lane. nat_le (slice_index l.free lane) l.row) (l.lanes - 1 - l.lane) l.lane
      ≡ first_lane (λ lane. nat_le (slice_index l.free lane) l.row) (l.lanes - 1) 0;
}
