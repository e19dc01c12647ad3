use Rattle.std.proofs.Common.{◌<◌, ◌≤◌, ◌+◌, ◌-◌, ◌*◌}
use Rattle.tta_flight.specs.Rings.{IsAdvanced, nearest}
use Rattle.tta_flight.proofs.region.Region.steps.Given as goal

abbrev pub invariant-words : goal.invariant-words
invariant-words l = record {
  first : l.base < 64 * l.number + 64;
  near : 64 * l.number ≤ l.end + 63;
  advanced : IsAdvanced l.base (nearest l.base l.end (64 * l.number) - l.base) l.fn.self l.self;
}

abbrev pub decreases-words : goal.decreases-words
decreases-words l = l.end + 64 - 64 * l.number
