use Rattle.std.proofs.Common.{◌≡◌, ◌<◌, ◌≤◌, ◌-◌, ◌%◌, ◌+◌, ◌/◌, ℕ, length, None}
use Rattle.std.specs.Int.{bit_at}
use Rattle.tta_flight.specs.Marked.{AreBits}
use Rattle.tta_flight.specs.Rings.{IsAdvanced, due_in, later_in, nearest}
use Rattle.tta_flight.proofs.region.Region.turn.Given as goal

abbrev pub invariant-bits : goal.invariant-bits
invariant-bits l = record {
  after : l.first ≤ l.at;
  within : l.at ≤ l.first + 64;
  units : length l.self.rings ≡ length l.fn.self.rings;
  advanced : (base end : ℕ) → base ≤ end → AreBits l.number base end l.among
      → IsAdvanced (nearest base end l.first) (nearest base end l.at - nearest base end l.first) l.fn.self l.self;
  low : (i : ℕ) → l.first + i < l.at → bit_at l.left i ≡ 0;
  some : (i : ℕ) → i < 64 → bit_at l.left i ≡ 1 → bit_at l.among i ≡ 1;
  still : (unit past : ℕ) → l.at ≤ unit → unit / 64 ≡ l.number → bit_at l.among (unit % 64) ≡ 1 → bit_at l.left (unit % 64) ≡ 0 → later_in l.self unit past ≡ None;
  over : (unit : ℕ) → l.at ≤ unit → unit / 64 ≡ l.number → bit_at l.among (unit % 64) ≡ 1 → due_in l.self unit 0 ≡ None;
}

abbrev pub decreases-bits : goal.decreases-bits
decreases-bits l = l.first + 64 - l.at
