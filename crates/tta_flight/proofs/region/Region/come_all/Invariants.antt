use Rattle.std.proofs.Common.{◌≡◌, ◌<◌, ◌≤◌, ◌-◌, ℕ, length, None}
use Rattle.std.specs.Int.{bit_at}
use Rattle.tta_flight.specs.Rings.{HaveCome, later_in}
use Rattle.tta_flight.proofs.region.Region.come_all.Given as goal

abbrev pub invariant-bits : goal.invariant-bits
invariant-bits l = record {
  within : l.at ≤ 64;
  come : HaveCome l.at l.fn.self l.self;
  low : (i : ℕ) → i < l.at → bit_at l.left i ≡ 0;
  some : (i : ℕ) → i < 64 → bit_at l.left i ≡ 1 → i < length l.fn.self.rings;
  still : (unit past : ℕ) → l.at ≤ unit → unit < length l.fn.self.rings → bit_at l.left unit ≡ 0 → later_in l.self unit past ≡ None;
}

abbrev pub decreases-bits : goal.decreases-bits
decreases-bits l = 64 - l.at
