use Rattle.std.proofs.Common.{◌≡◌, ◌+◌, ◌*◌, ◌<◌, ◌^◌, ◌==◌, ◌&&◌, ℕ, nat_lt, length, if◌then◌else◌, slice_index}
use Rattle.tta_profile.specs.Cited.{has_bit}
use Rattle.tta_profile.proofs.counts.add_buses.Given as goal

abbrev pub invariant-loop-bus : goal.invariant-loop-bus
invariant-loop-bus l = record {
  size : length l.counts.items ≡ length l.initial.counts.items;
  ones : ((b : ℕ) → b < 16 → slice_index l.initial.counts.items (16 * l.address + b) < 2 ^ 63) → (a b : ℕ) → b < 16
      → slice_index l.counts.items (16 * a + b)
      ≡ slice_index l.initial.counts.items (16 * a + b) + (if a == l.address && (nat_lt b l.bus && has_bit l.stopped b) then 1 else 0);
}
