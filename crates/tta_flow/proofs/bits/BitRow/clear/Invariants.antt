use Rattle.std.proofs.Common.{◌≡◌, ◌<◌, ◌/◌, ℕ, false, length}
use Rattle.tta_flow.specs.Bits.{has}
use Rattle.tta_flow.proofs.bits.BitRow.clear.Given as goal

abbrev pub invariant-loop-at : goal.invariant-loop-at
invariant-loop-at l = record {
  room : length l.self.words.items ≡ length l.initial.self.words.items;
  bits : (k : ℕ) → k / 64 < l.at → has l.self k ≡ false;
}
