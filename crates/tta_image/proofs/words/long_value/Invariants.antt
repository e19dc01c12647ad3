use Rattle.std.proofs.Common.{◌≡◌, ◌+◌, ◌*◌, ◌≤◌, ◌<◌, ◌^◌, length, drop}
use Rattle.tta_image.specs.Decoding.{bits_in, number_of, taken_bits}
use Rattle.tta_image.proofs.Walks.{widths, number_with}
use Rattle.tta_image.proofs.words.long_value.Given as goal

abbrev pub invariant-loop-bus : goal.invariant-loop-bus
invariant-loop-bus l = record {
  room : l.at + widths (drop l.bus l.layout.buses) ≤ 8 * length l.bytes;
  small : l.value < 2 ^ 32;
  decoded : number_with l.value (taken_bits l.taken l.bus (drop l.bus l.layout.buses) (drop l.at (bits_in l.bytes)))
      ≡ number_of (taken_bits l.taken 0 l.layout.buses (drop l.initial.at (bits_in l.bytes)));
}
