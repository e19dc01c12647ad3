use Rattle.std.proofs.Common.{◌≡◌, ◌+◌, ◌*◌, ◌≤◌, length, drop}
use Rattle.tta_image.specs.Decoding.{bits_in, decoded_slots}
use Rattle.tta_image.proofs.Walks.{widths, with_front}
use Rattle.tta_image.proofs.words.read_slots.Given as goal

abbrev pub invariant-loop-bus : goal.invariant-loop-bus
invariant-loop-bus l = record {
  room : l.at + widths (drop l.bus l.layout.buses) ≤ 8 * length l.bytes;
  decoded : with_front l.moves (decoded_slots l.m l.word.number l.word.taken l.bus (drop l.bus l.layout.buses) (drop l.at (bits_in l.bytes)))
      ≡ decoded_slots l.m l.word.number l.word.taken 0 l.layout.buses (drop l.initial.at (bits_in l.bytes));
}
