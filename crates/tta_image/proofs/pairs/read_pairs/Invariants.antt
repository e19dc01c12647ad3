use Rattle.std.proofs.Common.{◌≡◌, ◌-◌, ◌*◌, drop}
use Rattle.tta_image.specs.Reading.{decoded_pairs}
use Rattle.tta_image.proofs.Walks.{with_front}
use Rattle.tta_image.proofs.pairs.read_pairs.Given as goal

abbrev pub invariant-loop-place : goal.invariant-loop-place
invariant-loop-place l = record {
  rest : l.rest ≡ drop (8 * l.place) l.bytes;
  decoded : with_front l.init (decoded_pairs l.words (l.count - l.place) l.place l.least l.rest) ≡ decoded_pairs l.words l.count 0 0 l.bytes;
}
