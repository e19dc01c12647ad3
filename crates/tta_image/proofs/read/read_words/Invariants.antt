use Rattle.std.proofs.Common.{◌≡◌, ◌-◌, ◌*◌, drop}
use Rattle.tta_image.specs.Decoding.{bits_in}
use Rattle.tta_image.specs.Reading.{decoded_words}
use Rattle.tta_image.proofs.Walks.{with_front}
use Rattle.tta_image.proofs.read.read_words.Given as goal

abbrev pub invariant-loop-word : goal.invariant-loop-word
invariant-loop-word l = record {
  at : l.at ≡ l.word * l.target.layout.now.width;
  decoded : with_front l.words (decoded_words l.target.machine.now l.target.layout.now (l.count - l.word) l.word (drop l.at (bits_in l.bytes)))
      ≡ decoded_words l.target.machine.now l.target.layout.now l.count 0 (bits_in l.bytes);
}
