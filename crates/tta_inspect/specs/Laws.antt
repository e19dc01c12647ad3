-- What holds of what is told.
use Rattle.std.specs.Prelude.{◌≡◌, ℕ, List, length}
use Rattle.tta_inspect.specs.Cited.{Machine, word_width, Whole, Image, image_bytes}

-- the number of bytes that is told of an image is that of its bytes
abbrev pub ImageSize : Type 0
ImageSize =
    (m : Machine) (digest : List ℕ) (whole : Whole) (bytes : List ℕ) → length digest ≡ 32 → Image m digest whole bytes
    → length bytes ≡ image_bytes (word_width m) (length whole.code.words) (length whole.init)
