-- That an image and its code with data determine each other.
use Rattle.std.specs.Prelude.{◌≡◌, ◌↔◌, ℕ, ◌<◌, true, List, length, Ok}
use Rattle.std.specs.List.{AllByRecursion}
use Rattle.tta_image.specs.Cited.{Machine, IsMachine, Whole, rises, fits, IsLegalCode}
use Rattle.tta_image.specs.Image.{Image}
use Rattle.tta_image.specs.Reading.{decoded_image}

-- legal code with data whose addresses ascend within the data space has an image for every digest
abbrev pub HasImage : Type 0
HasImage =
    (m : Machine) (digest : List ℕ) (whole : Whole)
    → IsLegalCode m whole.code → rises whole.init ≡ true → fits m.data_words whole.init ≡ true → (bytes : List ℕ) × Image m digest whole bytes

-- code with data has at most one image for a machine and a digest
abbrev pub HasOneImage : Type 0
HasOneImage =
    (m : Machine) (digest : List ℕ) (whole : Whole) (bytes bytes' : List ℕ)
    → Image m digest whole bytes → Image m digest whole bytes' → bytes ≡ bytes'

-- bytes are the image of at most one code with data
abbrev pub HasOneCode : Type 0
HasOneCode =
    (m : Machine) (digest : List ℕ) (whole whole' : Whole) (bytes : List ℕ)
    → IsMachine m → Image m digest whole bytes → Image m digest whole' bytes → whole ≡ whole'

-- Bytes are the image of code with data just where they decode to it. So bytes that are refused are no image. A digest has 32
-- bytes.
abbrev pub DecodesImages : Type 0
DecodesImages =
    (m : Machine) (digest : List ℕ) (whole : Whole) (bytes : List ℕ)
    → IsMachine m → length digest ≡ 32 → AllByRecursion (λ b. b < 256) bytes
    → (decoded_image m digest bytes ≡ Ok whole) ↔ Image m digest whole bytes
