-- How code with data is written as the bytes of an image.
use Rattle.std.specs.Prelude.{◌≡◌, ℕ, ◌<◌, Bool, true, false, List, [], ◌∷◌, ◌++◌, length, replicate, codes}
use Rattle.std.specs.Int.{w32, to_be_bytes}
use Rattle.std.specs.List.{flat_map, AllByRecursion}
use Rattle.tta_image.specs.Cited.{Machine, word_width, Datum, Whole, rises, fits, IsLegalCode}
use Rattle.tta_image.specs.Bits.{bits_of, code_bits}

-- the bytes before the instructions: a mark, the version, the bits of an instruction, how many instructions there are,
-- and the digest of the machine's text
abbrev pub header : Machine → (digest : List ℕ) → (version words : ℕ) → List ℕ
header m digest version words =
    codes "TTAI" ++ (to_be_bytes w32 version ++ (to_be_bytes w32 (word_width m) ++ (to_be_bytes w32 words ++ digest)))

-- the version of an image: 1 without data, and 2 with data
abbrev pub version_of : List Datum → ℕ
version_of [] = 1
version_of (d ∷ ds) = 2

-- a datum: its address and its value
abbrev pub datum_bytes : Datum → List ℕ
datum_bytes d = to_be_bytes w32 d.address ++ to_be_bytes w32 d.value

-- the bytes between the header and the instructions: none without data, and else how many data there are, and each of them
abbrev pub data_section : List Datum → List ℕ
data_section [] = []
data_section (d ∷ ds) = to_be_bytes w32 (length (d ∷ ds)) ++ flat_map datum_bytes (d ∷ ds)

-- the bytes of some bits, the last of them filled up with zero bits
pub record AreBytesOf (bits : List Bool) (bytes : List ℕ) : Type 0 where
  pub are_bytes : AllByRecursion (λ b. b < 256) bytes
  pub filling : ℕ
  pub short : filling < 8
  pub same_bits : flat_map (bits_of 8) bytes ≡ bits ++ replicate filling false

-- the bytes are the image of legal code with data, whose addresses ascend within the data space
pub record Image (m : Machine) (digest : List ℕ) (whole : Whole) (bytes : List ℕ) : Type 0 where
  pub body : List ℕ
  pub parts : bytes ≡ header m digest (version_of whole.init) (length whole.code.words) ++ (data_section whole.init ++ body)
  pub words : AreBytesOf (code_bits m whole.code) body
  pub legal : IsLegalCode m whole.code
  pub rises : rises whole.init ≡ true
  pub fits : fits m.data_words whole.init ≡ true

-- the bytes are the image of nothing
abbrev pub IsNoImage : Machine → (digest bytes : List ℕ) → Type 0
IsNoImage m digest bytes = (whole : Whole) → Image m digest whole bytes → ⊥
