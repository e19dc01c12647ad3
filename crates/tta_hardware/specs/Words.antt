-- The words of code, and the bits of an image that are these words.
use Rattle.std.specs.Prelude.{◌≡◌, ℕ, ◌-◌, ◌*◌, ◌<◌, ◌^◌, List, ◌++◌, length, map, replicate, slice_get, slice_index, Some}
use Rattle.std.specs.List.{AllByRecursion}
use Rattle.tta_hardware.specs.Cited.{Machine, IsMachine, numbers, word_width, Instruction, IsLegalCode, Image, bits_in, field, word_count, body_in}
use Rattle.tta_code.specs.declared.code.Code.{Code}
use Rattle.tta_code.specs.Whole.{Whole}
use Rattle.tta_hardware.specs.Fields.{word_of}
use Rattle.tta_hardware.specs.Hardware.{code_words}

-- a word among the bits of some bytes
abbrev pub word_in : Machine → (bytes : List ℕ) → (place : ℕ) → ℕ
word_in m bytes place = field (place * word_width m) (word_width m) (bits_in bytes)

-- the words of code as the bytes of an image have them: as many as the header says, so many bits for each
abbrev pub image_words : Machine → (bytes : List ℕ) → List ℕ
image_words m bytes = map (word_in m (body_in bytes)) (numbers (word_count bytes))

-- words with zeros past them, so that there is one for each address of the machine
abbrev pub filled : Machine → List ℕ → List ℕ
filled m words = words ++ replicate (2 ^ m.control.address - length words) 0

-- The words of legal code, once they are filled up: there is one for each address of the machine, none is wider than an instruction, and
-- at the address of each instruction is its word.
pub record HasCode (m : Machine) (code : Code) : Type 0 where
  pub many : length (filled m (code_words m code)) ≡ 2 ^ m.control.address
  pub narrow : AllByRecursion (λ w. w < 2 ^ word_width m) (filled m (code_words m code))
  pub at : (address : ℕ) (i : Instruction) → slice_get code.words address ≡ Some i
      → slice_index (filled m (code_words m code)) address ≡ word_of m i

abbrev pub WordsKept : Type 0
WordsKept = (m : Machine) (code : Code) → IsLegalCode m code → HasCode m code

-- The words of code are read off the bytes of its image. A digest has 32 bytes.
abbrev pub ImageKept : Type 0
ImageKept =
    (m : Machine) (digest : List ℕ) (whole : Whole) (bytes : List ℕ) → IsMachine m → length digest ≡ 32 → Image m digest whole bytes
    → image_words m bytes ≡ code_words m whole.code
