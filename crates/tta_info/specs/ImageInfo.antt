-- What is told of an image.
use Rattle.std.specs.Prelude.{ℕ, ◌+◌, ◌*◌, ◌/◌, ◌%◌, nat_lt, if◌then◌else◌, List, [], ◌∷◌, ◌++◌, length, codes}
use Rattle.std.specs.List.{flat_map}
use Rattle.tta_arch.specs.Machine.{Machine}
use Rattle.tta_arch.specs.Fields.{word_width}
use Rattle.tta_code.specs.Whole.{Whole}
use Rattle.tta_info.specs.Lines.{count_text}

-- how many bytes data have in an image: none without data, else their count and eight for each
abbrev pub data_bytes : (count : ℕ) → ℕ
data_bytes count = if nat_lt 0 count then 4 + 8 * count else 0

-- how many bytes the image of so many words of some bits has, with so many data
abbrev pub image_bytes : (bits words count : ℕ) → ℕ
image_bytes bits words count = 48 + data_bytes count + (bits * words + 7) / 8

-- a digit of a number to the base 16
abbrev pub digit : ℕ → ℕ
digit n = if nat_lt n 10 then 48 + n else 87 + n

-- a byte as two digits
abbrev pub hex_byte : ℕ → List ℕ
hex_byte b = digit (b / 16) ∷ digit (b % 16) ∷ []

-- the words, bytes and data of an image, and the digest of its machine's text
unfoldable pub sizes_text : (bits words count : ℕ) → List ℕ
sizes_text bits words count =
    count_text (codes "words ") words
    ++ (count_text (codes "\nbytes ") (image_bytes bits words count) ++ (count_text (codes "\ndata ") count ++ codes "\n"))

-- a digest as digits
unfoldable pub digest_text : (digest : List ℕ) → List ℕ
digest_text digest = codes "digest " ++ (flat_map hex_byte digest ++ codes "\n")

-- all that is told of an image
unfoldable pub info_of_image : Machine → (digest : List ℕ) → Whole → List ℕ
info_of_image m digest whole = sizes_text (word_width m) (length whole.code.words) (length whole.init) ++ digest_text digest
