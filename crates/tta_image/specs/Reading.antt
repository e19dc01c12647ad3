-- What the bytes of an image decode to.
use Rattle.std.specs.Prelude.{ℕ, zero, suc, ◌+◌, ◌*◌, ◌/◌, ◌^◌, ◌==◌, Bool, not, ◌&&◌, ◌||◌, if◌then◌else◌, nat_le, nat_lt, nat_eq, List, [], ◌∷◌, length, take, drop, Result, Ok, codes}
use Rattle.std.specs.Int.{w32, to_be_bytes, from_be_bytes}
use Rattle.std.specs.List.{list_any, starts_with}
use Rattle.tta_image.specs.Cited.{refuse_if, Layout, Machine, word_width, layout_of, Instruction, Datum, Whole, is_legal}
use Rattle.tta_parse.specs.Steps.{◌>>=◌}
use Rattle.tta_image.specs.declared.refusal.ImageError.{ImageError}
use Rattle.tta_image.specs.declared.refusal.ImageRefusal.TheVariants.{Magic, Version, WrongMachine, Width, Length, Illegal, Padding, Data}
use Rattle.tta_image.specs.Decoding.{bits_in, decoded_instruction}
use Rattle.tta_image.specs.Refusals.{of_all, of_word}

-- ---- the header

-- whether the bytes hold a piece after so many bytes; bytes that are missing are wrong ones
abbrev pub stands_at : (at : ℕ) → (piece bytes : List ℕ) → Bool
stands_at at piece bytes = starts_with nat_eq (drop at bytes) piece

-- whether the version is that of images with data
abbrev pub has_data : List ℕ → Bool
has_data bytes = stands_at 4 (to_be_bytes w32 2) bytes

-- whether the version is one of the two
abbrev pub is_version : List ℕ → Bool
is_version bytes = stands_at 4 (to_be_bytes w32 1) bytes || has_data bytes

-- how many data the bytes after the header say
abbrev pub data_told : List ℕ → ℕ
data_told bytes = from_be_bytes w32 (take 4 (drop 48 bytes))

-- how many bytes the data take
abbrev pub section_length : List ℕ → ℕ
section_length bytes = if has_data bytes then 4 + 8 * data_told bytes else 0

-- how many bytes so many bits take
abbrev pub bytes_for : ℕ → ℕ
bytes_for bits = (bits + 7) / 8

-- how many words a header says
abbrev pub word_count : List ℕ → ℕ
word_count bytes = from_be_bytes w32 (take 4 (drop 12 bytes))

-- whether the machine has an address for each of so many words, and the bytes are just those of the header, the data and
-- the words; where there are to be data, their number has to be there
abbrev pub has_length : Machine → (bytes : List ℕ) → (words : ℕ) → Bool
has_length m bytes words =
    nat_le words (2 ^ m.control.address) && (not (has_data bytes) || nat_le 52 (length bytes))
    && length bytes == 48 + section_length bytes + bytes_for (words * word_width m)

-- the number of words, or the first refusal of the header
unfoldable pub decoded_header : Machine → (digest bytes : List ℕ) → Result ℕ ImageError
decoded_header m digest bytes =
    refuse_if (not (stands_at 0 (codes "TTAI") bytes)) (of_all Magic) (
    refuse_if (not (is_version bytes)) (of_all Version) (
    refuse_if (not (stands_at 16 digest bytes)) (of_all WrongMachine) (
    refuse_if (not (stands_at 8 (to_be_bytes w32 (word_width m)) bytes)) (of_all Width) (
    refuse_if (not (has_length m bytes (word_count bytes))) (of_all Length) (
    Ok (word_count bytes))))))

-- ---- the data

-- the datum that bytes begin with
abbrev pub datum_in : List ℕ → Datum
datum_in bytes = record { address = from_be_bytes w32 (take 4 bytes); value = from_be_bytes w32 (take 4 (drop 4 bytes)) }

-- so many data from this one on, whose addresses ascend from a least one on in a data space of so many words
abbrev pub decoded_pairs : (words count place least : ℕ) → List ℕ → Result (List Datum) ImageError
decoded_pairs words zero place least bytes = Ok []
decoded_pairs words (suc count) place least bytes =
    refuse_if (nat_lt (datum_in bytes).address least || nat_le words (datum_in bytes).address) (of_word place Data 0) (
    decoded_pairs words count (place + 1) ((datum_in bytes).address + 1) (drop 8 bytes) >>= λ ds. Ok (datum_in bytes ∷ ds))

-- the data of an image, at least one where its version is that of images with data
abbrev pub decoded_data : Machine → List ℕ → Result (List Datum) ImageError
decoded_data m bytes =
    if has_data bytes
    then refuse_if (data_told bytes == 0) (of_all Data) (decoded_pairs m.data_words (data_told bytes) 0 0 (drop 52 bytes))
    else Ok []

-- ---- the words

-- the instruction that bits begin with, where its fields have a meaning and it is legal
abbrev pub decoded_word : Machine → Layout → (word : ℕ) → List Bool → Result Instruction ImageError
decoded_word m l word bits = decoded_instruction m l word bits >>= λ i. refuse_if (not (is_legal m i)) (of_word word Illegal 0) (Ok i)

-- the instructions of so many words from this one on, after which only zero bits may fill up the last byte
abbrev pub decoded_words : Machine → Layout → (count word : ℕ) → List Bool → Result (List Instruction) ImageError
decoded_words m l zero word bits = refuse_if (list_any (λ b. b) bits) (of_all Padding) (Ok [])
decoded_words m l (suc count) word bits =
    decoded_word m l word bits >>= λ i.
    decoded_words m l count (word + 1) (drop l.width bits) >>= λ is. Ok (i ∷ is)

-- the whole of these words and data
abbrev pub whole_of : List Datum → List Instruction → Whole
whole_of init words = record { code = record { words = words }; init = init }

-- the bytes after the data, which are those of the words
abbrev pub body_in : List ℕ → List ℕ
body_in bytes = drop (48 + section_length bytes) bytes

-- The code of an image with its data, or the first refusal of the bytes: of the header in the order of its checks, then of
-- the data one by one, then word by word, then of the bits that fill up the last byte.
unfoldable pub decoded_image : Machine → (digest bytes : List ℕ) → Result Whole ImageError
decoded_image m digest bytes =
    decoded_header m digest bytes >>= λ count.
    decoded_data m bytes >>= λ init.
    decoded_words m (layout_of m) count 0 (bits_in (body_in bytes)) >>= λ words. Ok (whole_of init words)
