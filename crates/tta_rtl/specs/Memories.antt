-- The text of the memories: the bits of code, and where the spaces are written.
use Rattle.std.specs.Prelude.{◌≡◌, ◌≤◌, ◌<◌, ℕ, zero, suc, ◌+◌, ◌-◌, ◌*◌, ◌/◌, ◌%◌, ◌^◌, ◌==◌, Bool, false, if◌then◌else◌, List, [], ◌++◌, map, codes, length, slice_get}
use Rattle.std.specs.List.{flat_map, enumerate_from}
use Rattle.std.specs.Option.{option_map_or}
use Rattle.tta_rtl.specs.Cited.{Machine, Code, code_words, numbers, word_width, bits_in, field, Signal, Const, Both, Below, WritePort, Store, Starts, Goes, Expression, any_of, first_of, nothing, first_line, array_start}
use Rattle.tta_hardware.specs.Signals.{Signal as Named}
use Rattle.tta_rtl.specs.declared.starts.UnitWord.{UnitWord}
use Rattle.tta_rtl.specs.declared.starts.UnitWord.TheVariants as word
use Rattle.tta_rtl.specs.Texts.{unit_word}

-- ---- bits

-- a bit of some bytes, the highest of each byte first
abbrev pub bit_in : (bytes : List ℕ) → (at : ℕ) → Bool
bit_in bytes at = option_map_or (λ b. b / 2 ^ (7 - at % 8) % 2 == 1) (slice_get bytes (at / 8)) false

-- a bit as a digit
abbrev pub digit : Bool → List ℕ
digit b = if b then codes "1" else codes "0"

-- so many bits of bytes, from one on
abbrev pub digits : (bytes : List ℕ) → (at width : ℕ) → List ℕ
digits bytes at zero = []
digits bytes at (suc w) = digit (bit_in bytes at) ++ digits bytes (at + 1) w

-- the words of so many instructions, whose bits stand in some bytes one after another
abbrev pub words_in : Machine → (bytes : List ℕ) → (words : ℕ) → List ℕ
words_in m bytes words = map (λ k. field (k * word_width m) (word_width m) (bits_in bytes)) (numbers words)

-- how many bytes stand before the instructions of an image with so many data
abbrev pub bytes_before : (count : ℕ) → ℕ
bytes_before count = if count == 0 then 48 else 52 + 8 * count

-- Some bytes hold the bits of the words of code, one word after another.
pub record AreCodeBytes (m : Machine) (code : Code) (bytes : List ℕ) : Type 0 where
  pub words : words_in m bytes (length code.words) ≡ code_words m code
  pub inside : length code.words * word_width m ≤ 8 * length bytes
  pub few : 8 * length bytes < 2 ^ 64

-- ---- the spaces

-- the lines of a memory of words that is written
abbrev pub space_text : (name words : List ℕ) → List ℕ
space_text name words =
    array_start name 32 (length words) ++ (flat_map (λ k. first_line name 32 k.0 k.1) (enumerate_from 0 words) ++ codes "end\n")

-- a word of the unit of which one of some operations starts
abbrev pub word_among : UnitWord → List (ℕ × ℕ) → Expression
word_among what places = first_of (map (λ o. (Signal (Starts o.0 o.1), Signal (unit_word what o.0))) places) nothing

-- whether the address of these stores is below a size, and whether one of them starts there
abbrev pub is_inside : (size : ℕ) → List (ℕ × ℕ) → Expression
is_inside size places = Below (word_among word.Operand places) (Const 32 size)

abbrev pub starts_inside : (size : ℕ) → List (ℕ × ℕ) → Expression
starts_inside size places = Both (any_of (map (λ o. Signal (Starts o.0 o.1)) places)) (is_inside size places)

-- where a space of so many words is written by these stores
abbrev pub stored : (size : ℕ) → List (ℕ × ℕ) → WritePort Named Store
stored size places = record {
  enable = Both (Signal Goes) (starts_inside size places);
  address = word_among word.Operand places;
  word = word_among word.Trigger places;
}
