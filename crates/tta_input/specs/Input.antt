-- The words of an input file, and the memory that they fill.
use Rattle.std.specs.Prelude.{◌≡◌, ℕ, ◌+◌, ◌-◌, Bool, ◌&&◌, ◌==◌, nat_lt, min, if◌then◌else◌, List, map, length, ◌++◌, replicate, Option, Some, None, Result, Ok, Err, ⊤}
use Rattle.std.specs.List.{list_all, prefix_len}
use Rattle.std.specs.Char.{is_ascii_hexdigit}
use Rattle.std.specs.Str.Parse.{digits_value}
use Rattle.tta_input.specs.Lines.{lines_of}
use Rattle.tta_input.specs.declared.error.InputError.{InputError}
use Rattle.tta_input.specs.declared.error.InputError.TheVariants.{Refused, NoMemory}

-- a line is a word: eight hexadecimal digits of either case and nothing else
unfoldable pub is_word : List ℕ → Bool
is_word line = length line == 8 && list_all is_ascii_hexdigit line

-- the word that eight digits write, the most significant digit first
unfoldable pub value_of : List ℕ → ℕ
value_of line = digits_value 16 line

-- a line's word, where it is one
abbrev pub word_of : List ℕ → Option ℕ
word_of line = if is_word line then Some (value_of line) else None

-- how many lines from the start on are words that the space has room for
unfoldable pub words_taken : (space : ℕ) → List (List ℕ) → ℕ
words_taken space lines = min (prefix_len is_word lines) space

-- the memory of a space of so many words: the words of the lines from address 0, and zeros after
-- them; where a line is left over, it is refused and its number reported, counted from 1
unfoldable pub memory_of : (space : ℕ) → List (List ℕ) → Result (List ℕ) ℕ
memory_of space lines =
    if nat_lt (words_taken space lines) (length lines)
    then Err (words_taken space lines + 1)
    else Ok (map value_of lines ++ replicate (space - length lines) 0)

-- the memory that an input file gives, or the line that is refused
unfoldable pub input_of : (space : ℕ) → List ℕ → Result (List ℕ) ℕ
input_of space bytes = memory_of space (lines_of bytes)

-- the words of a file, as many as it has lines, or the first line that is none
abbrev pub stream_of : List ℕ → Result (List ℕ) ℕ
stream_of bytes = input_of (length (lines_of bytes)) bytes

-- what is reported of a file that is no stream; out of memory needs no cause
abbrev pub IsStreamCause : List ℕ → InputError → Type 0
IsStreamCause bytes (Refused line) = stream_of bytes ≡ Err line
IsStreamCause bytes NoMemory = ⊤

-- what is reported of a file that gives no memory; out of memory needs no cause
abbrev pub HasCause : (space : ℕ) → List ℕ → InputError → Type 0
HasCause space bytes (Refused line) = input_of space bytes ≡ Err line
HasCause space bytes NoMemory = ⊤
