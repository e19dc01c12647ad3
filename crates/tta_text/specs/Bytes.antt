-- The classes of bytes that tokens are made of.
use Rattle.std.specs.Prelude.{ℕ, Bool, false, ◌||◌, ◌==◌, not, List, [], ◌∷◌, codes}
use Rattle.std.specs.List.{prefix_len, list_any}
use Rattle.std.specs.Char.{is_ascii_digit, is_ascii_alphabetic, is_ascii_alphanumeric}

-- a letter or '_', with which names begin
abbrev pub is_name_start : ℕ → Bool
is_name_start byte = is_ascii_alphabetic byte || byte == 95

-- a letter, a digit or '_', which go on in names and numbers
abbrev pub is_word_byte : ℕ → Bool
is_word_byte byte = is_ascii_alphanumeric byte || byte == 95

-- a space, a tab or a carriage return
abbrev pub is_blank : ℕ → Bool
is_blank byte = byte == 32 || byte == 9 || byte == 13

-- the byte that ends a line
abbrev pub is_newline : ℕ → Bool
is_newline byte = byte == 10

-- a mark of one byte
abbrev pub is_mark : ℕ → Bool
is_mark byte = list_any (λ mark. mark == byte) (codes ".,;:=?![]")

-- how many letters, digits and '_' stand at the start
abbrev pub run_len : List ℕ → ℕ
run_len bytes = prefix_len is_word_byte bytes

-- how many bytes stand before the end of the line
abbrev pub line_len : List ℕ → ℕ
line_len bytes = prefix_len (λ byte. not (is_newline byte)) bytes

-- a decimal digit stands first
abbrev pub starts_with_digit : List ℕ → Bool
starts_with_digit [] = false
starts_with_digit (byte ∷ bytes) = is_ascii_digit byte
