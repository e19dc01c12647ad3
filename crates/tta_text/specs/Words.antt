-- Which bytes are a token of each kind, and what numbers are worth. Nothing here is made of the
-- scanner's definition.
use Rattle.std.specs.Prelude.{◌≡◌, ℕ, ◌+◌, ◌-◌, ◌*◌, ◌^◌, ◌%◌, ◌==◌, Bool, true, false, ◌&&◌, ◌||◌, not, nat_eq, nat_lt, nat_le, Option, Some, None, List, [], ◌∷◌, length, drop, codes}
use Rattle.std.specs.List.{list_all, list_any, starts_with}
use Rattle.std.specs.Char.{is_ascii_digit, is_ascii_alphabetic, is_ascii_alphanumeric, is_ascii_hexdigit, digit_value}
use Rattle.tta_text.specs.declared.lexeme.Kind.{Kind}
use Rattle.tta_text.specs.declared.lexeme.Kind.TheVariants.{Name, Number, Negative, Mark, Eol, Bad}

-- the first byte passes
abbrev pub first_is : (ℕ → Bool) → List ℕ → Bool
first_is test [] = false
first_is test (byte ∷ bytes) = test byte

-- a letter or '_'
abbrev pub is_letter : ℕ → Bool
is_letter byte = is_ascii_alphabetic byte || byte == 95

-- letters, digits and '_', as many as there are
abbrev pub is_run : List ℕ → Bool
is_run word = list_all (λ byte. is_ascii_alphanumeric byte || byte == 95) word

-- a letter or '_', and then letters, digits and '_'
abbrev pub is_name : List ℕ → Bool
is_name word = first_is is_letter word && is_run word

-- what digits write, each counted by its place
abbrev pub place_value : (base : ℕ) → List ℕ → ℕ
place_value base [] = 0
place_value base (digit ∷ digits) = digit_value digit * base ^ length digits + place_value base digits

-- one to ten decimal digits, which write a number below the limit
abbrev pub is_decimal : (limit : ℕ) → List ℕ → Bool
is_decimal limit word =
    (nat_lt 0 (length word) && nat_le (length word) 10)
    && (list_all is_ascii_digit word && nat_lt (place_value 10 word) limit)

-- one to eight hexadecimal digits of either case
abbrev pub is_hexadecimal : List ℕ → Bool
is_hexadecimal word =
    (nat_lt 0 (length word) && nat_le (length word) 8) && list_all is_ascii_hexdigit word

-- "0x" and hexadecimal digits
abbrev pub is_hexadecimal_number : List ℕ → Bool
is_hexadecimal_number word = starts_with nat_eq word (codes "0x") && is_hexadecimal (drop 2 word)

-- decimal digits below 2 ^ 32, or "0x" and hexadecimal digits
abbrev pub is_number : List ℕ → Bool
is_number word = is_decimal (2 ^ 32) word || is_hexadecimal_number word

-- "-" and decimal digits of at most 2 ^ 31
abbrev pub is_negative : List ℕ → Bool
is_negative word = first_is (λ byte. byte == 45) word && is_decimal (2 ^ 31 + 1) (drop 1 word)

-- the value of a number is that of its digits by their places, and no other bytes have one
pub record IsNumberWorth (word : List ℕ) (value : Option ℕ) : Type 0 where
  pub decimal : is_decimal (2 ^ 32) word ≡ true → value ≡ Some (place_value 10 word)
  pub hexadecimal : is_hexadecimal_number word ≡ true → value ≡ Some (place_value 16 (drop 2 word))
  pub other : is_number word ≡ false → value ≡ None

-- a negative number's is as much below 2 ^ 32, and 0 where there is nothing to take away
pub record IsNegativeWorth (word : List ℕ) (value : Option ℕ) : Type 0 where
  pub negative : is_negative word ≡ true → value ≡ Some ((2 ^ 32 - place_value 10 (drop 1 word)) % 2 ^ 32)
  pub other : is_negative word ≡ false → value ≡ None

-- "->", "...", or a mark of one byte
abbrev pub is_mark : List ℕ → Bool
is_mark [] = false
is_mark (byte ∷ []) = list_any (λ mark. mark == byte) (codes ".,;:=?![]")
is_mark (first ∷ second ∷ []) = first == 45 && second == 62
is_mark (first ∷ second ∷ third ∷ []) = first == 46 && (second == 46 && third == 46)
is_mark (first ∷ second ∷ third ∷ fourth ∷ word) = false

-- a newline
abbrev pub is_line_end : List ℕ → Bool
is_line_end [] = false
is_line_end (byte ∷ []) = byte == 10
is_line_end (first ∷ second ∷ word) = false

-- a space, a tab or a carriage return
abbrev pub is_blank : ℕ → Bool
is_blank byte = byte == 32 || byte == 9 || byte == 13

-- a byte that is no blank, begins no comment and is no token of another kind
abbrev pub is_other : List ℕ → Bool
is_other [] = false
is_other (byte ∷ []) =
    (not (is_blank byte) && not (byte == 35) && not (byte == 10))
    && (not (is_name (byte ∷ [])) && not (is_number (byte ∷ [])) && not (is_mark (byte ∷ [])))
is_other (first ∷ second ∷ word) = false

-- a run that begins with a digit
abbrev pub is_digit_run : List ℕ → Bool
is_digit_run word = first_is is_ascii_digit word && is_run word

-- a run that begins with a digit and is no number
abbrev pub is_bad_run : List ℕ → Bool
is_bad_run word = is_digit_run word && not (is_number word)

-- "-" and a run that begins with a digit, which together are no negative number
abbrev pub is_bad_negative : List ℕ → Bool
is_bad_negative word =
    (first_is (λ byte. byte == 45) word && is_digit_run (drop 1 word)) && not (is_negative word)

-- one of these runs, or any other single byte
abbrev pub is_bad : List ℕ → Bool
is_bad word = is_bad_run word || is_bad_negative word || is_other word

-- the bytes are those of a token of this kind
abbrev pub is_of_kind : Kind → List ℕ → Bool
is_of_kind Name word = is_name word
is_of_kind Number word = is_number word
is_of_kind Negative word = is_negative word
is_of_kind Mark word = is_mark word
is_of_kind Eol word = is_line_end word
is_of_kind Bad word = is_bad word
