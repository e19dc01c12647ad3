-- How many words queues have, as a word of the command line says it: numbers that are powers of two, with commas between them.
use Rattle.std.specs.Prelude.{ℕ, zero, suc, ◌+◌, ◌^◌, ◌==◌, Bool, false, ◌&&◌, ◌||◌, if◌then◌else◌, List, [], ◌∷◌, length, take, drop, replicate, Option, Some, None, is_some, option_and_then}
use Rattle.std.specs.Option.{option_map_or}
use Rattle.std.specs.List.{position_or_len}
use Rattle.tta_inspect.specs.Cited.{digits_of}

-- the first of so many exponents, from one on, of which a number is the power of two
abbrev pub exponent_from : (k left n : ℕ) → Option ℕ
exponent_from k zero n = None
exponent_from k (suc left) n = if 2 ^ k == n then Some k else exponent_from (k + 1) left n

-- the exponent that some digits say as a number of words: one of the powers of two from 2 to 65,536
abbrev pub depth_of : List ℕ → Option ℕ
depth_of digits = option_and_then (exponent_from 1 16) (digits_of 10 5 (2 ^ 16 + 1) digits)

-- how many bytes stand before the first comma, or all of them where there is none
abbrev pub comma_at : List ℕ → ℕ
comma_at bytes = position_or_len (λ b. b == 44) bytes

-- whether bytes are so many such numbers with commas between them
abbrev pub is_list : (count : ℕ) → List ℕ → Bool
is_list zero bytes = false
is_list (suc n) bytes =
    is_some (depth_of (take (comma_at bytes) bytes))
    && (if n == 0 then comma_at bytes == length bytes else is_list n (drop (comma_at bytes + 1) bytes))

-- the exponent that some digits say, and 0 where they say none
abbrev pub depth_or_zero : List ℕ → ℕ
depth_or_zero digits = option_map_or (λ k. k) (depth_of digits) 0

-- the exponents that they say
abbrev pub list_in : (count : ℕ) → List ℕ → List ℕ
list_in zero bytes = []
list_in (suc n) bytes = depth_or_zero (take (comma_at bytes) bytes) ∷ list_in n (drop (comma_at bytes + 1) bytes)

-- whether a word says how many words the queues of so many cores have: one number for all of them, or one for each
abbrev pub are_depths : (count : ℕ) → List ℕ → Bool
are_depths count word = is_some (depth_of word) || is_list count word

-- the exponents that it says
abbrev pub depths_in : (count : ℕ) → List ℕ → List ℕ
depths_in count word = option_map_or (λ k. replicate count k) (depth_of word) (list_in count word)
