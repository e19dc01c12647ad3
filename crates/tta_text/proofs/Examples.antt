-- Small texts and their tokens, computed.
use Rattle.std.proofs.Common.{◌≡◌, ℕ, ◌-◌, ◌^◌, [], ◌∷◌, ◌++◌, refl}
use Rattle.std.specs.Prelude.{codes, Some, None}
use Rattle.tta_text.specs.declared.lexeme.Kind.{Kind}
use Rattle.tta_text.specs.declared.lexeme.Kind.TheVariants.{Name, Negative, Mark, Eol, Bad}
use Rattle.tta_text.specs.declared.lexeme.Token.{Token}
use Rattle.tta_text.specs.Numbers.{number_of, negative_of, digits_of, value_below}
use Rattle.tta_text.specs.Tokens.{tokens_of, tokens_from, piece_at, number_piece, negative_piece, mark_piece}

-- a token by its line, the places where it begins and ends, and its kind
token : (line start end : ℕ) → Kind → Token
token line start end kind = record { line = line; start = start; end = end; kind = kind }

-- the longest mark comes first
dots : tokens_of (codes "....") ≡ token 1 0 3 Mark ∷ token 1 3 4 Mark ∷ token 1 4 4 Eol ∷ []
unfolding token tokens_of tokens_from piece_at mark_piece
dots = refl

two_dots : tokens_of (codes "..") ≡ token 1 0 1 Mark ∷ token 1 1 2 Mark ∷ token 1 2 2 Eol ∷ []
unfolding token tokens_of tokens_from piece_at mark_piece
two_dots = refl

arrows : tokens_of (codes "->-") ≡ token 1 0 2 Mark ∷ token 1 2 3 Bad ∷ token 1 3 3 Eol ∷ []
unfolding token tokens_of tokens_from piece_at mark_piece
arrows = refl

-- nothing has to stand between tokens
joined : tokens_of (codes "a-5->b") ≡ token 1 0 1 Name ∷ token 1 1 3 Negative ∷ token 1 3 5 Mark ∷ token 1 5 6 Name ∷ token 1 6 6 Eol ∷ []
unfolding token tokens_of tokens_from piece_at negative_piece mark_piece negative_of digits_of value_below
joined = refl

-- a run is one token whatever it holds
runs : tokens_of (codes "12ab -0x10 -4000000000 x9_") ≡ token 1 0 4 Bad ∷ token 1 5 10 Bad ∷ token 1 11 22 Bad ∷ token 1 23 26 Name ∷ token 1 26 26 Eol ∷ []
unfolding token tokens_of tokens_from piece_at number_piece negative_piece number_of negative_of digits_of value_below
runs = refl

-- lines, comments, blanks, and a last line without newline
lines : tokens_of (codes "a # b" ++ 10 ∷ 13 ∷ 10 ∷ 35 ∷ []) ≡ token 1 0 1 Name ∷ token 1 5 6 Eol ∷ token 2 7 8 Eol ∷ token 3 9 9 Eol ∷ []
unfolding token tokens_of tokens_from piece_at
lines = refl

nothing : tokens_of [] ≡ []
unfolding tokens_of tokens_from
nothing = refl

-- bytes that no token has
others : tokens_of (codes "@" ++ 195 ∷ 10 ∷ []) ≡ token 1 0 1 Bad ∷ token 1 1 2 Bad ∷ token 1 2 3 Eol ∷ []
unfolding token tokens_of tokens_from piece_at mark_piece
others = refl

-- the limits of numbers
greatest : number_of (codes "4294967295") ≡ Some (2 ^ 32 - 1)
unfolding number_of digits_of value_below
greatest = refl

too_great : number_of (codes "4294967296") ≡ None
unfolding number_of digits_of value_below
too_great = refl

too_long : number_of (codes "00000000001") ≡ None
unfolding number_of digits_of value_below
too_long = refl

hexadecimal : number_of (codes "0xfFfFfFfF") ≡ Some (2 ^ 32 - 1)
unfolding number_of digits_of value_below
hexadecimal = refl

hexadecimal_too_long : number_of (codes "0x000000001") ≡ None
unfolding number_of digits_of value_below
hexadecimal_too_long = refl

no_digit : number_of (codes "0x") ≡ None
unfolding number_of digits_of value_below
no_digit = refl

other_prefix : number_of (codes "0X1") ≡ None
unfolding number_of digits_of value_below
other_prefix = refl

lowest : negative_of (codes "-2147483648") ≡ Some (2 ^ 31)
unfolding negative_of digits_of value_below
lowest = refl

too_low : negative_of (codes "-2147483649") ≡ None
unfolding negative_of digits_of value_below
too_low = refl

zero_below : negative_of (codes "-0") ≡ Some 0
unfolding negative_of digits_of value_below
zero_below = refl

minus_one : negative_of (codes "-1") ≡ Some (2 ^ 32 - 1)
unfolding negative_of digits_of value_below
minus_one = refl
