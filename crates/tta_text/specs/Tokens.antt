-- The tokens of a text. At each place the longest token that a kind allows is taken.
use Rattle.std.specs.Prelude.{ℕ, zero, suc, ◌+◌, ◌-◌, ◌==◌, Bool, true, false, ◌&&◌, not, nat_eq, if◌then◌else◌, List, [], ◌∷◌, take, Option, Some, None, is_some, codes}
use Rattle.std.specs.List.{starts_with}
use Rattle.std.specs.Char.{is_ascii_digit}
use Rattle.tta_text.specs.declared.lexeme.Kind.{Kind}
use Rattle.tta_text.specs.declared.lexeme.Kind.TheVariants.{Name, Number, Negative, Mark, Eol, Bad}
use Rattle.tta_text.specs.declared.lexeme.Token.{Token}
use Rattle.tta_text.specs.declared.pieces.Piece.{Piece}
use Rattle.tta_text.specs.Bytes.{is_name_start, is_blank, is_newline, is_mark, run_len, line_len, starts_with_digit}
use Rattle.tta_text.specs.Numbers.{number_of, negative_of}

-- a token of this kind, made of the first bytes
abbrev pub token : Kind → ℕ → Piece
token kind len = record { kind = Some kind; len = len }

-- the first bytes are a blank or a comment
abbrev pub gap : ℕ → Piece
gap len = record { kind = None; len = len }

-- this kind where the bytes have a value, and else a bad token
abbrev pub kind_if : Option ℕ → Kind → Kind
kind_if value kind = if is_some value then kind else Bad

-- a run that begins with a digit, as long as given
unfoldable pub number_piece : List ℕ → (len : ℕ) → Piece
number_piece bytes len = token (kind_if (number_of (take len bytes)) Number) len

-- "-" and the run after it, which begins with a digit, as long as given
unfoldable pub negative_piece : List ℕ → (len : ℕ) → Piece
negative_piece bytes len = token (kind_if (negative_of (take len bytes)) Negative) len

-- what else can stand at the start: a mark, or a byte that no token has
unfoldable pub mark_piece : ℕ → List ℕ → Piece
mark_piece byte bytes =
    if starts_with nat_eq bytes (codes "->") then token Mark 2
    else if starts_with nat_eq bytes (codes "...") then token Mark 3
    else if is_mark byte then token Mark 1
    else token Bad 1

-- what stands at the start, where this byte does and then the rest
unfoldable pub piece_at : ℕ → List ℕ → Piece
piece_at byte rest =
    if is_newline byte then token Eol 1
    else if is_blank byte then gap 1
    else if byte == 35 then gap (1 + line_len rest)
    else if is_name_start byte then token Name (1 + run_len rest)
    else if is_ascii_digit byte then number_piece (byte ∷ rest) (1 + run_len rest)
    else if byte == 45 && starts_with_digit rest then negative_piece (byte ∷ rest) (1 + run_len rest)
    else mark_piece byte (byte ∷ rest)

-- what stands at the start: a token, or a blank or a comment, which are none
abbrev pub piece_of : List ℕ → Piece
piece_of [] = gap 0
piece_of (byte ∷ rest) = piece_at byte rest

-- a token of this kind before others, where there is a kind
abbrev pub with_token : Option Kind → (line start end : ℕ) → List Token → List Token
with_token None line start end tokens = tokens
with_token (Some kind) line start end tokens =
    record { line = line; start = start; end = end; kind = kind } ∷ tokens

-- the line after a byte of this line
abbrev pub line_after : ℕ → ℕ → ℕ
line_after byte line = if is_newline byte then line + 1 else line

-- The tokens of what is left of a text after its next `skip` bytes, where its next byte stands on
-- this line, at this place. The line is open where bytes of it stand before; an open line ends
-- with the text.
unfoldable pub tokens_from : (skip : ℕ) (is_open : Bool) (line at : ℕ) → List ℕ → List Token
tokens_from skip false line at [] = []
tokens_from skip true line at [] = with_token (Some Eol) line at at []
tokens_from (suc skip) is_open line at (byte ∷ rest) = tokens_from skip true line (at + 1) rest
tokens_from zero is_open line at (byte ∷ rest) =
    let piece = piece_of (byte ∷ rest) in
    with_token piece.kind line at (at + piece.len)
    (tokens_from (piece.len - 1) (not (is_newline byte)) (line_after byte line) (at + 1) rest)

-- the tokens of a text
unfoldable pub tokens_of : List ℕ → List Token
tokens_of text = tokens_from 0 false 1 0 text
