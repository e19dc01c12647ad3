-- A text of assembly, cut at each ',', ':' and ';'. Line ends count as blanks.
use Rattle.std.specs.Prelude.{ℕ, ◌+◌, if◌then◌else◌, List, [], ◌∷◌, ◌++◌, Option, Some, None, codes}
use Rattle.tta_asm.specs.Cited.{Token, tokens_of, Lexeme, is_line_end, lexeme_of, is_mark}
use Rattle.tta_asm.specs.declared.pieces.Close.{Close}
use Rattle.tta_asm.specs.declared.pieces.Close.TheVariants.{Comma, Colon, Semicolon, End}

-- a word with its place: its line, counted from 1, and its first byte, counted from 0
pub record Placed : Type 0 where
  pub line : ℕ
  pub start : ℕ
  pub word : Lexeme

-- words up to what closes them, which stands on this line. The end of a text stands on the line after its last.
pub record Piece : Type 0 where
  pub words : List Placed
  pub close : Close
  pub line : ℕ

-- what a word closes, if it is one of the three marks that close
abbrev pub closing : Lexeme → Option Close
closing w =
    if is_mark (codes ",") w then Some Comma
    else if is_mark (codes ":") w then Some Colon
    else if is_mark (codes ";") w then Some Semicolon
    else None

-- a token as a word with its place
abbrev pub placed : List ℕ → Token → Placed
placed text t = record { line = t.line; start = t.start; word = lexeme_of text t }

-- The pieces that tokens make, the first of them with the words before. The line is the one after the last that has ended.
abbrev pub pieces_from : (text : List ℕ) (line : ℕ) (before : List Placed) → List Token → List Piece
pieces_from text line before [] = record { words = before; close = End; line = line } ∷ []
pieces_from text line before (t ∷ ts) =
    if is_line_end t.kind
    then pieces_from text (t.line + 1) before ts
    else closed_by (closing (lexeme_of text t)) (pieces_from text line [] ts) (pieces_from text line (before ++ placed text t ∷ []) ts)
  where
    closed_by : Option Close → (closed left_open : List Piece) → List Piece
    closed_by (Some close) closed left_open = record { words = before; close = close; line = t.line } ∷ closed
    closed_by None closed left_open = left_open

-- the pieces of a text: those that marks close, and at last what the end of the text closes
unfoldable pub pieces_of : List ℕ → List Piece
pieces_of text = pieces_from text 1 [] (tokens_of text)
