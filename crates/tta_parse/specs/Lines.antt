-- The lines of a text: its tokens, cut at each end of a line.
use Rattle.std.specs.Prelude.{ℕ, Bool, true, false, if◌then◌else◌, List, [], ◌∷◌, ◌++◌, slice_range, map}
use Rattle.tta_parse.specs.Cited.{Kind, Eol, Token, tokens_of}
use Rattle.tta_parse.specs.declared.word.Word.{Word}

-- a word: the kind of a token and its bytes
pub record Lexeme : Type 0 where
  pub kind : Kind
  pub text : List ℕ

-- a line is a list of words; the k-th line of a text is the k-th of its lines, counted from 1
abbrev pub Line : Type 0
Line = List Lexeme

-- the kind of token that ends a line
abbrev pub is_line_end : Kind → Bool
is_line_end Eol = true
is_line_end kind = false

-- a token of a text as a word
abbrev pub lexeme_of : List ℕ → Token → Lexeme
lexeme_of text t = record { kind = t.kind; text = slice_range text t.start t.end }

-- the lines that tokens make, the first of them with the words before
abbrev pub lines_from : (text : List ℕ) (before : Line) → List Token → List Line
lines_from text before [] = []
lines_from text before (t ∷ ts) =
    if is_line_end t.kind
    then before ∷ lines_from text [] ts
    else lines_from text (before ++ lexeme_of text t ∷ []) ts

-- the lines of a text, blank ones included
unfoldable pub lines_of : List ℕ → List Line
lines_of text = lines_from text [] (tokens_of text)

-- a word of the code as a word of the text
abbrev pub plain : Word → Lexeme
plain w = record { kind = w.kind; text = w.text.now }

-- the texts of words
abbrev pub texts : List Word → List (List ℕ)
texts words = map (λ w. w.text.now) words
