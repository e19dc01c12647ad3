-- How many lines a text can have.
use Rattle.std.proofs.Common.{ℕ, ◌+◌, ◌≤◌, Bool, true, false, if◌then◌else◌, List, [], ◌∷◌, ◌++◌, length, arith}
use Rattle.tta_parse.specs.Cited.{Token, tokens_from, tokens_of}
use Rattle.tta_text.proofs.Counted.{length-tokens_from}
use Rattle.tta_parse.specs.Lines.{Line, is_line_end, lexeme_of, lines_from}

module _ (text : List ℕ) (t : Token) (ts : List Token) (before : Line) where
  counted : (b : Bool) → length (lines_from text [] ts) ≤ length ts → length (lines_from text (before ++ lexeme_of text t ∷ []) ts) ≤ length ts
      → length (if b then before ∷ lines_from text [] ts else lines_from text (before ++ lexeme_of text t ∷ []) ts) ≤ length (t ∷ ts)
  counted true new more = omega arith
  counted false new more = omega arith

-- each line has its token
pub length-lines_from : (text : List ℕ) (before : Line) (ts : List Token) → length (lines_from text before ts) ≤ length ts
length-lines_from text before [] = omega arith
length-lines_from text before (t ∷ ts) =
    counted text t ts before (is_line_end t.kind) (length-lines_from text [] ts) (length-lines_from text (before ++ lexeme_of text t ∷ []) ts)

-- a text has at most one line more than bytes
pub length-lines : (text : List ℕ) → length (lines_from text [] (tokens_of text)) ≤ length text + 1
unfolding tokens_of
length-lines text =
    omega (arith, length-lines_from text [] (tokens_from 0 false 1 0 text), length-tokens_from text 0 false 1 0)
