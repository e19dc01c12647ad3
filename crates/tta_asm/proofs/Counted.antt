-- How many pieces a text can have.
use Rattle.std.proofs.Common.{ℕ, ◌+◌, ◌≤◌, Bool, true, false, List, [], ◌∷◌, ◌++◌, length, Option, None, Some, arith, ◌≡◌, refl}
use Rattle.tta_asm.specs.Cited.{Token, tokens_from, tokens_of, is_line_end, lexeme_of}
use Rattle.tta_text.proofs.Counted.{length-tokens_from}
use Rattle.tta_asm.specs.declared.pieces.Close.{Close}
use Rattle.tta_asm.specs.Pieces.{Placed, closing, placed, pieces_from}

module _ (text : List ℕ) (line : ℕ) (t : Token) (ts : List Token) (before : List Placed) where
  -- a token begins at most one piece more
  counted : (b : Bool) (c : Option Close) → is_line_end t.kind ≡ b → closing (lexeme_of text t) ≡ c
      → length (pieces_from text (t.line + 1) before ts) ≤ length ts + 1
      → length (pieces_from text line [] ts) ≤ length ts + 1
      → length (pieces_from text line (before ++ placed text t ∷ []) ts) ≤ length ts + 1
      → length (pieces_from text line before (t ∷ ts)) ≤ length (t ∷ ts) + 1
  counted true c is closes ended closed more = rw is (omega (arith, ended))
  counted false (Some close) is closes ended closed more = rw (is, closes) (omega (arith, closed))
  counted false None is closes ended closed more = rw (is, closes) (omega (arith, more))

-- tokens make at most one piece each, and one after the last
length-pieces_from : (text : List ℕ) (line : ℕ) (before : List Placed) (ts : List Token) → length (pieces_from text line before ts) ≤ length ts + 1
length-pieces_from text line before [] = omega arith
length-pieces_from text line before (t ∷ ts) =
    counted text line t ts before (is_line_end t.kind) (closing (lexeme_of text t)) refl refl
    (length-pieces_from text (t.line + 1) before ts) (length-pieces_from text line [] ts)
    (length-pieces_from text line (before ++ placed text t ∷ []) ts)

-- a text has at most two pieces more than bytes
pub length-pieces : (text : List ℕ) → length (pieces_from text 1 [] (tokens_of text)) ≤ length text + 2
unfolding tokens_of
length-pieces text =
    omega (arith, length-pieces_from text 1 [] (tokens_from 0 false 1 0 text), length-tokens_from text 0 false 1 0)
