-- What one call of the reader of pieces changes.
use Rattle.std.specs.Prelude.{◌≡◌, ℕ, ◌+◌, ◌^◌, ◌≤◌, List, [], ◌∷◌, length}
use Rattle.tta_asm.specs.declared.pieces.Close.{Close}
use Rattle.tta_asm.specs.declared.pieces.Close.TheVariants.{End}
use Rattle.tta_asm.specs.Pieces.{Piece}

-- the reader's text is the scanner's, and its line is one of the text's, or the one after the last
pub record IsAtLine (scanned text : List ℕ) (line : ℕ) : Type 0 where
  pub same : scanned ≡ text
  pub few : line ≤ 2 ^ 24 + 2

-- a piece is taken, and the others are left; what the end closes is the last
abbrev pub Cuts : Piece → (old new : List Piece) → Type 0
Cuts p old new = of p.close where
  of : Close → Type 0
  of End = old ≡ p ∷ []
  of close = old ≡ p ∷ new

-- a piece less is left, except where the end is reached
abbrev pub IsShorter : Close → (old new : List Piece) → Type 0
IsShorter End old new = Unit {0}
IsShorter close old new = length old ≡ length new + 1
