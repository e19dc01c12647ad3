-- What is left of the pieces of a text once one was taken.
use Rattle.std.proofs.Common.{◌≡◌, ℕ, ◌+◌, ◌<◌, ◌≤◌, List, length, drop, refl, ap, ◌∙◌, arith}
use Rattle.std.proofs.lemmas.List.{drop-drop, length-drop}
use Rattle.tta_asm.specs.declared.pieces.Close.{Close}
use Rattle.tta_asm.specs.declared.pieces.Close.TheVariants.{Comma, Colon, Semicolon, End}
use Rattle.tta_asm.specs.Pieces.{Placed, Piece}
use Rattle.tta_asm.specs.Calls.{Cuts}

-- a piece with its parts
abbrev piece : List Placed → Close → (line : ℕ) → Piece
piece words close line = record { words = words; close = close; line = line }

-- the piece that was taken was there
pub cut_some : (words : List Placed) (close : Close) (line : ℕ) (old new : List Piece) → Cuts (piece words close line) old new → 1 ≤ length old
cut_some words Comma line old new cut = let n = ap length cut in omega arith
cut_some words Colon line old new cut = let n = ap length cut in omega arith
cut_some words Semicolon line old new cut = let n = ap length cut in omega arith
cut_some words End line old new cut = let n = ap length cut in omega arith

-- the others are left, where there are others
cut_rest : (words : List Placed) (close : Close) (line : ℕ) (old new : List Piece) → 2 ≤ length old → Cuts (piece words close line) old new → new ≡ drop 1 old
cut_rest words Comma line old new some cut = rw cut refl
cut_rest words Colon line old new some cut = rw cut refl
cut_rest words Semicolon line old new some cut = rw cut refl
cut_rest words End line old new some cut = let n = ap length cut in absurd (omega arith)

-- so a piece more is passed over
pub cut_next : (words : List Placed) (close : Close) (line : ℕ) (ps old new : List Piece) (i : ℕ) → i + 1 < length ps → old ≡ drop i ps
    → Cuts (piece words close line) old new → new ≡ drop (i + 1) ps
cut_next words close line ps old new i room is cut =
    let long = ap length is ∙ length-drop i ps in
    cut_rest words close line old new (omega arith) cut ∙ ap (λ (xs : List Piece). drop 1 xs) is ∙ drop-drop 1 i ps
