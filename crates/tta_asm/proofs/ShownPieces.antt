-- The pieces of a printed text: those that it was printed from.
use Rattle.std.proofs.Common.{◌≡◌, ℕ, ◌+◌, Bool, true, false, not, List, [], ◌∷◌, ◌++◌, length, length-append, refl, ap, ◌∙◌}
use Rattle.std.specs.Prelude.{if◌then◌else◌}
use Rattle.std.proofs.lemmas.List.{append_assoc, append-nil}
use Rattle.tta_asm.specs.Cited.{tokens_of, tokens_from}
use Rattle.tta_asm.specs.declared.pieces.Close.TheVariants.{End}
use Rattle.tta_asm.specs.Pieces.{Placed, Piece, pieces_of}
use Rattle.tta_asm.proofs.ShownItems.{Item, Blank, Word, items_text, placed_at, behind, behind-length}
use Rattle.tta_asm.proofs.ShownScan.{pieces_at, pieces_at-word, pieces_at-blank, close_text, close_of, line_behind, pieces_at-closed, Stays}

-- each word is scanned as it was printed, where these bytes follow the items
abbrev pub AreScanned : List Item → (after : List ℕ) → Type 0
AreScanned [] after = Unit {0}
AreScanned (Blank ∷ is) after = AreScanned is after
AreScanned (Word kind text ∷ is) after = Stays kind text (items_text is ++ after) × AreScanned is after

-- whether bytes of the line stand before what follows items
abbrev pub opened : Bool → List Item → Bool
opened is_open [] = is_open
opened is_open (i ∷ is) = true

-- an open line stays open after items
opened-open : (is : List Item) → opened true is ≡ true
opened-open [] = refl
opened-open (i ∷ is) = refl

-- items are read as their words
pub pieces_at-items : (is : List Item) (before : List ℕ) (is_open : Bool) (line : ℕ) (words : List Placed) (after : List ℕ)
    → AreScanned is after
    → pieces_at before is_open line words (items_text is ++ after)
    ≡ pieces_at (before ++ items_text is) (opened is_open is) line (words ++ placed_at line (length before) is) after
pieces_at-items [] before is_open line words after s = rw (append-nil before, append-nil words) refl
pieces_at-items (Blank ∷ is) before is_open line words after s =
    let first = pieces_at-blank before is_open line words (items_text is ++ after) in
    let next = pieces_at-items is (before ++ 32 ∷ []) true line words after s in
    let both = append_assoc before (32 ∷ []) (items_text is) in
    let far = length-append before (32 ∷ []) in
    let end = ap (λ (n : ℕ). pieces_at (before ++ items_text (Blank ∷ is)) true line (words ++ placed_at line n is) after) far in
    first ∙ rw (both, opened-open is) at next ∙ end
pieces_at-items (Word kind text ∷ is) before is_open line words after s =
    let first = pieces_at-word before is_open line words kind text (items_text is ++ after) s.0 in
    let word : Placed = record { line = line; start = length before; word = record { kind = kind; text = text } } in
    let next = pieces_at-items is (before ++ text) true line (words ++ word ∷ []) after s.1 in
    let both = append_assoc before text (items_text is) in
    let all = append_assoc words (word ∷ []) (placed_at line (length before + length text) is) in
    let whole = append_assoc text (items_text is) after in
    let far = length-append before text in
    let end = ap (λ (n : ℕ). pieces_at (before ++ (text ++ items_text is)) true line (words ++ word ∷ [] ++ placed_at line n is) after) far in
    let last = ap (λ ws. pieces_at (before ++ (text ++ items_text is)) true line ws after) all in
    rw whole (first ∙ rw (both, opened-open is) at next ∙ end ∙ last)

-- a printed piece: its items, and whether it is the last of its instruction
pub record PieceText : Type 0 where
  pub items : List Item
  pub last : Bool

-- the text of printed pieces
abbrev pub pieces_text : List PieceText → List ℕ
pieces_text [] = []
pieces_text (p ∷ ps) = items_text p.items ++ (close_text p.last ++ pieces_text ps)

-- each word of printed pieces is scanned as it was printed
abbrev pub ArePieces : List PieceText → Type 0
ArePieces [] = Unit {0}
ArePieces (p ∷ ps) = AreScanned p.items (close_text p.last ++ pieces_text ps) × ArePieces ps

-- the pieces that a text of printed pieces has, from this line and place on
abbrev pub pieces_shown : (is_open : Bool) (line start : ℕ) → List PieceText → List Piece
pieces_shown is_open line start [] =
    record { words = []; close = End; line = if is_open then line + 1 else line } ∷ []
pieces_shown is_open line start (p ∷ ps) =
    record { words = placed_at line start p.items; close = close_of p.last; line = line }
    ∷ pieces_shown (not p.last) (line_behind p.last line) (behind start p.items + 2) ps

-- two bytes stand after each piece
length-close_text : (last : Bool) → length (close_text last) ≡ 2
length-close_text true = refl
length-close_text false = refl

-- where nothing is left, the end of the text closes the last piece
end-shown : (is_open : Bool) (before : List ℕ) (line : ℕ)
    → pieces_at before is_open line [] [] ≡ pieces_shown is_open line (length before) []
unfolding tokens_from
end-shown true before line = refl
end-shown false before line = refl

-- printed pieces are read as they were printed
pub pieces_at-shown : (ps : List PieceText) (before : List ℕ) (is_open : Bool) (line : ℕ) → ArePieces ps
    → pieces_at before is_open line [] (pieces_text ps) ≡ pieces_shown is_open line (length before) ps
pieces_at-shown [] before is_open line s = end-shown is_open before line
pieces_at-shown (p ∷ ps) before is_open line s =
    let rest = close_text p.last ++ pieces_text ps in
    let words = placed_at line (length before) p.items in
    let front = pieces_at-items p.items before is_open line [] rest s.0 in
    let middle = before ++ items_text p.items in
    let closed = pieces_at-closed p.last middle (opened is_open p.items) line words (pieces_text ps) in
    let next = pieces_at-shown ps (middle ++ close_text p.last) (not p.last) (line_behind p.last line) s.1 in
    let far : length (middle ++ close_text p.last) ≡ behind (length before) p.items + 2 =
    rw (length-append middle (close_text p.last), length-append before (items_text p.items), length-close_text p.last, behind-length p.items (length before)) refl in
    let same = next ∙ ap (λ (n : ℕ). pieces_shown (not p.last) (line_behind p.last line) n ps) far in
    front ∙ closed ∙ ap (λ more. record { words = words; close = close_of p.last; line = line } ∷ more) same

-- the pieces of a text of printed pieces
pub pieces_of-shown : (ps : List PieceText) → ArePieces ps → pieces_of (pieces_text ps) ≡ pieces_shown false 1 0 ps
unfolding pieces_of tokens_of
pieces_of-shown ps s = pieces_at-shown ps [] false 1 s
