-- The pieces of a printed text: word by word, up to what closes a piece.
use Rattle.std.proofs.Common.{◌≡◌, ℕ, ◌+◌, Bool, true, false, not, List, [], ◌∷◌, ◌++◌, length, length-append, refl, ap, ◌∙◌, subst}
use Rattle.std.specs.Prelude.{Some, None, codes}
use Rattle.std.proofs.lemmas.List.{append_assoc}
use Rattle.tta_text.specs.declared.lexeme.Kind.{Kind}
use Rattle.tta_asm.specs.Cited.{Mark, Eol, is_newline, piece_at, mark_piece, tokens_from, is_line_end}
use Rattle.tta_text.specs.Tokens.{token}
use Rattle.tta_parse.proofs.TextNames.{slice-between}
use Rattle.tta_parse.proofs.Scanned.{IsScanned}
use Rattle.tta_asm.specs.declared.pieces.Close.{Close}
use Rattle.tta_asm.specs.declared.pieces.Close.TheVariants.{Comma, Semicolon}
use Rattle.tta_asm.specs.Pieces.{Placed, Piece, closing, pieces_from}
use Rattle.tta_text.proofs.ShownWords.{tokens-front}

-- the pieces of what is left of a text after these bytes, the first of them with these words
abbrev pub pieces_at : (before : List ℕ) (is_open : Bool) (line : ℕ) → List Placed → (rest : List ℕ) → List Piece
pieces_at before is_open line words rest =
    pieces_from (before ++ rest) line words (tokens_from 0 is_open line (length before) rest)

-- a word that is scanned as a token of its kind before these bytes, and closes no piece
pub record Stays (kind : Kind) (text after : List ℕ) : Type 0 where
  pub scanned : IsScanned kind text after
  pub stays : closing (record { kind = kind; text = text }) ≡ None

-- the text stays the same, and so does the place
shift : (before word after : List ℕ) (is_open : Bool) (line : ℕ) (words : List Placed)
    → pieces_from (before ++ (word ++ after)) line words (tokens_from 0 is_open line (length before + length word) after)
    ≡ pieces_at (before ++ word) is_open line words after
shift before word after is_open line words = rw (append_assoc before word after, length-append before word) refl

-- a word whose bytes are known
word-step : (before : List ℕ) (is_open : Bool) (line : ℕ) (words : List Placed) (kind : Kind) (byte : ℕ) (others after : List ℕ)
    → is_newline byte ≡ false
    → piece_at byte (others ++ after) ≡ token kind (length (byte ∷ others))
    → closing (record { kind = kind; text = byte ∷ others }) ≡ None
    → is_line_end kind ≡ false
    → pieces_at before is_open line words (byte ∷ (others ++ after))
    ≡ pieces_at (before ++ byte ∷ others) true line
    (words ++ record { line = line; start = length before; word = record { kind = kind; text = byte ∷ others } } ∷ []) after
word-step before is_open line words kind byte others after newline piece stays inside =
    let front = tokens-front byte others after is_open line (length before) (Some kind) piece in
    let cut = slice-between before (byte ∷ others) after in
    let next = shift before (byte ∷ others) after true line
    (words ++ record { line = line; start = length before; word = record { kind = kind; text = byte ∷ others } } ∷ []) in
    rw (front, inside, cut, stays, newline) next

-- a word is put after the words before it
pub pieces_at-word : (before : List ℕ) (is_open : Bool) (line : ℕ) (words : List Placed) (kind : Kind) (text after : List ℕ)
    → Stays kind text after
    → pieces_at before is_open line words (text ++ after)
    ≡ pieces_at (before ++ text) true line
    (words ++ record { line = line; start = length before; word = record { kind = kind; text = text } } ∷ []) after
pieces_at-word before is_open line words kind text after s =
    let t = s.scanned in
    let stays : closing (record { kind = kind; text = t.byte ∷ t.others }) ≡ None =
    subst (λ ws. closing (record { kind = kind; text = ws }) ≡ None) t.whole s.stays in
    rw t.whole (word-step before is_open line words kind t.byte t.others after t.line t.piece stays t.inside)

-- a blank is passed over
pub pieces_at-blank : (before : List ℕ) (is_open : Bool) (line : ℕ) (words : List Placed) (after : List ℕ)
    → pieces_at before is_open line words (32 ∷ after) ≡ pieces_at (before ++ 32 ∷ []) true line words after
unfolding piece_at
pieces_at-blank before is_open line words after =
    let front = tokens-front 32 [] after is_open line (length before) None refl in
    rw front (shift before (32 ∷ []) after true line words)

-- the end of a line is passed over too, and the next line begins
pub pieces_at-newline : (before : List ℕ) (is_open : Bool) (line : ℕ) (words : List Placed) (after : List ℕ)
    → pieces_at before is_open line words (10 ∷ after) ≡ pieces_at (before ++ 10 ∷ []) false (line + 1) words after
unfolding piece_at
pieces_at-newline before is_open line words after =
    let front = tokens-front 10 [] after is_open line (length before) (Some Eol) refl in
    rw front (shift before (10 ∷ []) after false (line + 1) words)

-- a mark that closes a piece
pieces_at-close : (before : List ℕ) (is_open : Bool) (line : ℕ) (words : List Placed) (byte : ℕ) (after : List ℕ) (close : Close)
    → is_newline byte ≡ false
    → piece_at byte after ≡ token Mark 1
    → closing (record { kind = Mark; text = byte ∷ [] }) ≡ Some close
    → pieces_at before is_open line words (byte ∷ after)
    ≡ record { words = words; close = close; line = line } ∷ pieces_at (before ++ byte ∷ []) true line [] after
pieces_at-close before is_open line words byte after close newline piece closes =
    let front = tokens-front byte [] after is_open line (length before) (Some Mark) piece in
    let cut = slice-between before (byte ∷ []) after in
    let next = shift before (byte ∷ []) after true line [] in
    rw (front, cut, closes, newline) (ap (λ ps. record { words = words; close = close; line = line } ∷ ps) next)

-- ---- pieces

-- the text after a piece: of the last of an instruction, and of any other
abbrev pub close_text : (last : Bool) → List ℕ
close_text true = codes ";\n"
close_text false = codes ", "

-- what closes a piece: a semicolon the last of an instruction, and a comma any other
abbrev pub close_of : (last : Bool) → Close
close_of true = Semicolon
close_of false = Comma

-- the line after a piece
abbrev pub line_behind : (last : Bool) (line : ℕ) → ℕ
line_behind true line = line + 1
line_behind false line = line

-- what closes a piece
pub pieces_at-closed : (last : Bool) (before : List ℕ) (is_open : Bool) (line : ℕ) (words : List Placed) (after : List ℕ)
    → pieces_at before is_open line words (close_text last ++ after)
    ≡ record { words = words; close = close_of last; line = line }
    ∷ pieces_at (before ++ close_text last) (not last) (line_behind last line) [] after
unfolding piece_at mark_piece
pieces_at-closed true before is_open line words after =
    let mark = pieces_at-close before is_open line words 59 (10 ∷ after) Semicolon refl refl refl in
    let next = pieces_at-newline (before ++ 59 ∷ []) true line [] after in
    let both = append_assoc before (59 ∷ []) (10 ∷ []) in
    mark ∙ ap (λ ps. record { words = words; close = Semicolon; line = line } ∷ ps) (rw both at next)
pieces_at-closed false before is_open line words after =
    let mark = pieces_at-close before is_open line words 44 (32 ∷ after) Comma refl refl refl in
    let next = pieces_at-blank (before ++ 44 ∷ []) true line [] after in
    let both = append_assoc before (44 ∷ []) (32 ∷ []) in
    mark ∙ ap (λ ps. record { words = words; close = Comma; line = line } ∷ ps) (rw both at next)
