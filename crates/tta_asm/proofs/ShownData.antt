-- Data are read back from their lines, and no line of an instruction is read as one.
use Rattle.std.proofs.Common.{◌≡◌, ℕ, ◌+◌, ◌^◌, ◌<◌, ◌≤◌, true, false, nat_le, List, [], ◌∷◌, ◌++◌, length, refl, arith}
use Rattle.std.specs.Prelude.{◌&&◌, nat_lt, Option, Some, None, Ok, codes, decimal}
use Rattle.std.specs.List.{flat_map}
use Rattle.std.proofs.lemmas.Bool.{and_parts, leb-true, ltb-true}
use Rattle.std.proofs.lemmas.List.{append_assoc, append-nil}
use Rattle.tta_text.specs.declared.lexeme.Kind.{Kind}
use Rattle.tta_asm.specs.Cited.{Name, Number, Mark, is_keyword, Units, GuardRef, Source, Dest, Machine, Move, Instruction, Datum, rises_from, fits}
use Rattle.tta_arch.specs.declared.ends.Source.TheVariants as source
use Rattle.tta_disasm.specs.Canonical.{file_name, imm_name, unit_name, datum_text}
use Rattle.tta_asm.specs.Pieces.{Placed, Piece}
use Rattle.tta_asm.specs.Init.{begins_datum, is_declaration, datum_form, datum_of, data_from, behind_data}
use Rattle.tta_asm.proofs.ShownItems.{Item, Blank, Word, placed_at, behind}
use Rattle.tta_asm.proofs.ShownPieces.{PieceText, pieces_text, ArePieces, pieces_shown}
use Rattle.tta_asm.proofs.ShownWords.{name_stays, number_stays}
use Rattle.tta_asm.proofs.ShownMoves.{sense_text, guard_items, source_items, toward_items, slot_items, long_items, slot_pieces, code_pieces}
use Rattle.tta_asm.proofs.ShownForms.{shown_piece}
use Rattle.tta_text.proofs.ShownWords.{number_of-decimal}

-- ---- the pieces of data

-- a datum
abbrev datum_piece : Datum → PieceText
datum_piece d = record {
  items = Word Name (codes "data") ∷ Blank ∷ Word Number (decimal d.address) ∷ Blank ∷ Word Number (decimal d.value) ∷ Blank ∷ [];
  last = true;
}

-- data, and the pieces after them
abbrev pub with_data : List Datum → List PieceText → List PieceText
with_data [] ps = ps
with_data (d ∷ ds) ps = datum_piece d ∷ with_data ds ps

-- their text is the canonical one
pub with_data-text : (init : List Datum) (ps : List PieceText) → pieces_text (with_data init ps) ≡ flat_map datum_text init ++ pieces_text ps
with_data-text [] ps = refl
with_data-text (d ∷ ds) ps =
    let address = decimal d.address in
    let value = decimal d.value in
    let more = flat_map datum_text ds ++ pieces_text ps in
    rw (
      with_data-text ds ps,
      append_assoc address (32 ∷ (value ++ 32 ∷ [])) (59 ∷ 10 ∷ more),
      append_assoc value (32 ∷ []) (59 ∷ 10 ∷ more),
      append_assoc (datum_text d) (flat_map datum_text ds) (pieces_text ps),
      append_assoc address (32 ∷ (value ++ 32 ∷ 59 ∷ 10 ∷ [])) more,
      append_assoc value (32 ∷ 59 ∷ 10 ∷ []) more,
    ) refl

-- ---- one datum

-- an address and a value that a text can give
record HasWords (d : Datum) : Type 0 where
  pub address : d.address < 2 ^ 32
  pub value : d.value < 2 ^ 32

-- a datum that fits has these
has_words : (words : ℕ) (d : Datum) → words ≤ 2 ^ 32 → (nat_lt d.address words && nat_lt d.value (2 ^ 32)) ≡ true → HasWords d
has_words words d small fit =
    let parts = and_parts (nat_lt d.address words) (nat_lt d.value (2 ^ 32)) fit in
    let below = ltb-true d.address words parts.0 in
    record { address = omega arith; value = ltb-true d.value (2 ^ 32) parts.1 }

-- data are scanned as they were printed
pub with_data-scanned : (words : ℕ) (init : List Datum) (ps : List PieceText) → words ≤ 2 ^ 32 → fits words init ≡ true → ArePieces ps
    → ArePieces (with_data init ps)
with_data-scanned words [] ps small fit s = s
with_data-scanned words (d ∷ ds) ps small fit s =
    let parts = and_parts (nat_lt d.address words && nat_lt d.value (2 ^ 32)) (fits words ds) fit in
    let has = has_words words d small parts.0 in
    let address = decimal d.address in
    let value = decimal d.value in
    let end = 59 ∷ 10 ∷ pieces_text (with_data ds ps) in
    let two : List ℕ = value ++ 32 ∷ [] in (
      (
        name_stays (codes "data") (32 ∷ ((address ++ (32 ∷ two)) ++ end)) refl refl,
        (
          number_stays d.address (32 ∷ (two ++ end)) has.address refl,
          (number_stays d.value (32 ∷ end) has.value refl, tt),
        ),
      ),
      with_data-scanned words ds ps small parts.1 s,
    )

-- a printed datum is read as a declaration
datum_declared : (d : Datum) (line start : ℕ) → HasWords d → is_declaration (shown_piece line start (datum_piece d)) ≡ true
datum_declared d line start has = rw (number_of-decimal d.address has.address) refl

-- of this datum, where its address is in its range
datum_back : (words least : ℕ) (d : Datum) (line start : ℕ) → HasWords d → least ≤ d.address → d.address < words
    → datum_of words least (shown_piece line start (datum_piece d)) ≡ Ok d
unfolding datum_of datum_form
datum_back words least d line start has low below =
    let one : nat_lt d.address least ≡ false = not_below d.address least low in
    let two : nat_le words d.address ≡ false = not_past words d.address below in
    rw (number_of-decimal d.address has.address, number_of-decimal d.value has.value, one, two) refl
  where
    not_below : (n k : ℕ) → k ≤ n → nat_lt n k ≡ false
    not_below n k h = grind (arith, h)

    not_past : (k n : ℕ) → n < k → nat_le k n ≡ false
    not_past k n h = grind (arith, h)

-- ---- no datum

-- a word that is not 'data' begins no datum
other_word : (kind : Kind) (text : List ℕ) (line start : ℕ) (more : List Item) → is_keyword (codes "data") (record { kind = kind; text = text }) ≡ false
    → begins_datum (placed_at line start (Word kind text ∷ more)) ≡ false
other_word kind text line start more h = by (placed_at line (start + length text) more) where
  by : (ws : List Placed) → begins_datum (record { line = line; start = start; word = record { kind = kind; text = text } } ∷ ws) ≡ false
  by [] = refl
  by (w ∷ ws) = rw h refl

-- nor does a name with a mark after it
name_of_part : (name mark : List ℕ) (line start : ℕ) (more : List Item) → begins_datum (placed_at line start (Word Name name ∷ Word Mark mark ∷ more)) ≡ false
name_of_part name mark line start more = elim (is_keyword (codes "data") (record { kind = Name; text = name })) as (λ b. (b && false) ≡ false) [
  | true ↦ refl
  | false ↦ refl
]

-- no move begins as a datum does
move_no_datum : (u : Units) (m : Machine) (guard : Option GuardRef) (src : Source) (dst : Dest) (line start : ℕ) (more : List Item)
    → begins_datum (placed_at line start ((guard_items m guard ++ (source_items m src ++ toward_items u m dst)) ++ more)) ≡ false
move_no_datum u m None (source.Reg file index) dst line start more =
    name_of_part (file_name m file) (codes ".") line start (Word Number (decimal index) ∷ (toward_items u m dst ++ more))
move_no_datum u m None (source.Imm unit index) dst line start more =
    name_of_part (imm_name m unit) (codes ".") line start (Word Number (decimal index) ∷ (toward_items u m dst ++ more))
move_no_datum u m None (source.Shown unit) dst line start more =
    name_of_part (unit_name m unit) (codes ".") line start (Word Name (codes "r") ∷ (toward_items u m dst ++ more))
move_no_datum u m None source.Ra dst line start more =
    name_of_part (codes "gcu") (codes ".") line start (Word Name (codes "ra") ∷ (toward_items u m dst ++ more))
move_no_datum u m None (source.Value word) dst line start more = other_word Number (decimal word) line start (toward_items u m dst ++ more) refl
move_no_datum u m (Some g) src dst line start more =
    other_word Mark (sense_text g.inverted) line start
    (Word Name (file_name m g.file) ∷ Word Mark (codes ".") ∷ Word Number (decimal g.index) ∷ Blank ∷ ((source_items m src ++ toward_items u m dst) ++ more)) refl

-- nor does a slot
slot_no_datum : (u : Units) (m : Machine) (slot : Option Move) (line start : ℕ) (more : List Item)
    → begins_datum (placed_at line start (slot_items u m slot ++ more)) ≡ false
slot_no_datum u m None line start more = other_word Mark (codes "...") line start more refl
slot_no_datum u m (Some v) line start more = move_no_datum u m v.guard v.src v.dst line start more

-- pieces that do not begin with data
pub record HaveNoData (ps : List Piece) : Type 0 where
  pub none : (words least : ℕ) (before : List Datum) → data_from words least before ps ≡ Ok before
  pub behind : behind_data ps ≡ ps

-- where the first is no declaration
first_no_data : (p : Piece) (ps : List Piece) → is_declaration p ≡ false → HaveNoData (p ∷ ps)
first_no_data p ps h = record { none = λ words least before. rw h refl; behind = rw h refl }

-- instructions begin with no data
pub code_no_data : (u : Units) (m : Machine) (is : List Instruction) (line start : ℕ) → HaveNoData (pieces_shown false line start (code_pieces u m is))
code_no_data u m [] line start = first_no_data _ [] refl
code_no_data u m (i ∷ is) line start = by i.moves (code_no_data u m is line start) where
  by : (moves : List (Option Move)) → HaveNoData (pieces_shown false line start (code_pieces u m is))
      → HaveNoData (pieces_shown false line start (slot_pieces u m moves i.long ++ code_pieces u m is))
  by [] more = more
  by (slot ∷ []) more = first_no_data _ _ (slot_no_datum u m slot line start (long_items m i.long ++ Blank ∷ []))
  by (slot ∷ next ∷ moves) more = first_no_data _ _ (slot_no_datum u m slot line start (Blank ∷ []))

-- ---- data and what comes after them

-- the line after data
abbrev pub line_past : (line : ℕ) → List Datum → ℕ
line_past line [] = line
line_past line (d ∷ ds) = line_past (line + 1) ds

-- the place after them
abbrev pub start_past : (start : ℕ) → List Datum → ℕ
start_past start [] = start
start_past start (d ∷ ds) = start_past (behind start (datum_piece d).items + 2) ds

-- data are read, up to pieces that begin with none
pub data_back : (words least : ℕ) (before init : List Datum) (ps : List PieceText) (line start : ℕ) → words ≤ 2 ^ 32 → rises_from least init ≡ true
    → fits words init ≡ true → HaveNoData (pieces_shown false (line_past line init) (start_past start init) ps)
    → data_from words least before (pieces_shown false line start (with_data init ps)) ≡ Ok (before ++ init)
data_back words least before [] ps line start small rise fit free = rw (append-nil before) (free.none words least before)
data_back words least before (d ∷ ds) ps line start small rise fit free =
    let rises = and_parts (nat_le least d.address) (rises_from (d.address + 1) ds) rise in
    let parts = and_parts (nat_lt d.address words && nat_lt d.value (2 ^ 32)) (fits words ds) fit in
    let has = has_words words d small parts.0 in
    let below = ltb-true d.address words (and_parts (nat_lt d.address words) (nat_lt d.value (2 ^ 32)) parts.0).0 in
    let more = data_back words (d.address + 1) (before ++ d ∷ []) ds ps (line + 1) (behind start (datum_piece d).items + 2) small rises.1 parts.1 free in
    rw (datum_declared d line start has, datum_back words least d line start has (leb-true least d.address rises.0) below)
    (rw (append_assoc before (d ∷ []) ds) at more)

-- and these are left
pub data_behind : (words : ℕ) (init : List Datum) (ps : List PieceText) (line start : ℕ) → words ≤ 2 ^ 32 → fits words init ≡ true
    → HaveNoData (pieces_shown false (line_past line init) (start_past start init) ps)
    → behind_data (pieces_shown false line start (with_data init ps)) ≡ pieces_shown false (line_past line init) (start_past start init) ps
data_behind words [] ps line start small fit free = free.behind
data_behind words (d ∷ ds) ps line start small fit free =
    let parts = and_parts (nat_lt d.address words && nat_lt d.value (2 ^ 32)) (fits words ds) fit in
    let has = has_words words d small parts.0 in
    rw (datum_declared d line start has) (data_behind words ds ps (line + 1) (behind start (datum_piece d).items + 2) small parts.1 free)
