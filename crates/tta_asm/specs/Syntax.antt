-- The form of a piece. Where its words do not fit, the line of the first that does not is reported, or that of what closes
-- the piece where a word is missing.
use Rattle.std.specs.Prelude.{ℕ, Bool, true, false, ◌&&◌, if◌then◌else◌, List, [], ◌∷◌, drop, Option, Some, None, option_map, is_none, Result, Ok, Err, codes}
use Rattle.std.specs.Str.{bytes_eq}
use Rattle.tta_asm.specs.Cited.{Lexeme, is_keyword, is_mark, name_of, value_of, constant_of, or_refuse}
use Rattle.tta_parse.specs.Steps.{◌>>=◌}
use Rattle.tta_asm.specs.declared.pieces.Close.{Close}
use Rattle.tta_asm.specs.declared.pieces.Close.TheVariants.{Comma, Colon, Semicolon, End}
use Rattle.tta_asm.specs.Pieces.{Placed, Piece}
use Rattle.tta_asm.specs.Forms.{ValueForm, Constant, LabelName, SourceForm, Value, Shown, Ra, DestForm, Operand, Trigger, GuardForm, MoveForm, SlotForm, LongForm, PieceForm}
use Rattle.tta_asm.specs.Forms.{SourceForm as source}
use Rattle.tta_asm.specs.Forms.{DestForm as dest}

-- ---- words

-- what was read, with the words after it
pub record Read (A : Type 0) : Type 0 where
  pub value : A
  pub rest : List Placed

-- a reading of words, or the line where they do not fit
abbrev pub Reading : Type 0 → Type 0
Reading A = Result (Read A) ℕ

-- a value was read, and these words are left
abbrev pub read : {A : Type 0} → A → List Placed → Reading A
read x ws = Ok (record { value = x; rest = ws })

-- the next word, where it has a meaning; the piece is closed on the line `end`
abbrev pub next_word : {A : Type 0} → (meaning : Lexeme → Option A) → (end : ℕ) → List Placed → Reading A
next_word meaning end [] = Err end
next_word meaning end (w ∷ ws) = or_refuse w.line (meaning w.word) >>= λ x. read x ws

-- the words after a certain mark
abbrev pub behind_mark : (mark : List ℕ) → (end : ℕ) → List Placed → Result (List Placed) ℕ
behind_mark mark end [] = Err end
behind_mark mark end (w ∷ ws) = if is_mark mark w.word then Ok ws else Err w.line

-- whether a certain mark comes next
abbrev pub begins_with : (mark : List ℕ) → List Placed → Bool
begins_with mark [] = false
begins_with mark (w ∷ ws) = is_mark mark w.word

-- the line of the next word
abbrev pub line_of : (end : ℕ) → List Placed → ℕ
line_of end [] = end
line_of end (w ∷ ws) = w.line

-- ---- values and sources

-- a constant, or the name of a label
abbrev pub value_form : Lexeme → Option ValueForm
value_form w = of (name_of w) where
  of : Option (List ℕ) → Option ValueForm
  of (Some name) = Some (LabelName name)
  of None = option_map (λ n. Constant n) (constant_of w)

-- what may stand after the '.' of a source: an index, 'r', or 'ra' of control
abbrev pub source_end : (name : List ℕ) → Lexeme → Option SourceForm
source_end name w =
    if is_keyword (codes "r") w then Some (Shown name)
    else if is_keyword (codes "ra") w && bytes_eq name (codes "gcu") then Some Ra
    else option_map (λ index. source.Place name index) (value_of w)

-- a source that is given by one word, unless a '.' follows the word and it is a name
abbrev pub source_behind : ValueForm → (end : ℕ) → List Placed → Reading SourceForm
source_behind (LabelName name) end ws =
    if begins_with (codes ".") ws then next_word (source_end name) end (drop 1 ws) else read (Value (LabelName name)) ws
source_behind (Constant n) end ws = read (Value (Constant n)) ws

-- a source: a value or the name of a part first, and what stands after it
unfoldable pub source_form : (end : ℕ) → List Placed → Reading SourceForm
source_form end ws = next_word value_form end ws >>= λ first. source_behind first.value end first.rest

-- ---- destinations

-- an operation after UNIT.t
abbrev pub trigger_form : (unit : List ℕ) → (end : ℕ) → List Placed → Reading DestForm
trigger_form unit end ws =
    behind_mark (codes ".") end ws >>= λ rest.
    next_word name_of end rest >>= λ op. read (Trigger unit op.value) op.rest

-- what may stand after the '.' of a destination, and is its last word: an index, or 'o'
abbrev pub dest_end : (name : List ℕ) → Lexeme → Option DestForm
dest_end name w =
    if is_keyword (codes "o") w then Some (Operand name) else option_map (λ index. dest.Place name index) (value_of w)

-- whether a certain word of the language comes next
abbrev pub begins_with_word : (word : List ℕ) → List Placed → Bool
begins_with_word word [] = false
begins_with_word word (w ∷ ws) = is_keyword word w.word

-- a destination: the name of a part, a point, and a port or a register of it
unfoldable pub dest_form : (end : ℕ) → List Placed → Reading DestForm
dest_form end ws =
    next_word name_of end ws >>= λ name.
    behind_mark (codes ".") end name.rest >>= λ rest.
    if begins_with_word (codes "t") rest
    then trigger_form name.value end (drop 1 rest)
    else next_word (dest_end name.value) end rest

-- ---- moves

-- whether a word begins a guard, and then whether the guard is inverted
abbrev pub sense_of : Lexeme → Option Bool
sense_of w = if is_mark (codes "?") w then Some false else if is_mark (codes "!") w then Some true else None

-- a guard after its first mark
abbrev pub guard_register : (inverted : Bool) → (end : ℕ) → List Placed → Reading (Option GuardForm)
guard_register inverted end ws =
    next_word name_of end ws >>= λ file.
    behind_mark (codes ".") end file.rest >>= λ rest.
    next_word value_of end rest >>= λ index.
    read (Some (record { file = file.value; index = index.value; inverted = inverted })) index.rest

-- a guard, or none
unfoldable pub guard_form : (end : ℕ) → List Placed → Reading (Option GuardForm)
guard_form end [] = read None []
guard_form end (w ∷ ws) = of (sense_of w.word) where
  of : Option Bool → Reading (Option GuardForm)
  of (Some inverted) = guard_register inverted end ws
  of None = read None (w ∷ ws)

-- a move: a guard if there is one, a source, the arrow and a destination
unfoldable pub move_form : (end : ℕ) → List Placed → Reading MoveForm
move_form end ws =
    guard_form end ws >>= λ guard.
    source_form end guard.rest >>= λ src.
    behind_mark (codes "->") end src.rest >>= λ rest.
    dest_form end rest >>= λ dst. read (record { guard = guard.value; src = src.value; dst = dst.value }) dst.rest

-- ---- slots and long immediates

-- a slot: '...' for none, or a move
unfoldable pub slot_form : (end : ℕ) → List Placed → Reading SlotForm
slot_form end ws =
    if begins_with (codes "...") ws
    then read (record { line = line_of end ws; action = None }) (drop 1 ws)
    else move_form end ws >>= λ v. read (record { line = line_of end ws; action = Some v.value }) v.rest

-- a long immediate after its '['
abbrev pub long_behind : (line end : ℕ) → List Placed → Reading (Option LongForm)
long_behind line end ws =
    next_word name_of end ws >>= λ template.
    behind_mark (codes "=") end template.rest >>= λ rest.
    next_word value_form end rest >>= λ value.
    behind_mark (codes "]") end value.rest >>= λ behind.
    read (Some (record { line = line; template = template.value; value = value.value })) behind

-- a long immediate, or none
unfoldable pub long_form : (end : ℕ) → List Placed → Reading (Option LongForm)
long_form end ws = if begins_with (codes "[") ws then long_behind (line_of end ws) end (drop 1 ws) else read None ws

-- ---- pieces

-- A slot may be closed by a comma, and with or without a long immediate by a semicolon.
abbrev pub may_close : Close → Option LongForm → Bool
may_close Semicolon long = true
may_close Comma long = is_none long
may_close Colon long = false
may_close End long = false

-- a piece of an instruction: no word is left, and what closes it may do so
unfoldable pub piece_form : Piece → Result PieceForm ℕ
piece_form p =
    slot_form p.line p.words >>= λ slot.
    long_form p.line slot.rest >>= λ long. closed long.rest (record { slot = slot.value; long = long.value }) where
      closed : List Placed → PieceForm → Result PieceForm ℕ
      closed [] form = if may_close p.close form.long then Ok form else Err p.line
      closed (w ∷ ws) form = Err w.line
