-- What the code reads, as the definitions see it.
use Rattle.std.specs.Prelude.{ℕ, List, map, option_map}
use Rattle.tta_asm.specs.Cited.{plain}
use Rattle.tta_asm.specs.declared.pieces.PlacedWord.{PlacedWord}
use Rattle.tta_asm.specs.declared.pieces.Close.{Close}
use Rattle.tta_asm.specs.declared.forms.ValueForm.{ValueForm as ValueWords}
use Rattle.tta_asm.specs.declared.forms.ValueForm.TheVariants as value_words
use Rattle.tta_asm.specs.declared.forms.SourceForm.{SourceForm as SourceWords}
use Rattle.tta_asm.specs.declared.forms.SourceForm.TheVariants as source_words
use Rattle.tta_asm.specs.declared.forms.DestForm.{DestForm as DestWords}
use Rattle.tta_asm.specs.declared.forms.DestForm.TheVariants as dest_words
use Rattle.tta_asm.specs.declared.forms.GuardForm.{GuardForm as GuardWords}
use Rattle.tta_asm.specs.declared.forms.MoveForm.{MoveForm as MoveWords}
use Rattle.tta_asm.specs.declared.forms.SlotForm.{SlotForm as SlotWords}
use Rattle.tta_asm.specs.declared.forms.LongForm.{LongForm as LongWords}
use Rattle.tta_asm.specs.declared.forms.PieceForm.{PieceForm as PieceWords}
use Rattle.tta_asm.specs.Pieces.{Placed, Piece}
use Rattle.tta_asm.specs.Forms.{ValueForm, Constant, LabelName, SourceForm, Value, Shown, Ra, DestForm, Operand, Trigger, GuardForm, MoveForm, SlotForm, LongForm, PieceForm}
use Rattle.tta_asm.specs.Forms.{SourceForm as source}
use Rattle.tta_asm.specs.Forms.{DestForm as dest}

-- ---- pieces

-- a word with its place
abbrev pub placed_seen : PlacedWord → Placed
placed_seen w = record { line = w.line; start = w.start; word = plain w.word }

-- a piece of these words
abbrev pub piece_seen : List PlacedWord → Close → (line : ℕ) → Piece
piece_seen words close line = record { words = map placed_seen words; close = close; line = line }

-- ---- forms

-- a constant or a label's name
abbrev pub value_seen : ValueWords → ValueForm
value_seen (value_words.Constant n) = Constant n
value_seen (value_words.Label name) = LabelName name.now

-- where a move takes its word from
abbrev pub source_seen : SourceWords → SourceForm
source_seen (source_words.Value v) = Value (value_seen v)
source_seen (source_words.Place name index) = source.Place name.now index
source_seen (source_words.Shown unit) = Shown unit.now
source_seen source_words.Ra = Ra

-- where a move puts its word
abbrev pub dest_seen : DestWords → DestForm
dest_seen (dest_words.Place name index) = dest.Place name.now index
dest_seen (dest_words.Operand unit) = Operand unit.now
dest_seen (dest_words.Trigger unit op) = Trigger unit.now op.now

-- the register of a guard, and its sense
abbrev pub guard_seen : GuardWords → GuardForm
guard_seen g = record { file = g.file.now; index = g.index; inverted = g.inverted }

-- a move, with its guard if it has one
abbrev pub move_seen : MoveWords → MoveForm
move_seen v = record { guard = option_map guard_seen v.guard; src = source_seen v.src; dst = dest_seen v.dst }

-- a slot, which holds a move or nothing, with its line
abbrev pub slot_seen : SlotWords → SlotForm
slot_seen s = record { line = s.line; action = option_map move_seen s.action }

-- a long immediate with its line
abbrev pub long_seen : LongWords → LongForm
long_seen l = record { line = l.line; template = l.template.now; value = value_seen l.value }

-- a slot, with the long immediate that stands after it if one does
abbrev pub form_seen : PieceWords → PieceForm
form_seen f = record { slot = slot_seen f.slot; long = option_map long_seen f.long }
