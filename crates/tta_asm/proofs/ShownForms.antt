-- The form of each printed piece is that of its slot.
use Rattle.std.proofs.Common.{◌≡◌, ℕ, ◌+◌, Bool, true, false, List, [], ◌∷◌, ◌++◌, refl}
use Rattle.std.specs.Prelude.{Option, Some, None, Ok, codes}
use Rattle.std.proofs.lemmas.List.{append_assoc}
use Rattle.tta_asm.specs.Cited.{Mark, is_mark, Units, GuardRef, Source, Dest, Machine, Move, Long}
use Rattle.tta_arch.specs.declared.ends.Source.TheVariants as source
use Rattle.tta_arch.specs.declared.ends.Dest.TheVariants as dest
use Rattle.tta_disasm.specs.Canonical.{file_name, imm_name, unit_name, template_name, op_name_at}
use Rattle.tta_asm.specs.Pieces.{Piece}
use Rattle.tta_asm.specs.Forms.{Constant, SourceForm, Value, Shown, Ra, DestForm, Operand, Trigger, GuardForm, MoveForm, SlotForm, LongForm}
use Rattle.tta_asm.specs.Forms.{SourceForm as source_form_of}
use Rattle.tta_asm.specs.Forms.{DestForm as dest_form_of}
use Rattle.tta_asm.specs.Syntax.{read, line_of, begins_with, sense_of, source_form, dest_form, guard_form, move_form, slot_form, long_form, piece_form}
use Rattle.tta_asm.proofs.ShownItems.{Item, Blank, placed_at, behind}
use Rattle.tta_asm.proofs.ShownScan.{close_of}
use Rattle.tta_asm.proofs.ShownPieces.{PieceText}
use Rattle.tta_asm.proofs.ShownMoves.{sense_text, guard_items, source_items, dest_items, toward_items, slot_items, long_items, last_piece, inner_piece}
use Rattle.tta_asm.proofs.ShownScanned.{GuardFits, SourceFits, DestFits, SlotFits, LongFits}
use Rattle.tta_text.proofs.ShownWords.{number_of-decimal}

-- ---- what slots say

-- a guard, if any
abbrev pub guard_said : Machine → Option GuardRef → Option GuardForm
guard_said m None = None
guard_said m (Some g) = Some (record { file = file_name m g.file; index = g.index; inverted = g.inverted })

-- a source
abbrev pub source_said : Machine → Source → SourceForm
source_said m (source.Reg file index) = source_form_of.Place (file_name m file) index
source_said m (source.Imm unit index) = source_form_of.Place (imm_name m unit) index
source_said m (source.Shown unit) = Shown (unit_name m unit)
source_said m source.Ra = Ra
source_said m (source.Value word) = Value (Constant word)

-- a destination
abbrev pub dest_said : Units → Machine → Dest → DestForm
dest_said u m (dest.Reg file index) = dest_form_of.Place (file_name m file) index
dest_said u m (dest.Operand unit) = Operand (unit_name m unit)
dest_said u m (dest.Trigger unit op) = Trigger (unit_name m unit) (op_name_at u m unit op)
dest_said u m dest.Jump = Trigger (codes "gcu") (codes "jump")
dest_said u m dest.Call = Trigger (codes "gcu") (codes "call")
dest_said u m dest.Halt = Trigger (codes "gcu") (codes "halt")

-- a move
abbrev pub move_said : Units → Machine → Move → MoveForm
move_said u m v = record { guard = guard_said m v.guard; src = source_said m v.src; dst = dest_said u m v.dst }

-- a slot on this line
abbrev pub slot_said : Units → Machine → (line : ℕ) → Option Move → SlotForm
slot_said u m line None = record { line = line; action = None }
slot_said u m line (Some v) = record { line = line; action = Some (move_said u m v) }

-- a long immediate on this line, if any
abbrev pub long_said : Machine → (line : ℕ) → Option Long → Option LongForm
long_said m line None = None
long_said m line (Some l) = Some (record { line = line; template = template_name m l.template; value = Constant l.value })

-- ---- readings

-- a source is read, whatever comes after it
source_read : (m : Machine) (src : Source) (end line start : ℕ) (more : List Item) → SourceFits m src
    → source_form end (placed_at line start (source_items m src ++ more))
    ≡ read (source_said m src) (placed_at line (behind start (source_items m src)) more)
unfolding source_form
source_read m (source.Reg file index) end line start more f = rw (number_of-decimal index f.1) refl
source_read m (source.Imm unit index) end line start more f = rw (number_of-decimal index f.1) refl
source_read m (source.Shown unit) end line start more f = refl
source_read m source.Ra end line start more f = refl
source_read m (source.Value word) end line start more f = rw (number_of-decimal word f) refl

-- a destination too
dest_read : (u : Units) (m : Machine) (dst : Dest) (end line start : ℕ) (more : List Item) → DestFits u m dst
    → dest_form end (placed_at line start (dest_items u m dst ++ more))
    ≡ read (dest_said u m dst) (placed_at line (behind start (dest_items u m dst)) more)
unfolding dest_form
dest_read u m (dest.Reg file index) end line start more f = rw (number_of-decimal index f.1) refl
dest_read u m (dest.Operand unit) end line start more f = refl
dest_read u m (dest.Trigger unit op) end line start more f = refl
dest_read u m dest.Jump end line start more f = refl
dest_read u m dest.Call end line start more f = refl
dest_read u m dest.Halt end line start more f = refl

-- the mark of a guard
sense_read : (inverted : Bool) → sense_of (record { kind = Mark; text = sense_text inverted }) ≡ Some inverted
sense_read true = refl
sense_read false = refl

-- a guard is read, and none where a source comes next
guard_read : (m : Machine) (guard : Option GuardRef) (src : Source) (end line start : ℕ) (more : List Item) → GuardFits m guard
    → guard_form end (placed_at line start (guard_items m guard ++ (source_items m src ++ more)))
    ≡ read (guard_said m guard) (placed_at line (behind start (guard_items m guard)) (source_items m src ++ more))
unfolding guard_form
guard_read m None (source.Reg file index) end line start more f = refl
guard_read m None (source.Imm unit index) end line start more f = refl
guard_read m None (source.Shown unit) end line start more f = refl
guard_read m None source.Ra end line start more f = refl
guard_read m None (source.Value word) end line start more f = refl
guard_read m (Some g) src end line start more f = rw (sense_read g.inverted, number_of-decimal g.index f.1) refl

-- the place after the items of a move
abbrev pub behind_move : Units → Machine → Move → (start : ℕ) → ℕ
behind_move u m v start =
    behind (behind (behind start (guard_items m v.guard)) (source_items m v.src) + 1 + 2 + 1) (dest_items u m v.dst)

-- a move is read
move_read : (u : Units) (m : Machine) (v : Move) (end line start : ℕ) (more : List Item) → SlotFits u m (Some v)
    → move_form end (placed_at line start (guard_items m v.guard ++ (source_items m v.src ++ (toward_items u m v.dst ++ more))))
    ≡ read (move_said u m v) (placed_at line (behind_move u m v start) more)
unfolding move_form
move_read u m v end line start more f =
    let at = behind start (guard_items m v.guard) in
    let next = behind at (source_items m v.src) in
    rw (
      guard_read m v.guard v.src end line start (toward_items u m v.dst ++ more) f.0,
      source_read m v.src end line at (toward_items u m v.dst ++ more) f.1,
      dest_read u m v.dst end line (next + 1 + 2 + 1) more f.2,
    ) refl

-- the mark of a guard is not three dots
no_dots : (inverted : Bool) → is_mark (codes "...") (record { kind = Mark; text = sense_text inverted }) ≡ false
no_dots true = refl
no_dots false = refl

-- no move begins with three dots
move_begins : (m : Machine) (guard : Option GuardRef) (src : Source) (line start : ℕ) (more : List Item)
    → begins_with (codes "...") (placed_at line start (guard_items m guard ++ (source_items m src ++ more))) ≡ false
move_begins m None (source.Reg file index) line start more = refl
move_begins m None (source.Imm unit index) line start more = refl
move_begins m None (source.Shown unit) line start more = refl
move_begins m None source.Ra line start more = refl
move_begins m None (source.Value word) line start more = refl
move_begins m (Some g) src line start more = no_dots g.inverted

-- the first word of a move is on its line
move_line : (m : Machine) (guard : Option GuardRef) (src : Source) (end line start : ℕ) (more : List Item)
    → line_of end (placed_at line start (guard_items m guard ++ (source_items m src ++ more))) ≡ line
move_line m None (source.Reg file index) end line start more = refl
move_line m None (source.Imm unit index) end line start more = refl
move_line m None (source.Shown unit) end line start more = refl
move_line m None source.Ra end line start more = refl
move_line m None (source.Value word) end line start more = refl
move_line m (Some g) src end line start more = refl

-- the place after a slot
abbrev pub behind_slot : Units → Machine → Option Move → (start : ℕ) → ℕ
behind_slot u m None start = start + 3
behind_slot u m (Some v) start = behind_move u m v start

-- a slot is read
slot_read : (u : Units) (m : Machine) (slot : Option Move) (end line start : ℕ) (more : List Item) → SlotFits u m slot
    → slot_form end (placed_at line start (slot_items u m slot ++ more))
    ≡ read (slot_said u m line slot) (placed_at line (behind_slot u m slot start) more)
unfolding slot_form
slot_read u m None end line start more f = refl
slot_read u m (Some v) end line start more f =
    let toward = toward_items u m v.dst in
    let one = append_assoc (guard_items m v.guard) (source_items m v.src ++ toward) more in
    let two = append_assoc (source_items m v.src) toward more in
    rw (
      one,
      two,
      move_begins m v.guard v.src line start (toward ++ more),
      move_line m v.guard v.src end line start (toward ++ more),
      move_read u m v end line start more f,
    ) refl

-- a long immediate is read, if there is one, and nothing is left
long_read : (m : Machine) (long : Option Long) (end line start : ℕ) → LongFits m long
    → long_form end (placed_at line start (long_items m long ++ Blank ∷ [])) ≡ read (long_said m line long) []
unfolding long_form
long_read m None end line start f = refl
long_read m (Some l) end line start f = rw (number_of-decimal l.value f.1) refl

-- ---- pieces

-- a printed piece as it is cut out of a text
abbrev pub shown_piece : (line start : ℕ) → PieceText → Piece
shown_piece line start p = record { words = placed_at line start p.items; close = close_of p.last; line = line }

-- the last piece of an instruction has the form of its slot and its long immediate
pub last_read : (u : Units) (m : Machine) (slot : Option Move) (long : Option Long) (line start : ℕ)
    → SlotFits u m slot → LongFits m long
    → piece_form (shown_piece line start (last_piece u m slot long))
    ≡ Ok (record { slot = slot_said u m line slot; long = long_said m line long })
unfolding piece_form
last_read u m slot long line start f g =
    rw (
      slot_read u m slot line line start (long_items m long ++ Blank ∷ []) f,
      long_read m long line line (behind_slot u m slot start) g,
    ) refl

-- and any other piece that of its slot
pub inner_read : (u : Units) (m : Machine) (slot : Option Move) (line start : ℕ) → SlotFits u m slot
    → piece_form (shown_piece line start (inner_piece u m slot))
    ≡ Ok (record { slot = slot_said u m line slot; long = None })
unfolding piece_form
inner_read u m slot line start f =
    rw (
      slot_read u m slot line line start (Blank ∷ []) f,
      long_read m None line line (behind_slot u m slot start) tt,
    ) refl
