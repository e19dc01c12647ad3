-- Which code with which data an assembly text is, and where it is refused.
use Rattle.std.specs.Prelude.{ℕ, ◌+◌, ◌^◌, ◌==◌, Bool, false, not, ◌&&◌, nat_le, if◌then◌else◌, List, [], ◌∷◌, ◌++◌, length, Option, Some, None, Result, Ok, Err}
use Rattle.std.specs.Option.{option_map_or}
use Rattle.tta_asm.specs.Cited.{Declared, named_in, refuse_if, Units, Machine, Move, Long, Instruction, Code, Whole, is_legal}
use Rattle.tta_parse.specs.Steps.{◌>>=◌}
use Rattle.tta_asm.specs.declared.refusal.AsmRefusal.{AsmRefusal}
use Rattle.tta_asm.specs.declared.refusal.AsmRefusal.TheVariants.{Illegal, Slots, Range}
use Rattle.tta_asm.specs.declared.refusal.AsmRefusal.TheVariants as refusal
use Rattle.tta_asm.specs.declared.pieces.Close.{Close}
use Rattle.tta_asm.specs.declared.pieces.Close.TheVariants.{End}
use Rattle.tta_asm.specs.declared.labels.Label.{Label}
use Rattle.tta_asm.specs.Refusals.{Refusal, fitting}
use Rattle.tta_asm.specs.Pieces.{Piece, pieces_of}
use Rattle.tta_asm.specs.Forms.{SlotForm, LongForm, PieceForm}
use Rattle.tta_asm.specs.Syntax.{piece_form}
use Rattle.tta_asm.specs.Labels.{LabelWord, label_of, is_semicolon, labels_of}
use Rattle.tta_asm.specs.Init.{data_from, behind_data}
use Rattle.tta_asm.specs.Resolving.{action_of, long_of}

-- a refusal at this line
abbrev pub at_line : {A : Type 0} → ℕ → Result A AsmRefusal → Result A Refusal
at_line line (Ok x) = Ok x
at_line line (Err e) = Err (line, e)

-- ---- an instruction

-- what slots stand for, the first of them on this bus
abbrev pub moves_of : Units → Machine → Declared Label → (bus : ℕ) → List SlotForm → Result (List (Option Move)) Refusal
moves_of u m labels bus [] = Ok []
moves_of u m labels bus (s ∷ ss) =
    at_line s.line (action_of u m labels bus s.action) >>= λ move.
    moves_of u m labels (bus + 1) ss >>= λ moves. Ok (move ∷ moves)

-- what a long immediate stands for, if there is one
abbrev pub longs_of : Machine → Declared Label → Option LongForm → Result (Option Long) Refusal
longs_of m labels None = Ok None
longs_of m labels (Some l) = at_line l.line (long_of m labels l) >>= λ long. Ok (Some long)

-- An instruction of these slots, which ends on this line, after so many others. It is refused by the number of its slots,
-- then slot by slot, then by its long immediate, then as a whole, and at last where no address is left for it.
unfoldable pub instruction_of : Units → Machine → Declared Label → (line : ℕ) → (before : ℕ) → List SlotForm → Option LongForm → Result Instruction Refusal
instruction_of u m labels line before slots long =
    refuse_if (not (length slots == length m.buses)) (line, Slots) (moves_of u m labels 0 slots) >>= λ moves.
    longs_of m labels long >>= λ l. whole (record { moves = moves; long = l }) where
      whole : Instruction → Result Instruction Refusal
      whole i =
          refuse_if (not (is_legal m i)) (line, Illegal) (
          refuse_if (nat_le (2 ^ m.control.address) before) (line, Range) (Ok i))

-- ---- a text

-- what was read: the slots of an instruction that has not ended, and the instructions
pub record Draft : Type 0 where
  pub slots : List SlotForm
  pub words : List Instruction

-- nothing is read yet
abbrev pub nothing : Draft
nothing = record { slots = []; words = [] }

-- a label, which no other of its name stands before
abbrev pub take_label : Declared Label → Draft → LabelWord → Result Draft Refusal
take_label labels d w =
    if option_map_or (λ l. l.start == w.start) (named_in labels w.name) false then Ok d else Err (w.line, refusal.Label)

-- the draft with one instruction more, and no slots left
abbrev pub with_instruction : Draft → Instruction → Draft
with_instruction d i = record { slots = []; words = d.words ++ i ∷ [] }

-- a slot, with which its instruction may end
abbrev pub take_slot : Units → Machine → Declared Label → Draft → Piece → PieceForm → Result Draft Refusal
take_slot u m labels d p f =
    if is_semicolon p.close
    then (instruction_of u m labels p.line (length d.words) (d.slots ++ f.slot ∷ []) f.long >>= λ i. Ok (with_instruction d i))
    else Ok (record d { slots = d.slots ++ f.slot ∷ [] })

-- the label that a piece is, where no instruction has begun
abbrev pub begun_label : Draft → Piece → Option LabelWord
begun_label d p = of d.slots where
  of : List SlotForm → Option LabelWord
  of [] = label_of p
  of (s ∷ ss) = None

-- a piece: a label where no instruction has begun, and else a slot
unfoldable pub take_piece : Units → Machine → Declared Label → Draft → Piece → Result Draft Refusal
take_piece u m labels d p = of (begun_label d p) where
  of : Option LabelWord → Result Draft Refusal
  of (Some w) = take_label labels d w
  of None = fitting (piece_form p) >>= take_slot u m labels d p

-- whether this is the end of a text, and nothing has begun
abbrev pub is_over : Draft → Piece → Bool
is_over d p = of p.close where
  of : Close → Bool
  of End = length p.words == 0 && length d.slots == 0
  of close = false

-- pieces one after another; the first that is refused is reported
abbrev pub take_pieces : Units → Machine → Declared Label → Draft → List Piece → Result Draft Refusal
take_pieces u m labels d [] = Ok d
take_pieces u m labels d (p ∷ ps) =
    if is_over d p then Ok d else take_piece u m labels d p >>= λ next. take_pieces u m labels next ps

-- the code of pieces among which no data are declared, or their first refusal
abbrev pub assembled_code : Units → Machine → List Piece → Result Code Refusal
assembled_code u m ps = take_pieces u m (labels_of ps) nothing ps >>= λ d. Ok (record { words = d.words })

-- The whole of a text, or its first refusal: its data first, and the code of the pieces after them. So what declares data
-- counts for no label.
unfoldable pub assembled : Units → Machine → List ℕ → Result Whole Refusal
assembled u m text =
    data_from m.data_words 0 [] (pieces_of text) >>= λ init.
    assembled_code u m (behind_data (pieces_of text)) >>= λ code. Ok (record { code = code; init = init })
