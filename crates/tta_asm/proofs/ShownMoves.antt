-- What canonical text is printed from: the items of moves, and the pieces of instructions.
use Rattle.std.proofs.Common.{◌≡◌, ℕ, Bool, true, false, List, [], ◌∷◌, ◌++◌, refl}
use Rattle.std.specs.Prelude.{if◌then◌else◌, Option, Some, None, codes, decimal}
use Rattle.std.specs.List.{flat_map}
use Rattle.std.proofs.lemmas.List.{append_assoc, append-nil}
use Rattle.tta_asm.specs.Cited.{Name, Number, Mark, Units, GuardRef, Source, Dest, Machine, Move, Long, Instruction}
use Rattle.tta_arch.specs.declared.ends.Source.TheVariants as source
use Rattle.tta_arch.specs.declared.ends.Dest.TheVariants as dest
use Rattle.tta_disasm.specs.Canonical.{file_name, imm_name, unit_name, template_name, op_name_at, place_text, guard_text, source_text, dest_text, slot_text, slots_text, long_text, instruction_text}
use Rattle.tta_asm.proofs.ShownItems.{Item, Blank, Word, items_text, items_text-append}
use Rattle.tta_asm.proofs.ShownScan.{close_text}
use Rattle.tta_asm.proofs.ShownPieces.{PieceText, pieces_text}

-- ---- items

-- a register
abbrev pub place_items : (name : List ℕ) (index : ℕ) → List Item
place_items name index = Word Name name ∷ Word Mark (codes ".") ∷ Word Number (decimal index) ∷ []

-- the mark of a guard
abbrev pub sense_text : (inverted : Bool) → List ℕ
sense_text inverted = if inverted then codes "!" else codes "?"

-- a guard and a blank, if there is a guard
abbrev pub guard_items : Machine → Option GuardRef → List Item
guard_items m None = []
guard_items m (Some g) =
    Word Mark (sense_text g.inverted) ∷ Word Name (file_name m g.file) ∷ Word Mark (codes ".")
    ∷ Word Number (decimal g.index) ∷ Blank ∷ []

-- a source
abbrev pub source_items : Machine → Source → List Item
source_items m (source.Reg file index) = place_items (file_name m file) index
source_items m (source.Imm unit index) = place_items (imm_name m unit) index
source_items m (source.Shown unit) = Word Name (unit_name m unit) ∷ Word Mark (codes ".") ∷ Word Name (codes "r") ∷ []
source_items m source.Ra = Word Name (codes "gcu") ∷ Word Mark (codes ".") ∷ Word Name (codes "ra") ∷ []
source_items m (source.Value word) = Word Number (decimal word) ∷ []

-- a trigger port with an operation
abbrev pub trigger_items : (unit op : List ℕ) → List Item
trigger_items unit op =
    Word Name unit ∷ Word Mark (codes ".") ∷ Word Name (codes "t") ∷ Word Mark (codes ".") ∷ Word Name op ∷ []

-- a destination
abbrev pub dest_items : Units → Machine → Dest → List Item
dest_items u m (dest.Reg file index) = place_items (file_name m file) index
dest_items u m (dest.Operand unit) = Word Name (unit_name m unit) ∷ Word Mark (codes ".") ∷ Word Name (codes "o") ∷ []
dest_items u m (dest.Trigger unit op) = trigger_items (unit_name m unit) (op_name_at u m unit op)
dest_items u m dest.Jump = trigger_items (codes "gcu") (codes "jump")
dest_items u m dest.Call = trigger_items (codes "gcu") (codes "call")
dest_items u m dest.Halt = trigger_items (codes "gcu") (codes "halt")

-- what stands between the ends of a move, and then its destination
abbrev pub toward_items : Units → Machine → Dest → List Item
toward_items u m dst = Blank ∷ Word Mark (codes "->") ∷ Blank ∷ dest_items u m dst

-- a slot
abbrev pub slot_items : Units → Machine → Option Move → List Item
slot_items u m None = Word Mark (codes "...") ∷ []
slot_items u m (Some v) = guard_items m v.guard ++ (source_items m v.src ++ toward_items u m v.dst)

-- a long immediate and the blank before it, if there is one
abbrev pub long_items : Machine → Option Long → List Item
long_items m None = []
long_items m (Some l) =
    Blank ∷ Word Mark (codes "[") ∷ Word Name (template_name m l.template) ∷ Word Mark (codes "=")
    ∷ Word Number (decimal l.value) ∷ Word Mark (codes "]") ∷ []

-- ---- pieces

-- the last slot of an instruction, and a slot that is not the last
abbrev pub last_piece : Units → Machine → Option Move → Option Long → PieceText
last_piece u m slot long = record { items = slot_items u m slot ++ (long_items m long ++ Blank ∷ []); last = true }

-- a slot that is not the last
abbrev pub inner_piece : Units → Machine → Option Move → PieceText
inner_piece u m slot = record { items = slot_items u m slot ++ Blank ∷ []; last = false }

-- the pieces of an instruction that has a slot
abbrev pub slot_pieces : Units → Machine → List (Option Move) → Option Long → List PieceText
slot_pieces u m [] long = []
slot_pieces u m (slot ∷ []) long = last_piece u m slot long ∷ []
slot_pieces u m (slot ∷ next ∷ slots) long = inner_piece u m slot ∷ slot_pieces u m (next ∷ slots) long

-- the pieces of instructions
abbrev pub code_pieces : Units → Machine → List Instruction → List PieceText
code_pieces u m [] = []
code_pieces u m (i ∷ is) = slot_pieces u m i.moves i.long ++ code_pieces u m is

-- ---- their texts

-- a register is printed as its items
place_items-text : (name : List ℕ) (index : ℕ) → items_text (place_items name index) ≡ place_text name index
place_items-text name index = rw (append-nil (decimal index)) refl

-- and so is a guard
guard_items-text : (m : Machine) (guard : Option GuardRef) → items_text (guard_items m guard) ≡ guard_text m guard
guard_items-text m None = refl
guard_items-text m (Some g) =
    rw (append_assoc (file_name m g.file) (46 ∷ decimal g.index) (32 ∷ [])) refl

-- and a source
source_items-text : (m : Machine) (src : Source) → items_text (source_items m src) ≡ source_text m src
source_items-text m (source.Reg file index) = place_items-text (file_name m file) index
source_items-text m (source.Imm unit index) = place_items-text (imm_name m unit) index
source_items-text m (source.Shown unit) = refl
source_items-text m source.Ra = refl
source_items-text m (source.Value word) = append-nil (decimal word)

-- and a destination
dest_items-text : (u : Units) (m : Machine) (dst : Dest) → items_text (dest_items u m dst) ≡ dest_text u m dst
dest_items-text u m (dest.Reg file index) = place_items-text (file_name m file) index
dest_items-text u m (dest.Operand unit) = refl
dest_items-text u m (dest.Trigger unit op) = rw (append-nil (op_name_at u m unit op)) refl
dest_items-text u m dest.Jump = refl
dest_items-text u m dest.Call = refl
dest_items-text u m dest.Halt = refl

-- and a slot
slot_items-text : (u : Units) (m : Machine) (slot : Option Move) → items_text (slot_items u m slot) ≡ slot_text u m slot
slot_items-text u m None = refl
slot_items-text u m (Some v) =
    rw (
      items_text-append (guard_items m v.guard) (source_items m v.src ++ toward_items u m v.dst),
      items_text-append (source_items m v.src) (toward_items u m v.dst),
      guard_items-text m v.guard,
      source_items-text m v.src,
      dest_items-text u m v.dst,
    ) refl

-- and a long immediate
long_items-text : (m : Machine) (long : Option Long) → items_text (long_items m long) ≡ long_text m long
long_items-text m None = refl
long_items-text m (Some l) = refl

-- the slots of an instruction, its long immediate and its end
slot_pieces-text : (u : Units) (m : Machine) (slot : Option Move) (slots : List (Option Move)) (long : Option Long)
    → pieces_text (slot_pieces u m (slot ∷ slots) long)
    ≡ slots_text u m (slot ∷ slots) ++ (long_text m long ++ codes " ;\n")
slot_pieces-text u m slot [] long =
    let text = slot_text u m slot in
    rw (
      items_text-append (slot_items u m slot) (long_items m long ++ Blank ∷ []),
      items_text-append (long_items m long) (Blank ∷ []),
      slot_items-text u m slot,
      long_items-text m long,
      append_assoc text (long_text m long ++ 32 ∷ []) (59 ∷ 10 ∷ []),
      append_assoc (long_text m long) (32 ∷ []) (59 ∷ 10 ∷ []),
    ) refl
slot_pieces-text u m slot (next ∷ slots) long =
    let text = slot_text u m slot in
    let more = slots_text u m (next ∷ slots) in
    let end = long_text m long ++ (32 ∷ 59 ∷ 10 ∷ []) in
    rw (
      items_text-append (slot_items u m slot) (Blank ∷ []),
      slot_items-text u m slot,
      slot_pieces-text u m next slots long,
      append_assoc text (32 ∷ []) (44 ∷ 32 ∷ (more ++ end)),
      append_assoc text (32 ∷ 44 ∷ 32 ∷ more) end,
    ) refl

-- pieces and more
pub pieces_text-append : (ps qs : List PieceText) → pieces_text (ps ++ qs) ≡ pieces_text ps ++ pieces_text qs
pieces_text-append [] qs = refl
pieces_text-append (p ∷ ps) qs =
    rw (
      pieces_text-append ps qs,
      append_assoc (items_text p.items) (close_text p.last ++ pieces_text ps) (pieces_text qs),
      append_assoc (close_text p.last) (pieces_text ps) (pieces_text qs),
    ) refl

-- there is one at least
abbrev pub HasFirst : {A : Type 0} → List A → Type 0
HasFirst [] = ⊥
HasFirst (x ∷ xs) = Unit {0}

-- the same of slots of which there is one at least
moves-text : (u : Units) (m : Machine) (moves : List (Option Move)) (long : Option Long) → HasFirst moves
    → pieces_text (slot_pieces u m moves long) ≡ slots_text u m moves ++ (long_text m long ++ codes " ;\n")
moves-text u m [] long h = absurd h
moves-text u m (slot ∷ slots) long h = slot_pieces-text u m slot slots long

-- each instruction has a slot
abbrev pub HaveSlots : List Instruction → Type 0
HaveSlots [] = Unit {0}
HaveSlots (i ∷ is) = HasFirst i.moves × HaveSlots is

-- the text of instructions is the canonical one
pub code_pieces-text : (u : Units) (m : Machine) (is : List Instruction) → HaveSlots is
    → pieces_text (code_pieces u m is) ≡ flat_map (instruction_text u m) is
unfolding instruction_text
code_pieces-text u m [] h = refl
code_pieces-text u m (i ∷ is) h =
    rw (
      pieces_text-append (slot_pieces u m i.moves i.long) (code_pieces u m is),
      moves-text u m i.moves i.long h.0,
      code_pieces-text u m is h.1,
    ) refl
