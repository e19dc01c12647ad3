-- Canonical text is scanned as the items that it is printed from.
use Rattle.std.proofs.Common.{◌≡◌, ℕ, ◌<◌, ◌^◌, Bool, true, false, List, [], ◌∷◌, ◌++◌, refl}
use Rattle.std.specs.Prelude.{Option, Some, None, codes, decimal}
use Rattle.std.proofs.lemmas.List.{append_assoc, append-nil}
use Rattle.tta_asm.specs.Cited.{Name, Mark, is_word_byte, first_is, is_name, Units, GuardRef, Source, Dest, Machine, Move, Long}
use Rattle.tta_arch.specs.declared.ends.Source.TheVariants as source
use Rattle.tta_arch.specs.declared.ends.Dest.TheVariants as dest
use Rattle.tta_disasm.specs.Canonical.{file_name, imm_name, unit_name, template_name, op_name_at}
use Rattle.tta_asm.proofs.ShownItems.{Item, Blank, Word, items_text, items_text-append}
use Rattle.tta_asm.proofs.ShownScan.{Stays, close_text}
use Rattle.tta_asm.proofs.ShownPieces.{AreScanned, PieceText, pieces_text, ArePieces}
use Rattle.tta_asm.proofs.ShownWords.{name_stays, number_stays, dot_stays, query_stays, bang_stays, equals_stays, open_stays, shut_stays, dots_stays, arrow_stays, name_first, number_first}
use Rattle.tta_asm.proofs.ShownMoves.{place_items, sense_text, guard_items, source_items, trigger_items, dest_items, toward_items, slot_items, long_items, slot_pieces}

-- ---- what names and numbers of code have to be

-- a part or an operation with a name token for a name
abbrev pub IsNamed : List ℕ → Type 0
IsNamed name = is_name name ≡ true

-- a register
abbrev pub PlaceFits : (name : List ℕ) (index : ℕ) → Type 0
PlaceFits name index = IsNamed name × (index < 2 ^ 32)

-- a guard, if any
abbrev pub GuardFits : Machine → Option GuardRef → Type 0
GuardFits m None = Unit {0}
GuardFits m (Some g) = PlaceFits (file_name m g.file) g.index

-- a source
abbrev pub SourceFits : Machine → Source → Type 0
SourceFits m (source.Reg file index) = PlaceFits (file_name m file) index
SourceFits m (source.Imm unit index) = PlaceFits (imm_name m unit) index
SourceFits m (source.Shown unit) = IsNamed (unit_name m unit)
SourceFits m source.Ra = Unit {0}
SourceFits m (source.Value word) = word < 2 ^ 32

-- a destination
abbrev pub DestFits : Units → Machine → Dest → Type 0
DestFits u m (dest.Reg file index) = PlaceFits (file_name m file) index
DestFits u m (dest.Operand unit) = IsNamed (unit_name m unit)
DestFits u m (dest.Trigger unit op) = IsNamed (unit_name m unit) × IsNamed (op_name_at u m unit op)
DestFits u m dest.Jump = Unit {0}
DestFits u m dest.Call = Unit {0}
DestFits u m dest.Halt = Unit {0}

-- a slot
abbrev pub SlotFits : Units → Machine → Option Move → Type 0
SlotFits u m None = Unit {0}
SlotFits u m (Some v) = (g : GuardFits m v.guard) × (s : SourceFits m v.src) × DestFits u m v.dst

-- all slots of an instruction
abbrev pub SlotsFit : Units → Machine → List (Option Move) → Type 0
SlotsFit u m [] = Unit {0}
SlotsFit u m (slot ∷ slots) = SlotFits u m slot × SlotsFit u m slots

-- a long immediate, if any
abbrev pub LongFits : Machine → Option Long → Type 0
LongFits m None = Unit {0}
LongFits m (Some l) = PlaceFits (template_name m l.template) l.value

-- ---- items

-- items and more
AreScanned-append : (is js : List Item) (after : List ℕ) → AreScanned is (items_text js ++ after) → AreScanned js after
    → AreScanned (is ++ js) after
AreScanned-append [] js after s t = t
AreScanned-append (Blank ∷ is) js after s t = AreScanned-append is js after s t
AreScanned-append (Word kind text ∷ is) js after s t =
    let whole = append_assoc (items_text is) (items_text js) after in
    let first : Stays kind text (items_text (is ++ js) ++ after) = rw (items_text-append is js, whole) s.0 in
    (first, AreScanned-append is js after s.1 t)

-- a register is scanned as it was printed
place_scanned : (name : List ℕ) (index : ℕ) (after : List ℕ) → PlaceFits name index → first_is is_word_byte after ≡ false
    → AreScanned (place_items name index) after
place_scanned name index after f stop =
    let first : first_is is_word_byte (decimal index ++ [] ++ after) ≡ true = rw (append-nil (decimal index)) (number_first index after f.1) in (
      name_stays name (46 ∷ (decimal index ++ [] ++ after)) f.0 refl,
      (dot_stays (decimal index ++ [] ++ after) first, (number_stays index after f.1 stop, tt)),
    )

-- the mark of a guard is scanned as a mark
sense_scanned : (inverted : Bool) (after : List ℕ) → Stays Mark (sense_text inverted) after
sense_scanned true after = bang_stays after
sense_scanned false after = query_stays after

-- a guard is scanned as it was printed
guard_scanned : (m : Machine) (guard : Option GuardRef) (after : List ℕ) → GuardFits m guard
    → AreScanned (guard_items m guard) after
guard_scanned m None after f = tt
guard_scanned m (Some g) after f =
    let name = file_name m g.file in
    let index = decimal g.index in
    let blank = 32 ∷ [] in
    let first : first_is is_word_byte (index ++ blank ++ after) ≡ true =
    rw (append_assoc index blank after) (number_first g.index (32 ∷ after) f.1) in (
      sense_scanned g.inverted (name ++ (46 ∷ (index ++ blank)) ++ after),
      (
        name_stays name (46 ∷ (index ++ blank ++ after)) f.0 refl,
        (dot_stays (index ++ blank ++ after) first, (number_stays g.index (32 ∷ after) f.1 refl, tt)),
      ),
    )

-- a name, a dot, and a name of the language
port_scanned : (name port after : List ℕ) → IsNamed name → IsNamed port → first_is is_word_byte after ≡ false
    → AreScanned (Word Name name ∷ Word Mark (codes ".") ∷ Word Name port ∷ []) after
port_scanned name port after f p stop =
    let first : first_is is_word_byte (port ++ [] ++ after) ≡ true = rw (append-nil port) (name_first port after p) in (
      name_stays name (46 ∷ (port ++ [] ++ after)) f refl,
      (dot_stays (port ++ [] ++ after) first, (name_stays port after p stop, tt)),
    )

-- a source is scanned as it was printed
source_scanned : (m : Machine) (src : Source) (after : List ℕ) → SourceFits m src → first_is is_word_byte after ≡ false
    → AreScanned (source_items m src) after
source_scanned m (source.Reg file index) after f stop = place_scanned (file_name m file) index after f stop
source_scanned m (source.Imm unit index) after f stop = place_scanned (imm_name m unit) index after f stop
source_scanned m (source.Shown unit) after f stop = port_scanned (unit_name m unit) (codes "r") after f refl stop
source_scanned m source.Ra after f stop = port_scanned (codes "gcu") (codes "ra") after refl refl stop
source_scanned m (source.Value word) after f stop = (number_stays word after f stop, tt)

-- a trigger port with an operation is scanned as it was printed
trigger_scanned : (unit op after : List ℕ) → IsNamed unit → IsNamed op → first_is is_word_byte after ≡ false
    → AreScanned (trigger_items unit op) after
trigger_scanned unit op after f p stop =
    let more = op ++ [] ++ after in
    let first : first_is is_word_byte more ≡ true = rw (append-nil op) (name_first op after p) in (
      name_stays unit (46 ∷ 116 ∷ 46 ∷ more) f refl,
      (
        dot_stays (116 ∷ 46 ∷ more) refl,
        (name_stays (codes "t") (46 ∷ more) refl refl, (dot_stays more first, (name_stays op after p stop, tt))),
      ),
    )

-- a destination is scanned as it was printed
dest_scanned : (u : Units) (m : Machine) (dst : Dest) (after : List ℕ) → DestFits u m dst → first_is is_word_byte after ≡ false
    → AreScanned (dest_items u m dst) after
dest_scanned u m (dest.Reg file index) after f stop = place_scanned (file_name m file) index after f stop
dest_scanned u m (dest.Operand unit) after f stop = port_scanned (unit_name m unit) (codes "o") after f refl stop
dest_scanned u m (dest.Trigger unit op) after f stop =
    trigger_scanned (unit_name m unit) (op_name_at u m unit op) after f.0 f.1 stop
dest_scanned u m dest.Jump after f stop = trigger_scanned (codes "gcu") (codes "jump") after refl refl stop
dest_scanned u m dest.Call after f stop = trigger_scanned (codes "gcu") (codes "call") after refl refl stop
dest_scanned u m dest.Halt after f stop = trigger_scanned (codes "gcu") (codes "halt") after refl refl stop

-- the arrow and the destination are scanned as they were printed
toward_scanned : (u : Units) (m : Machine) (dst : Dest) (after : List ℕ) → DestFits u m dst
    → first_is is_word_byte after ≡ false → AreScanned (toward_items u m dst) after
toward_scanned u m dst after f stop =
    (arrow_stays (32 ∷ (items_text (dest_items u m dst) ++ after)), dest_scanned u m dst after f stop)

-- a slot with a blank after it
slot_scanned : (u : Units) (m : Machine) (slot : Option Move) (after : List ℕ) → SlotFits u m slot
    → AreScanned (slot_items u m slot) (32 ∷ after)
slot_scanned u m None after f = (dots_stays (32 ∷ after), tt)
slot_scanned u m (Some v) after f =
    let toward = toward_items u m v.dst in
    let source = source_items m v.src in
    let arrow = toward_scanned u m v.dst (32 ∷ after) f.2 refl in
    let ends = AreScanned-append source toward (32 ∷ after) (source_scanned m v.src (items_text toward ++ 32 ∷ after) f.1 refl) arrow in
    AreScanned-append (guard_items m v.guard) (source ++ toward) (32 ∷ after)
    (guard_scanned m v.guard (items_text (source ++ toward) ++ 32 ∷ after) f.0) ends

-- a long immediate with a blank after it
long_scanned : (m : Machine) (long : Option Long) (after : List ℕ) → LongFits m long
    → AreScanned (long_items m long) (32 ∷ after)
long_scanned m None after f = tt
long_scanned m (Some l) after f =
    let name = template_name m l.template in
    let value = decimal l.value in (
      open_stays (name ++ (61 ∷ (value ++ 93 ∷ [])) ++ 32 ∷ after),
      (
        name_stays name (61 ∷ (value ++ 93 ∷ [] ++ 32 ∷ after)) f.0 refl,
        (
          equals_stays (value ++ 93 ∷ [] ++ 32 ∷ after),
          (number_stays l.value (93 ∷ 32 ∷ after) f.1 refl, (shut_stays (32 ∷ after), tt)),
        ),
      ),
    )

-- ---- pieces

-- a slot that is not the last is scanned as it was printed
inner_scanned : (u : Units) (m : Machine) (slot : Option Move) (after : List ℕ) → SlotFits u m slot
    → AreScanned (slot_items u m slot ++ Blank ∷ []) after
inner_scanned u m slot after f = AreScanned-append (slot_items u m slot) (Blank ∷ []) after (slot_scanned u m slot after f) tt

-- and so is the last, with the long immediate after it
last_scanned : (u : Units) (m : Machine) (slot : Option Move) (long : Option Long) (after : List ℕ)
    → SlotFits u m slot → LongFits m long
    → AreScanned (slot_items u m slot ++ (long_items m long ++ Blank ∷ [])) after
last_scanned u m slot None after f g = inner_scanned u m slot after f
last_scanned u m slot (Some l) after f g =
    let long = long_items m (Some l) in
    let end = AreScanned-append long (Blank ∷ []) after (long_scanned m (Some l) after g) tt in
    AreScanned-append (slot_items u m slot) (long ++ Blank ∷ []) after (slot_scanned u m slot _ f) end

-- the pieces of an instruction are scanned as they were printed, where those after them are
pub slot_pieces-scanned : (u : Units) (m : Machine) (slots : List (Option Move)) (long : Option Long) (ps : List PieceText)
    → SlotsFit u m slots → LongFits m long → ArePieces ps → ArePieces (slot_pieces u m slots long ++ ps)
slot_pieces-scanned u m [] long ps f g s = s
slot_pieces-scanned u m (slot ∷ []) long ps f g s =
    (last_scanned u m slot long (close_text true ++ pieces_text ps) f.0 g, s)
slot_pieces-scanned u m (slot ∷ next ∷ slots) long ps f g s =
    let more = slot_pieces u m (next ∷ slots) long ++ ps in (
      inner_scanned u m slot (close_text false ++ pieces_text more) f.0,
      slot_pieces-scanned u m (next ∷ slots) long ps f.1 g s,
    )
