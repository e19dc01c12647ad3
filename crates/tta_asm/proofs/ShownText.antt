-- A legal whole is read back from its canonical text.
use Rattle.std.proofs.Common.{◌≡◌, ℕ, ◌+◌, ◌^◌, ◌<◌, ◌≤◌, Bool, true, false, not, List, [], ◌∷◌, ◌++◌, length, length-append, refl, ap, ◌∙◌, arith}
use Rattle.std.specs.Prelude.{Option, None, Ok, IsTrue}
use Rattle.std.specs.List.{flat_map, AllByRecursion}
use Rattle.std.proofs.lemmas.Bool.{eqb-true}
use Rattle.std.proofs.lemmas.Nat.{pow_pos}
use Rattle.std.proofs.lemmas.List.{append_assoc, append-nil}
use Rattle.tta_asm.specs.Cited.{Units, Machine, StandsOver, IsMachine, Move, Long, Instruction, Whole, is_legal, IsLegalWhole}
use Rattle.tta_code.proofs.LegalParts.{LegalParts, legal_parts}
use Rattle.tta_asm.specs.Forms.{SlotForm}
use Rattle.tta_asm.specs.Labels.{label_of, is_semicolon, instructions_in, labels_from, labels_of}
use Rattle.tta_asm.specs.Assembly.{Draft, instruction_of, begun_label, take_piece, take_pieces, assembled}
use Rattle.tta_disasm.specs.Canonical.{datum_text, canonical}
use Rattle.tta_asm.proofs.Readable.{IsReadable, readable}
use Rattle.tta_asm.proofs.ShownItems.{behind}
use Rattle.tta_asm.proofs.ShownScan.{close_of, line_behind}
use Rattle.tta_asm.proofs.ShownPieces.{PieceText, pieces_text, ArePieces, pieces_shown, pieces_of-shown}
use Rattle.tta_asm.proofs.ShownMoves.{last_piece, inner_piece, slot_pieces, code_pieces, HasFirst, HaveSlots, code_pieces-text}
use Rattle.tta_asm.proofs.ShownScanned.{SlotFits, SlotsFit, LongFits, slot_pieces-scanned}
use Rattle.tta_asm.proofs.ShownForms.{slot_said, long_said, shown_piece, last_read, inner_read}
use Rattle.tta_asm.proofs.ShownCode.{slots_said, instruction_back}
use Rattle.tta_asm.proofs.ShownData.{with_data, with_data-text, with_data-scanned, code_no_data, line_past, start_past, data_back, data_behind}

-- ---- there are no labels

-- a printed piece is no label
no_label : (last : Bool) (line start : ℕ) (p : PieceText) → label_of (shown_piece line start (record p { last = last })) ≡ None
no_label true line start p = refl
no_label false line start p = refl

-- printed pieces have no labels
labels-shown : (ps : List PieceText) (begins : Bool) (address : ℕ) (is_open : Bool) (line start : ℕ)
    → labels_from begins address [] (pieces_shown is_open line start ps) ≡ []
labels-shown [] true address is_open line start = refl
labels-shown [] false address is_open line start = refl
labels-shown (p ∷ ps) true address is_open line start =
    let close = close_of p.last in
    let more = labels-shown ps (is_semicolon close) (address + instructions_in close) (not p.last) (line_behind p.last line) (behind start p.items + 2) in
    rw (no_label p.last line start p) more
labels-shown (p ∷ ps) false address is_open line start =
    let close = close_of p.last in
    labels-shown ps (is_semicolon close) (address + instructions_in close) (not p.last) (line_behind p.last line) (behind start p.items + 2)

-- ---- one piece

-- a draft with these slots and instructions
abbrev draft : List SlotForm → List Instruction → Draft
draft slots words = record { slots = slots; words = words }

-- nor is it one where an instruction has begun
no_begun : (slots : List SlotForm) (words : List Instruction) (line start : ℕ) (p : PieceText)
    → begun_label (draft slots words) (shown_piece line start p) ≡ None
no_begun [] words line start p = no_label p.last line start p
no_begun (s ∷ ss) words line start p = refl

-- a slot that is not the last stands after those before it
take_inner : (u : Units) (m : Machine) (slots : List SlotForm) (words : List Instruction) (slot : Option Move) (line start : ℕ)
    → SlotFits u m slot
    → take_piece u m [] (draft slots words) (shown_piece line start (inner_piece u m slot))
    ≡ Ok (draft (slots ++ slot_said u m line slot ∷ []) words)
unfolding take_piece
take_inner u m slots words slot line start f =
    rw (no_begun slots words line start (inner_piece u m slot), inner_read u m slot line start f) refl

-- the last slot ends its instruction
take_last : (u : Units) (m : Machine) (slots : List SlotForm) (words : List Instruction) (slot : Option Move) (long : Option Long)
    (line start : ℕ) (i : Instruction) → SlotFits u m slot → LongFits m long
    → instruction_of u m [] line (length words) (slots ++ slot_said u m line slot ∷ []) (long_said m line long) ≡ Ok i
    → take_piece u m [] (draft slots words) (shown_piece line start (last_piece u m slot long))
    ≡ Ok (draft [] (words ++ i ∷ []))
unfolding take_piece
take_last u m slots words slot long line start i f g found =
    rw (no_begun slots words line start (last_piece u m slot long), last_read u m slot long line start f g, found) refl

-- ---- one instruction

-- the place after pieces
abbrev behind_pieces : (start : ℕ) → List PieceText → ℕ
behind_pieces start [] = start
behind_pieces start (p ∷ ps) = behind_pieces (behind start p.items + 2) ps

-- the pieces of an instruction are taken as it
take_instruction : (u : Units) (m : Machine) (moves : List (Option Move)) (long : Option Long) (slots : List SlotForm)
    (words : List Instruction) (is_open : Bool) (line start : ℕ) (ps : List PieceText) (i : Instruction)
    → HasFirst moves → SlotsFit u m moves → LongFits m long
    → instruction_of u m [] line (length words) (slots ++ slots_said u m line moves) (long_said m line long) ≡ Ok i
    → take_pieces u m [] (draft slots words) (pieces_shown is_open line start (slot_pieces u m moves long ++ ps))
    ≡ take_pieces u m [] (draft [] (words ++ i ∷ []))
    (pieces_shown false (line + 1) (behind_pieces start (slot_pieces u m moves long)) ps)
take_instruction u m [] long slots words is_open line start ps i some f g found = absurd some
take_instruction u m (slot ∷ []) long slots words is_open line start ps i some f g found =
    rw (take_last u m slots words slot long line start i f.0 g found) refl
take_instruction u m (slot ∷ next ∷ moves) long slots words is_open line start ps i some f g found =
    let said = slot_said u m line slot in
    let all = append_assoc slots (said ∷ []) (slots_said u m line (next ∷ moves)) in
    let at = behind start (inner_piece u m slot).items + 2 in
    let more = take_instruction u m (next ∷ moves) long (slots ++ said ∷ []) words true line at ps i tt f.1 g (rw all found) in
    rw (take_inner u m slots words slot line start f.0) more

-- ---- code

-- an instruction of a machine has a slot
has_first : (m : Machine) (i : Instruction) → IsMachine m → LegalParts m i → HasFirst i.moves
has_first m i rules f =
    let count : length i.moves ≡ length m.buses = eqb-true (length i.moves) (length m.buses) f.count in
    let bus = rules.limits.some_bus in
    let some : 0 < length i.moves = omega arith in by i.moves some where
      by : (moves : List (Option Move)) → 0 < length moves → HasFirst moves
      by [] k = absurd (omega arith)
      by (slot ∷ moves) k = tt

-- the pieces of legal instructions are taken as these
take_code : (u : Units) (m : Machine) (is : List Instruction) (words : List Instruction) (line start : ℕ) → IsMachine m → IsReadable u m
    → AllByRecursion (λ i. IsTrue (is_legal m i)) is → length words + length is ≤ 2 ^ m.control.address
    → take_pieces u m [] (draft [] words) (pieces_shown false line start (code_pieces u m is)) ≡ Ok (draft [] (words ++ is))
take_code u m [] words line start rules stands legal room = rw (append-nil words) refl
take_code u m (i ∷ is) words line start rules stands legal room =
    let left : length words < 2 ^ m.control.address = omega arith in
    let b = instruction_back u m line (length words) i rules stands legal.0 left in
    let first = has_first m i rules (legal_parts m i legal.0) in
    let pieces = slot_pieces u m i.moves i.long in
    let one = take_instruction u m i.moves i.long [] words false line start (code_pieces u m is) i first b.slots b.long b.back in
    let long = length-append words (i ∷ []) in
    let more = take_code u m is (words ++ i ∷ []) (line + 1) (behind_pieces start pieces) rules stands legal.1 (rw long (omega arith)) in
    one ∙ rw (append_assoc words (i ∷ []) is) at more

-- the pieces of legal instructions are scanned as they were printed, and each has a slot
code_scanned : (u : Units) (m : Machine) (is : List Instruction) → IsMachine m → IsReadable u m
    → AllByRecursion (λ i. IsTrue (is_legal m i)) is → (shown : ArePieces (code_pieces u m is)) × HaveSlots is
code_scanned u m [] rules stands legal = (tt, tt)
code_scanned u m (i ∷ is) rules stands legal =
    let b = instruction_back u m 0 0 i rules stands legal.0 (pow_pos m.control.address) in
    let more = code_scanned u m is rules stands legal.1 in (
      slot_pieces-scanned u m i.moves i.long (code_pieces u m is) b.slots b.long more.0,
      (has_first m i rules (legal_parts m i legal.0), more.1),
    )

-- ---- a whole

-- the pieces of a whole are its data and its instructions
abbrev whole_pieces : Units → Machine → Whole → List PieceText
whole_pieces u m whole = with_data whole.init (code_pieces u m whole.code.words)

-- they make its canonical text, and are scanned as they were printed
whole_scanned : (u : Units) (m : Machine) (whole : Whole) → IsMachine m → IsReadable u m → IsLegalWhole m whole
    → (text : pieces_text (whole_pieces u m whole) ≡ canonical u m whole) × ArePieces (whole_pieces u m whole)
unfolding canonical
whole_scanned u m whole rules stands legal =
    let scanned = code_scanned u m whole.code.words rules stands legal.code.words in
    let few = rules.limits.data_words in (
      with_data-text whole.init (code_pieces u m whole.code.words)
          ∙ ap (λ (t : List ℕ). flat_map datum_text whole.init ++ t) (code_pieces-text u m whole.code.words scanned.1),
      with_data-scanned m.data_words whole.init (code_pieces u m whole.code.words) (omega arith) legal.fits scanned.0,
    )

-- a legal whole is read back from its canonical text
pub canonical_assembled : (u : Units) (m : Machine) (whole : Whole) → IsMachine m → StandsOver u m → IsLegalWhole m whole
    → assembled u m (canonical u m whole) ≡ Ok whole
unfolding assembled labels_of
canonical_assembled u m whole rules over legal =
    let stands = readable u m rules over in
    let is = whole.code.words in
    let scanned = whole_scanned u m whole rules stands legal in
    let pieces = pieces_of-shown (whole_pieces u m whole) scanned.1 in
    let line = line_past 1 whole.init in
    let start = start_past 0 whole.init in
    let free = code_no_data u m is line start in
    let words = rules.limits.data_words in
    let small : m.data_words ≤ 2 ^ 32 = omega arith in
    let init = data_back m.data_words 0 [] whole.init (code_pieces u m is) 1 0 small legal.rises legal.fits free in
    let rest = data_behind m.data_words whole.init (code_pieces u m is) 1 0 small legal.fits free in
    let few = legal.code.room in
    let taken = take_code u m is [] line start rules stands legal.code.words (omega arith) in
    rw (← scanned.0, pieces, init, rest, labels-shown (code_pieces u m is) true 0 false line start, taken) refl
