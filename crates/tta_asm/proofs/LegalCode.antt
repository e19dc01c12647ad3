-- What was read is legal.
use Rattle.std.proofs.Common.{◌≡◌, ℕ, ◌^◌, ◌<◌, ◌≤◌, ◌==◌, Bool, true, false, not, nat_le, if◌then◌else◌, IsTrue, List, [], ◌∷◌, ◌++◌, length, length-append, Option, Some, None, Result, Ok, Err, refl, subst, arith}
use Rattle.std.proofs.lemmas.Bool.{not-false, leb-false}
use Rattle.std.specs.List.{AllByRecursion}
use Rattle.std.specs.Option.{option_map_or}
use Rattle.tta_list.proofs.Lists.{all_push}
use Rattle.tta_asm.specs.Cited.{Declared, named_in, refuse_if, Units, Machine, Instruction, is_legal, IsLegalCode}
use Rattle.tta_parse.specs.Steps.{◌>>=◌}
use Rattle.tta_parse.proofs.Steps.{same_ok, then-ok, refuse_if-ok}
use Rattle.tta_asm.specs.declared.labels.Label.{Label}
use Rattle.tta_asm.specs.declared.refusal.AsmRefusal.TheVariants.{Illegal, Slots, Range}
use Rattle.tta_asm.specs.declared.refusal.AsmRefusal.TheVariants as refusal
use Rattle.tta_asm.specs.Refusals.{Refusal, fitting}
use Rattle.tta_asm.specs.Forms.{SlotForm, LongForm, PieceForm}
use Rattle.tta_asm.specs.Pieces.{Piece}
use Rattle.tta_asm.specs.Labels.{LabelWord, is_semicolon}
use Rattle.tta_asm.specs.Syntax.{piece_form}
use Rattle.tta_asm.specs.Assembly.{moves_of, longs_of, instruction_of, Draft, nothing, with_instruction, take_slot, begun_label, take_piece, is_over, take_pieces}

module _ (u : Units) (m : Machine) where
  -- instructions that the machine can carry out, no more than it has addresses
  record AreLegal (d : Draft) : Type 0 where
    pub words : AllByRecursion (λ i. IsTrue (is_legal m i)) d.words
    pub room : length d.words ≤ 2 ^ m.control.address

  -- an instruction, unless it is refused as a whole
  abbrev checked : (line before : ℕ) → Instruction → Result Instruction Refusal
  checked line before i = refuse_if (not (is_legal m i)) (line, Illegal) (refuse_if (nat_le (2 ^ m.control.address) before) (line, Range) (Ok i))

  -- an instruction that was not refused as a whole is legal, and has an address
  checked-legal : (line before : ℕ) (j i : Instruction) → checked line before j ≡ Ok i → IsTrue (is_legal m i) × (before < 2 ^ m.control.address)
  checked-legal line before j i made =
      let legal = refuse_if-ok (not (is_legal m j)) (line, Illegal) (refuse_if (nat_le (2 ^ m.control.address) before) (line, Range) (Ok j)) i made in
      let room = refuse_if-ok (nat_le (2 ^ m.control.address) before) (line, Range) (Ok j) i legal.1 in
      let same : j ≡ i = same_ok j i room.1 in
      (subst (λ x. IsTrue (is_legal m x)) same (not-false (is_legal m j) legal.0), leb-false (2 ^ m.control.address) before room.0)

  module _ (labels : Declared Label) where
    -- an instruction that was read is legal, and has an address
    made-legal : (line before : ℕ) (slots : List SlotForm) (long : Option LongForm) (i : Instruction)
        → instruction_of u m labels line before slots long ≡ Ok i → IsTrue (is_legal m i) × (before < 2 ^ m.control.address)
    unfolding instruction_of
    made-legal line before slots long i made =
        let moves = then-ok (refuse_if (not (length slots == length m.buses)) (line, Slots) (moves_of u m labels 0 slots))
        (λ moves. longs_of m labels long >>= λ l. checked line before (record { moves = moves; long = l })) i made in
        let l = then-ok (longs_of m labels long) (λ l. checked line before (record { moves = moves.0; long = l })) i moves.2 in
        checked-legal line before (record { moves = moves.0; long = l.0 }) i l.2

    -- one legal instruction more
    one-more : (d : Draft) (i : Instruction) → AreLegal d → IsTrue (is_legal m i) × (length d.words < 2 ^ m.control.address) → AreLegal (with_instruction d i)
    one-more d i are one = record {
      words = all_push (λ i. IsTrue (is_legal m i)) d.words i are.words one.0;
      room = let room = one.1 in rw length-append (omega (arith, room));
    }

    -- a slot keeps what was read legal
    slot-legal : (d next : Draft) (p : Piece) (f : PieceForm) (b : Bool) → is_semicolon p.close ≡ b → AreLegal d → take_slot u m labels d p f ≡ Ok next → AreLegal next
    slot-legal d next p f true is are made =
        let it = then-ok (instruction_of u m labels p.line (length d.words) (d.slots ++ f.slot ∷ []) f.long) (λ i. Ok (with_instruction d i)) next (rw is at made) in
        subst AreLegal (same_ok (with_instruction d it.0) next it.2) (one-more d it.0 are (made-legal p.line (length d.words) (d.slots ++ f.slot ∷ []) f.long it.0 it.1))
    slot-legal d next p f false is are made =
        let same : record d { slots = d.slots ++ f.slot ∷ [] } ≡ next = same_ok _ next (rw is at made) in
        subst AreLegal same (record { words = are.words; room = are.room })

    -- a label changes nothing
    label-legal : (d next : Draft) (b : Bool) (e : Refusal) → AreLegal d → (if b then Ok d else Err e) ≡ Ok next → AreLegal next
    label-legal d next true e are made = subst AreLegal (same_ok d next made) are
    label-legal d next false e are made = cc

    -- a piece keeps what was read legal
    piece-legal : (d next : Draft) (p : Piece) (o : Option LabelWord) → begun_label d p ≡ o → AreLegal d → take_piece u m labels d p ≡ Ok next → AreLegal next
    unfolding take_piece
    piece-legal d next p (Some w) is are made =
        label-legal d next (option_map_or (λ l. l.start == w.start) (named_in labels w.name) false) (w.line, refusal.Label) are (rw is at made)
    piece-legal d next p None is are made =
        let form = then-ok (fitting (piece_form p)) (take_slot u m labels d p) next (rw is at made) in
        slot-legal d next p form.0 (is_semicolon p.close) refl are form.2

    -- the first piece keeps what was read legal, and then the others do
    first-legal : (d next : Draft) (p : Piece) (ps : List Piece) (b : Bool) → is_over d p ≡ b → AreLegal d
        → ((one : Draft) → AreLegal one → take_pieces u m labels one ps ≡ Ok next → AreLegal next)
        → take_pieces u m labels d (p ∷ ps) ≡ Ok next → AreLegal next
    first-legal d next p ps true is are others made = subst AreLegal (same_ok d next (rw is at made)) are
    first-legal d next p ps false is are others made =
        let one = then-ok (take_piece u m labels d p) (λ one. take_pieces u m labels one ps) next (rw is at made) in
        others one.0 (piece-legal d one.0 p (begun_label d p) refl are one.1) one.2

    -- pieces keep what was read legal
    pieces-legal : (d next : Draft) (ps : List Piece) → AreLegal d → take_pieces u m labels d ps ≡ Ok next → AreLegal next
    pieces-legal d next [] are made = subst AreLegal (same_ok d next made) are
    pieces-legal d next (p ∷ ps) are made = first-legal d next p ps (is_over d p) refl are (λ one. pieces-legal one next ps) made

    -- what is read of all pieces is legal code
    pub taken_legal : (d : Draft) (ps : List Piece) → take_pieces u m labels nothing ps ≡ Ok d → IsLegalCode m (record { words = d.words })
    taken_legal d ps made =
        let are = pieces-legal nothing d ps (record { words = tt; room = omega arith }) made in record { words = are.words; room = are.room }
