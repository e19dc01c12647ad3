-- One item and the same on its seat, from two states in which they find the same.
use Rattle.std.proofs.Common.{◌≡◌, ℕ, Bool, true, false, [], ◌∷◌, ◌++◌, Option, Some, None, refl, ap, arith, ◌∙◌}
use Rattle.std.specs.Prelude.{⊤, if◌then◌else◌, ◌&&◌, ◌||◌, is_none, slice_get, option_map, option_and_then}
use Rattle.std.specs.Option.{option_map_or, option_to_list}
use Rattle.std.proofs.lemmas.Bool.Decides.{nat_tests}
use Rattle.tta_bind.specs.Cited.{Units, GuardRef, UnitOp, Op, Ldw, Stw, Ldf, Stf, Out, Take, Set, Machine, same_op, Target, Reg, Imm, Trigger, Control, Jumps, Calls, Halts, Effect, Place, KeptReg, KeptImm, KeptOperand, KeptRa, KeptPort, Written, kept, is_active, moved, Brought, op_at, has_result, Start, start_of, operand_of, has_unset_guard, lacks_operand, guard_place, place_written, Waits, is_waiting, Held, read_held, result_at_once, acts, waits_for, arrives, does, lacks}
use Rattle.tta_arch.specs.Effects.{Operand}
use Rattle.tta_moves.proofs.Places.{either}
use Rattle.tta_moves.proofs.Steps.{active_by, unset_by, write_at_once, step_write}
use Rattle.tta_bind.specs.declared.seats.Seat.{Seat}
use Rattle.tta_bind.specs.Seated.{seated_target}

-- ---- places and operations on a seat

-- a place on the unit that a seat brings a word to
abbrev pub on_seat : Seat → Place → Place
on_seat s (KeptReg file index) = KeptReg file index
on_seat s (KeptImm unit index) = KeptImm unit index
on_seat s (KeptOperand unit) = KeptOperand s.unit
on_seat s KeptRa = KeptRa
on_seat s (KeptPort unit) = KeptPort s.unit

abbrev pub put_on : Seat → Option (Place × ℕ) → Option (Place × ℕ)
put_on s o = option_map (λ w. (on_seat s w.0, w.1)) o

pub same_op_is : (a b : Op) → same_op a b ≡ true → a ≡ b
same_op_is Ldw Ldw e = refl
same_op_is Stw Stw e = refl
same_op_is Ldf Ldf e = refl
same_op_is Stf Stf e = refl
same_op_is Out Out e = refl
same_op_is Take Take e = refl
same_op_is (Set a) (Set b) e = let same : a.0 ≡ b.0 = grind (arith, nat_tests) in ap (λ n. Set (record { 0 = n })) same
same_op_is Ldw Stw e = absurd cc
same_op_is Ldw Ldf e = absurd cc
same_op_is Ldw Stf e = absurd cc
same_op_is Ldw Out e = absurd cc
same_op_is Ldw Take e = absurd cc
same_op_is Ldw (Set b) e = absurd cc
same_op_is Stw Ldw e = absurd cc
same_op_is Stw Ldf e = absurd cc
same_op_is Stw Stf e = absurd cc
same_op_is Stw Out e = absurd cc
same_op_is Stw Take e = absurd cc
same_op_is Stw (Set b) e = absurd cc
same_op_is Ldf Ldw e = absurd cc
same_op_is Ldf Stw e = absurd cc
same_op_is Ldf Stf e = absurd cc
same_op_is Ldf Out e = absurd cc
same_op_is Ldf Take e = absurd cc
same_op_is Ldf (Set b) e = absurd cc
same_op_is Stf Ldw e = absurd cc
same_op_is Stf Stw e = absurd cc
same_op_is Stf Ldf e = absurd cc
same_op_is Stf Out e = absurd cc
same_op_is Stf Take e = absurd cc
same_op_is Stf (Set b) e = absurd cc
same_op_is Out Ldw e = absurd cc
same_op_is Out Stw e = absurd cc
same_op_is Out Ldf e = absurd cc
same_op_is Out Stf e = absurd cc
same_op_is Out Take e = absurd cc
same_op_is Out (Set b) e = absurd cc
same_op_is Take Ldw e = absurd cc
same_op_is Take Stw e = absurd cc
same_op_is Take Ldf e = absurd cc
same_op_is Take Stf e = absurd cc
same_op_is Take Out e = absurd cc
same_op_is Take (Set b) e = absurd cc
same_op_is (Set a) Ldw e = absurd cc
same_op_is (Set a) Stw e = absurd cc
same_op_is (Set a) Ldf e = absurd cc
same_op_is (Set a) Stf e = absurd cc
same_op_is (Set a) Out e = absurd cc
same_op_is (Set a) Take e = absurd cc

-- a target on a seat starts the same operation with the same operand, if it starts one
pub record SameStart (m : Machine) (s : Seat) (vs ws : Written) (unit op : ℕ) : Type 0 where
  pub one : UnitOp
  pub other : UnitOp
  pub there : op_at m unit op ≡ Some one
  pub there_too : op_at m s.unit s.op ≡ Some other
  pub does : other.op ≡ one.op
  pub operand : operand_of ws s.unit other ≡ operand_of vs unit one

abbrev pub StartsSame : Machine → Seat → (vs ws : Written) → Target → Type 0
StartsSame m s vs ws (Reg f i) = ⊤
StartsSame m s vs ws (Imm f i) = ⊤
StartsSame m s vs ws (Operand unit) = ⊤
StartsSame m s vs ws (Trigger unit op) = SameStart m s vs ws unit op
StartsSame m s vs ws (Control kind) = ⊤

-- ---- what a word does that is brought there

module _ (u : Units) (m : Machine) (back : ℕ) (h : Held) (ws : Written) (s : Seat) where
  abbrev other : Held
  other = record h { written = ws }

  abbrev start_on : (unit : ℕ) → UnitOp → Option ℕ → (w : ℕ) → Start
  start_on unit o a w = record { unit = unit; does = o; operand = a; word = w }

  fired : (unit op w : ℕ) (o q : UnitOp) (a : Option ℕ) (c : Op) → o.op ≡ c → q.op ≡ c
      → (if waits_for other (start_on s.unit q a w ∷ []) then record other { exit = Waits } else acts u m back other (Trigger s.unit s.op, w) (start_on s.unit q a w ∷ []))
      ≡ record (if waits_for h (start_on unit o a w ∷ []) then record h { exit = Waits } else acts u m back h (Trigger unit op, w) (start_on unit o a w ∷ [])) {
        written = option_to_list (put_on s (if waits_for h (start_on unit o a w ∷ []) then None else result_at_once u h (start_on unit o a w))) ++ ws;
      }
  fired unit op w o q a Ldw is too = rw (is, too) refl
  fired unit op w o q a Stw is too = rw (is, too) refl
  fired unit op w o q a Ldf is too = rw (is, too) refl
  fired unit op w o q a Stf is too = rw (is, too) refl
  fired unit op w o q a Out is too = rw (is, too) refl
  fired unit op w o q a Take is too = either (is_none (slice_get h.rest 0)) (λ e. rw (is, too, e) refl) (λ e. rw (is, too, e) refl)
  fired unit op w o q a (Set id) is too = rw (is, too) refl

  pub arrives_seated : (t : Target) (w : ℕ) → StartsSame m s h.written ws t
      → arrives u m back other (Some (seated_target s t, w)) ≡ record (arrives u m back h (Some (t, w))) { written = option_to_list (put_on s (write_at_once u m back h (t, w))) ++ ws }
  arrives_seated (Reg f i) w same = refl
  arrives_seated (Imm f i) w same = refl
  arrives_seated (Operand unit) w same = refl
  arrives_seated (Control Jumps) w same = refl
  arrives_seated (Control Calls) w same = refl
  arrives_seated (Control Halts) w same = refl
  arrives_seated (Trigger unit op) w same =
      rw (same.there, same.there_too, same.operand) (fired unit op w same.one same.other (operand_of h.written unit same.one) same.one.op refl same.does)

  -- ---- an effect

  -- an effect, and what it is on a seat where it finds the same
  pub record SameEnds (e f : Effect) : Type 0 where
    pub guard : f.guard ≡ e.guard
    pub target : f.target ≡ seated_target s e.target
    pub guarded : (g : GuardRef) → e.guard ≡ Some g → kept ws (guard_place g) ≡ kept h.written (guard_place g)
    pub source : read_held ws f.src ≡ read_held h.written e.src
    pub starts : StartsSame m s h.written ws e.target

  active_seated : (e f : Effect) → SameEnds e f → is_active (read_held ws) f ≡ is_active (read_held h.written) e
  active_seated e f same =
      ap (λ (o : Option GuardRef). is_active (read_held ws) (record { guard = o; src = f.src; target = f.target })) same.guard
      ∙ active_by e.guard ws h.written same.guarded

  moved_seated : (e f : Effect) → SameEnds e f → moved (read_held ws) f ≡ moved (read_held h.written) e
  moved_seated e f same =
      ap (λ (a : Bool). if a then read_held ws f.src else None) (active_seated e f same)
      ∙ ap (λ (q : Option ℕ). if is_active (read_held h.written) e then q else None) same.source

  pub does_seated : (e f : Effect) → is_waiting h.exit ≡ false → SameEnds e f
      → does u m back other f ≡ record (does u m back h e) { written = option_to_list (put_on s (step_write u m back h e)) ++ ws }
  unfolding does
  does_seated e f runs same = rw runs (
      ap (λ (o : Option ℕ). arrives u m back other (option_map_or (λ word. Some (f.target, word)) o None)) (moved_seated e f same)
      ∙ ap (λ (t : Target). arrives u m back other (option_map_or (λ word. Some (t, word)) (moved (read_held h.written) e) None)) same.target
      ∙ on (moved (read_held h.written) e)) where
        on : (o : Option ℕ) → arrives u m back other (option_map_or (λ word. Some (seated_target s e.target, word)) o None)
            ≡ record (arrives u m back h (option_map_or (λ word. Some (e.target, word)) o None)) {
              written = option_to_list (put_on s (option_and_then (write_at_once u m back h) (option_map_or (λ word. Some (e.target, word)) o None))) ++ ws;
            }
        on None = refl
        on (Some w) = arrives_seated e.target w same.starts

  -- ---- what it lacks

  lacks_start : (t : Target) (w : ℕ) → StartsSame m s h.written ws t
      → option_map_or lacks_operand (start_of m ws (seated_target s t, w)) false ≡ option_map_or lacks_operand (start_of m h.written (t, w)) false
  lacks_start (Reg f i) w same = refl
  lacks_start (Imm f i) w same = refl
  lacks_start (Operand unit) w same = refl
  lacks_start (Control kind) w same = refl
  lacks_start (Trigger unit op) w same = rw (same.there, same.there_too) (ap (λ (a : Option ℕ). is_none a) same.operand)

  three : (a b c d e f : Bool) → a ≡ d → b ≡ e → c ≡ f → (a || b || c) ≡ (d || e || f)
  three a b c d e f p q r = rw (p, q, r) refl

  pub lacks_seated : (e f : Effect) → SameEnds e f → lacks m other f ≡ lacks m h e
  unfolding lacks
  lacks_seated e f same = three _ _ _ _ _ _
      (ap (λ (o : Option GuardRef). has_unset_guard (read_held ws) (record { guard = o; src = f.src; target = f.target })) same.guard ∙ unset_by e.guard ws h.written same.guarded)
      (ap (λ (a : Bool). a && true && is_none (read_held ws f.src)) (active_seated e f same) ∙ ap (λ (q : Option ℕ). is_active (read_held h.written) e && true && is_none q) same.source)
      (ap (λ (o : Option ℕ). operand ws (option_map_or (λ word. Some (f.target, word)) o None)) (moved_seated e f same)
      ∙ ap (λ (t : Target). operand ws (option_map_or (λ word. Some (t, word)) (moved (read_held h.written) e) None)) same.target
      ∙ on (moved (read_held h.written) e)) where
        operand : Written → Option Brought → Bool
        operand vs o = option_map_or (λ (b : Brought). option_map_or lacks_operand (start_of m vs b) false) o false

        on : (o : Option ℕ) → operand ws (option_map_or (λ word. Some (seated_target s e.target, word)) o None) ≡ operand h.written (option_map_or (λ word. Some (e.target, word)) o None)
        on None = refl
        on (Some w) = lacks_start e.target w same.starts

-- ---- a place on a seat

-- a place that a target on a seat may write is one that the target may write, on the seat
pub place_seated : (m : Machine) (s : Seat) (vs ws : Written) (t : Target) → StartsSame m s vs ws t → place_written m (seated_target s t) ≡ option_map (on_seat s) (place_written m t)
place_seated m s vs ws (Reg f i) same = refl
place_seated m s vs ws (Imm f i) same = refl
place_seated m s vs ws (Operand unit) same = refl
place_seated m s vs ws (Control Jumps) same = refl
place_seated m s vs ws (Control Calls) same = refl
place_seated m s vs ws (Control Halts) same = refl
place_seated m s vs ws (Trigger unit op) same = rw (same.there, same.there_too, same.does) (on (has_result same.one.op)) where
  on : (b : Bool) → (if b then Some (KeptPort s.unit) else None) ≡ option_map (on_seat s) (if b then Some (KeptPort unit) else None)
  on true = refl
  on false = refl
