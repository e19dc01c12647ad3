-- An effect from a state with another frame.
use Rattle.std.proofs.Common.{◌≡◌, ◌≢◌, ℕ, ◌<◌, ◌≤◌, true, false, List, length, Option, Some, None, refl, sym, ap, subst, arith, ◌∙◌, get_or-set_same, get_or-set_other, length-set}
use Rattle.std.proofs.lemmas.Bool.{ltb-true}
use Rattle.std.specs.Prelude.{◌==◌, nat_lt, fold, slice_index, slice_set, option_map}
use Rattle.std.specs.Option.{option_map_or, option_to_list}
use Rattle.std.proofs.lemmas.Bool.Decides.{nat_tests}
use Rattle.tta_loadelim.specs.Cited.{Units, UnitOp, Op, Ldw, Stw, Ldf, Stf, Out, Take, Set, Machine, Target, Reg, Imm, Trigger, Control, Effect, moved, op_at, start_of, store_frame, takes_in, Held, is_waiting, read_held, does, starts}
use Rattle.tta_arch.specs.Effects.{Operand}
use Rattle.tta_moves.proofs.Places.{either}
use Rattle.tta_reorder.proofs.Carried.{carried_on, does_open}
use Rattle.tta_loadelim.specs.AvailableSlots.{is_load}
use Rattle.tta_list.proofs.Lists.{past_end}

-- the frame that a word leaves where it is brought
abbrev pub frame_of : Machine → Held → (frame : List ℕ) → Target → Option ℕ → List ℕ
frame_of m h frame t None = frame
frame_of m h frame t (Some w) = fold store_frame frame (option_to_list (start_of m h.written (t, w)))

with_frame : (u : Units) (m : Machine) (back : ℕ) (h : Held) (frame : List ℕ) (t : Target) (o : Option ℕ)
    → ((w : ℕ) → o ≡ Some w → starts m is_load t ≡ true → slice_index frame w ≡ slice_index h.frame w)
    → carried_on u m back (record h { frame = frame }) t o ≡ record (carried_on u m back h t o) { frame = frame_of m h frame t o }
with_frame u m back h frame t None same = refl
with_frame u m back h frame (Reg f i) (Some w) same = refl
with_frame u m back h frame (Imm f i) (Some w) same = refl
with_frame u m back h frame (Operand unit) (Some w) same = refl
with_frame u m back h frame (Control kind) (Some w) same = refl
with_frame u m back h frame (Trigger unit op) (Some w) same = on (op_at m unit op) refl (λ load. same w refl load) where
  by : (o : UnitOp) (q : Op) → o.op ≡ q → (is_load q ≡ true → slice_index frame w ≡ slice_index h.frame w) → op_at m unit op ≡ Some o
      → carried_on u m back (record h { frame = frame }) (Trigger unit op) (Some w) ≡ record (carried_on u m back h (Trigger unit op) (Some w)) { frame = frame_of m h frame (Trigger unit op) (Some w) }
  by o Ldw is same at = rw (at, is) refl
  by o Stw is same at = rw (at, is) refl
  by o Ldf is same at = rw (at, is, same refl) refl
  by o Stf is same at = rw (at, is) refl
  by o Out is same at = rw (at, is) refl
  by o Take is same at = rw (at, is) refl
  by o (Set id) is same at = rw (at, is) refl

  on : (o : Option UnitOp) → op_at m unit op ≡ o → (option_map_or is_load (option_map (λ o. o.op) (op_at m unit op)) false ≡ true → slice_index frame w ≡ slice_index h.frame w)
      → carried_on u m back (record h { frame = frame }) (Trigger unit op) (Some w) ≡ record (carried_on u m back h (Trigger unit op) (Some w)) { frame = frame_of m h frame (Trigger unit op) (Some w) }
  on None at same = rw at refl
  on (Some o) at same = by o o.op refl (λ load. same (rw at load)) at

-- an effect that takes no input, from a state with another frame
pub does_framed : (u : Units) (m : Machine) (back : ℕ) (h : Held) (frame : List ℕ) (e : Effect) → is_waiting h.exit ≡ false → starts m takes_in e.target ≡ false
    → ((w : ℕ) → moved (read_held h.written) e ≡ Some w → starts m is_load e.target ≡ true → slice_index frame w ≡ slice_index h.frame w)
    → does u m back (record h { frame = frame }) e ≡ record (does u m back h e) { frame = frame_of m h frame e.target (moved (read_held h.written) e) }
does_framed u m back h frame e runs dry same =
    does_open u m back (record h { frame = frame }) e runs dry ∙ with_frame u m back h frame e.target (moved (read_held h.written) e) same
    ∙ ap (λ (k : Held). record k { frame = frame_of m h frame e.target (moved (read_held h.written) e) }) (sym (does_open u m back h e runs dry))

-- and its own frame, so seen
pub frame_is : (u : Units) (m : Machine) (back : ℕ) (h : Held) (e : Effect) → is_waiting h.exit ≡ false → starts m takes_in e.target ≡ false
    → (does u m back h e).frame ≡ frame_of m h h.frame e.target (moved (read_held h.written) e)
frame_is u m back h e runs dry = ap (λ (k : Held). k.frame) (does_open u m back h e runs dry) ∙ on (moved (read_held h.written) e) where
  on : (o : Option ℕ) → (carried_on u m back h e.target o).frame ≡ frame_of m h h.frame e.target o
  on None = refl
  on (Some w) = refl

-- ---- two frames that are alike at a slot

pub set_alike : (a b : List ℕ) (k w v : ℕ) → length a ≡ length b → (v ≢ k → slice_index a v ≡ slice_index b v) → slice_index (slice_set a k w) v ≡ slice_index (slice_set b k w) v
set_alike a b k w v long same = either (k == v)
    (λ here.
    let at : k ≡ v = grind (arith, nat_tests, here) in
    subst (λ i. slice_index (slice_set a k w) i ≡ slice_index (slice_set b k w) i) at hit)
    (λ away.
    let other : v ≢ k = λ e. let yes_same : (k == v) ≡ true = grind (arith, nat_tests, e) in absurd cc in
    get_or-set_other a k v w 0 other ∙ same other ∙ sym (get_or-set_other b k v w 0 other)) where
      hit : slice_index (slice_set a k w) k ≡ slice_index (slice_set b k w) k
      hit = either (nat_lt k (length a))
          (λ t.
          let lt : k < length a = ltb-true k (length a) t in
          get_or-set_same a k w 0 lt ∙ sym (get_or-set_same b k w 0 (omega (arith, lt, long))))
          (λ t.
          let le : length a ≤ k = grind (arith, nat_tests, t) in
          let one = length-set a k w in
          let two = length-set b k w in
          past_end (slice_set a k w) k (omega (arith, le, one)) ∙ sym (past_end (slice_set b k w) k (omega (arith, le, two, long))))
