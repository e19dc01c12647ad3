-- Which item wrote a place last, in a list and in the same on seats.
use Rattle.std.proofs.Common.{◌≡◌, ℕ, zero, suc, ◌<◌, Bool, true, false, List, Option, Some, None, refl, sym, ap, arith, ◌∙◌}
use Rattle.std.specs.Prelude.{if◌then◌else◌, length, is_none, slice_get, option_and_then}
use Rattle.std.specs.Option.{option_map_or, option_to_list}
use Rattle.std.proofs.lemmas.Bool.Decides.{nat_tests}
use Rattle.tta_bind.specs.Cited.{Units, GuardRef, UnitOp, Machine, Target, Reg, Imm, Trigger, Control, Jumps, Calls, Halts, Effect, Place, KeptReg, KeptImm, KeptOperand, KeptRa, KeptPort, same_place, moved, op_at, has_result, start_of, write_of, Item, target_of_item, place_written, is_at, writes, is_waiting, Held, read_held, result_at_once, waits_for, does, lacks, lives}
use Rattle.tta_arch.specs.Effects.{Operand}
use Rattle.tta_moves.proofs.Places.{either}
use Rattle.tta_moves.proofs.Steps.{write_at_once, step_write, starting}
use Rattle.tta_optim.proofs.Copies.{sure_word}
use Rattle.tta_reorder.proofs.SameItem.{moves}
use Rattle.tta_list.proofs.Tests.{some_same}
use Rattle.tta_bind.specs.declared.seats.Seat.{Seat}
use Rattle.tta_bind.specs.Seated.{seated_target, seated, all_seated, last_write, same_writer, finds}
use Rattle.tta_bind.proofs.Items.{target_seated, seat_at, none_past}

-- ---- places that are no ports of units

abbrev pub is_plain : Place → Bool
is_plain (KeptReg file index) = true
is_plain (KeptImm unit index) = true
is_plain (KeptOperand unit) = false
is_plain KeptRa = true
is_plain (KeptPort unit) = false

no_operand : (p : Place) (unit : ℕ) → is_plain p ≡ true → same_place (KeptOperand unit) p ≡ false
no_operand (KeptReg f i) unit e = refl
no_operand (KeptImm f i) unit e = refl
no_operand (KeptOperand k) unit e = absurd cc
no_operand KeptRa unit e = refl
no_operand (KeptPort k) unit e = absurd cc

no_result : (p : Place) (unit : ℕ) → is_plain p ≡ true → (o : Option UnitOp) → is_at p (option_map_or (λ o. if has_result o.op then Some (KeptPort unit) else None) o None) ≡ false
no_result p unit e None = refl
no_result p unit e (Some o) = on (has_result o.op) where
  away : (p : Place) → is_plain p ≡ true → same_place (KeptPort unit) p ≡ false
  away (KeptReg f i) e = refl
  away (KeptImm f i) e = refl
  away (KeptOperand k) e = absurd cc
  away KeptRa e = refl
  away (KeptPort k) e = absurd cc

  on : (b : Bool) → is_at p (if b then Some (KeptPort unit) else None) ≡ false
  on true = away p e
  on false = refl

plain_target : (m : Machine) (s : Seat) (p : Place) → is_plain p ≡ true → (t : Target) → is_at p (place_written m (seated_target s t)) ≡ is_at p (place_written m t)
plain_target m s p e (Reg f i) = refl
plain_target m s p e (Imm f i) = refl
plain_target m s p e (Operand unit) = no_operand p s.unit e ∙ sym (no_operand p unit e)
plain_target m s p e (Control kind) = refl
plain_target m s p e (Trigger unit op) = no_result p s.unit e (op_at m s.unit s.op) ∙ sym (no_result p unit e (op_at m unit op))

plain_writes : (m : Machine) (s : Seat) (p : Place) → is_plain p ≡ true → (x : Item) → writes m p (seated s x) ≡ writes m p x
plain_writes m s p e x = ap (λ (t : Target). is_at p (place_written m t)) (target_seated s x) ∙ plain_target m s p e (target_of_item x)

-- a place that is used after a block is one
pub lives_plain : (live : List (ℕ × ℕ)) (p : Place) → lives live p ≡ true → is_plain p ≡ true
lives_plain live (KeptReg f i) e = refl
lives_plain live (KeptImm f i) e = refl
lives_plain live (KeptOperand k) e = absurd cc
lives_plain live KeptRa e = refl
lives_plain live (KeptPort k) e = absurd cc

-- ---- which item wrote last

pub wrote_before : (m : Machine) (p : Place) (items : List Item) (n j : ℕ) → last_write m p items n ≡ Some j → j < n
unfolding last_write
wrote_before m p items zero j e = absurd cc
wrote_before m p items (suc n) j e = on (option_map_or (writes m p) (slice_get items n) false) (λ i. wrote_before m p items n j i) e where
  on : (b : Bool) → (last_write m p items n ≡ Some j → j < n) → (if b then Some n else last_write m p items n) ≡ Some j → j < suc n
  on true before e = let same : n ≡ j = some_same e in omega (arith, same)
  on false before e = let less = before e in omega (arith, less)

pub wrote_now : (m : Machine) (p : Place) (items : List Item) (n : ℕ) (x : Item) → slice_get items n ≡ Some x → writes m p x ≡ true → last_write m p items (suc n) ≡ Some n
unfolding last_write
wrote_now m p items n x is w = rw (is, w) refl

pub wrote_not : (m : Machine) (p : Place) (items : List Item) (n : ℕ) (x : Item) → slice_get items n ≡ Some x → writes m p x ≡ false → last_write m p items (suc n) ≡ last_write m p items n
unfolding last_write
wrote_not m p items n x is w = rw (is, w) refl

pub wrote_none : (m : Machine) (p : Place) (items : List Item) (n : ℕ) → slice_get items n ≡ None → last_write m p items (suc n) ≡ last_write m p items n
unfolding last_write
wrote_none m p items n is = rw is refl

plain_same : (m : Machine) (seats : List Seat) (items : List Item) → length seats ≡ length items → (p : Place) → is_plain p ≡ true → (n : ℕ)
    → last_write m p (all_seated seats items) n ≡ last_write m p items n
unfolding last_write
plain_same m seats items size p e zero = refl
plain_same m seats items size p e (suc n) = on (plain_same m seats items size p e n) (slice_get items n) refl where
  on : last_write m p (all_seated seats items) n ≡ last_write m p items n → (o : Option Item) → slice_get items n ≡ o
      → last_write m p (all_seated seats items) (suc n) ≡ last_write m p items (suc n)
  on before None is = wrote_none m p (all_seated seats items) n (none_past seats items n is) ∙ before ∙ sym (wrote_none m p items n is)
  on before (Some x) is =
      let a = seat_at seats items n x size is in
      let w = plain_writes m a.seat p e x in
      either (writes m p x)
      (λ may. wrote_now m p (all_seated seats items) n (seated a.seat x) a.other (w ∙ may) ∙ sym (wrote_now m p items n x is may))
      (λ away. wrote_not m p (all_seated seats items) n (seated a.seat x) a.other (w ∙ away) ∙ before ∙ sym (wrote_not m p items n x is away))

same_self_writer : (p : Place) (o : Option ℕ) → is_plain p ≡ true → same_writer p p o o ≡ true
same_self_writer p (Some i) e = grind (arith, nat_tests)
same_self_writer (KeptReg f i) None e = grind (arith, nat_tests)
same_self_writer (KeptImm f i) None e = grind (arith, nat_tests)
same_self_writer (KeptOperand k) None e = absurd cc
same_self_writer KeptRa None e = refl
same_self_writer (KeptPort k) None e = absurd cc

pub plain_found : (m : Machine) (seats : List Seat) (items : List Item) → length seats ≡ length items → (n : ℕ) (p : Place) → is_plain p ≡ true
    → finds m items (all_seated seats items) n p p ≡ true
plain_found m seats items size n p e =
    ap (λ (o : Option ℕ). same_writer p p (last_write m p items n) o) (plain_same m seats items size p e n) ∙ same_self_writer p (last_write m p items n) e

-- an item that wrote a place, and one that did not, are not the same
pub apart : (n : ℕ) (a b : Place) (o : Option ℕ) → (o ≡ Some n → ⊥) → same_writer a b (Some n) o ≡ true → ⊥
apart n a b None away e = absurd cc
apart n a b (Some j) away e = let equal : n ≡ j = grind (arith, nat_tests) in away (ap (λ k. Some k) (sym equal))

pub apart_too : (n : ℕ) (a b : Place) (o : Option ℕ) → (o ≡ Some n → ⊥) → same_writer a b o (Some n) ≡ true → ⊥
apart_too n a b None away e = absurd cc
apart_too n a b (Some j) away e = let equal : j ≡ n = grind (arith, nat_tests) in away (ap (λ k. Some k) equal)

-- ---- a word that is written

-- a word that is brought to a target that writes a place is written, unless the list waits for it
written_unless : (u : Units) (m : Machine) (back : ℕ) (h : Held) (t : Target) (v : ℕ) (p : Place) → write_at_once u m back h (t, v) ≡ None → is_at p (place_written m t) ≡ true
    → waits_for h (option_to_list (start_of m h.written (t, v))) ≡ true
written_unless u m back h t v p e at = either (waits_for h (option_to_list (start_of m h.written (t, v)))) (λ waits. waits) (λ goes. on t (rw goes at e) at) where
  ops : (unit : ℕ) (o : Option UnitOp) → option_and_then (result_at_once u h) (option_map_or (λ o. starting h.written unit v o) o None) ≡ None
      → is_at p (option_map_or (λ o. if has_result o.op then Some (KeptPort unit) else None) o None) ≡ true → ⊥
  ops unit None e at = absurd cc
  ops unit (Some o) e at = either (has_result o.op) (λ has. let no_word = rw has at e in absurd cc) (λ no. let nowhere = rw no at at in absurd cc)

  on : (t : Target) → option_map_or (λ w. Some w) (write_of m back (t, v)) (option_and_then (result_at_once u h) (start_of m h.written (t, v))) ≡ None → is_at p (place_written m t) ≡ true
      → waits_for h (option_to_list (start_of m h.written (t, v))) ≡ true
  on (Reg f i) e at = absurd cc
  on (Imm f i) e at = absurd cc
  on (Operand unit) e at = absurd cc
  on (Control Jumps) e at = absurd cc
  on (Control Calls) e at = absurd cc
  on (Control Halts) e at = absurd cc
  on (Trigger unit op) e at = absurd (ops unit (op_at m unit op) e at)

-- an effect that goes on and writes no word where it may write one has a guard
pub spared : (u : Units) (m : Machine) (back : ℕ) (h : Held) (e : Effect) (p : Place) → is_waiting h.exit ≡ false → is_waiting (does u m back h e).exit ≡ false → lacks m h e ≡ false
    → step_write u m back h e ≡ None → is_at p (place_written m e.target) ≡ true → is_none e.guard ≡ false
unfolding does
spared u m back h e p runs after fine no_word at = on e.guard refl where
  brought : (v : ℕ) → moved (read_held h.written) e ≡ Some v → ⊥
  brought v is =
      let none : write_at_once u m back h (e.target, v) ≡ None = rw (runs, is) at no_word in
      let waits = written_unless u m back h e.target v p none at in
      let goes = rw (runs, is, waits) at after in absurd cc

  on : (g : Option GuardRef) → e.guard ≡ g → is_none e.guard ≡ false
  on (Some g) is = rw is refl
  on None is =
      let word = sure_word m h e is fine in
      absurd (brought word.0 (moves h e word.0 is word.1))
