-- What loads, stores and copies of whole words leave.
use Rattle.std.proofs.Common.{◌≡◌, ℕ, Bool, true, false, [], ◌∷◌, ◌++◌, Option, Some, None, refl, ap, ◌∙◌}
use Rattle.std.specs.Prelude.{if◌then◌else◌, ◌==◌, slice_index, slice_set, option_map}
use Rattle.std.specs.Option.{option_map_or, option_to_list}
use Rattle.std.specs.List.{filter_map}
use Rattle.tta_loadelim.specs.Cited.{Units, UnitOp, Op, Ldw, Stw, Ldf, Stf, Out, Take, Set, Machine, Target, Reg, Imm, Trigger, Control, Effect, Place, KeptPort, KeptOperand, kept, moved, bring, op_at, takes_in, Start, start_of, operand_of, store_frame, Waits, is_waiting, Held, read_held, result_at_once, acts, waits_for, arrives, does, starts, stores_frame, operand_place}
use Rattle.tta_arch.specs.declared.ends.Source.TheVariants as source
use Rattle.tta_arch.specs.Effects.{Operand}
use Rattle.tta_moves.proofs.Places.{either, same_self}
use Rattle.tta_reorder.proofs.Carried.{carried_on, does_open, fold_stays, frame_stays}
use Rattle.tta_reorder.proofs.SameItem.{moves}
use Rattle.tta_loadelim.specs.AvailableSlots.{is_load, unit_of}

-- ---- operations of a kind are of no other kind

apart : (m : Machine) (one other : Op → Bool) → ((o : Op) → one o ≡ true → other o ≡ false) → (t : Target) → starts m one t ≡ true → starts m other t ≡ false
apart m one other h (Reg f i) e = refl
apart m one other h (Imm f i) e = refl
apart m one other h (Operand unit) e = refl
apart m one other h (Control kind) e = refl
apart m one other h (Trigger unit op) e = on (op_at m unit op) e where
  on : (o : Option UnitOp) → option_map_or one (option_map (λ o. o.op) o) false ≡ true → option_map_or other (option_map (λ o. o.op) o) false ≡ false
  on None e = refl
  on (Some o) e = h o.op e

load_takes : (o : Op) → is_load o ≡ true → takes_in o ≡ false
load_takes Ldw e = absurd cc
load_takes Stw e = absurd cc
load_takes Ldf e = refl
load_takes Stf e = absurd cc
load_takes Out e = absurd cc
load_takes Take e = absurd cc
load_takes (Set id) e = absurd cc

load_stores : (o : Op) → is_load o ≡ true → stores_frame o ≡ false
load_stores Ldw e = absurd cc
load_stores Stw e = absurd cc
load_stores Ldf e = refl
load_stores Stf e = absurd cc
load_stores Out e = absurd cc
load_stores Take e = absurd cc
load_stores (Set id) e = absurd cc

store_takes : (o : Op) → stores_frame o ≡ true → takes_in o ≡ false
store_takes Ldw e = absurd cc
store_takes Stw e = absurd cc
store_takes Ldf e = absurd cc
store_takes Stf e = refl
store_takes Out e = absurd cc
store_takes Take e = absurd cc
store_takes (Set id) e = absurd cc

pub load_dry : (m : Machine) (t : Target) → starts m is_load t ≡ true → starts m takes_in t ≡ false
load_dry m t e = apart m is_load takes_in load_takes t e

pub load_keeps : (m : Machine) (t : Target) → starts m is_load t ≡ true → starts m stores_frame t ≡ false
load_keeps m t e = apart m is_load stores_frame load_stores t e

pub store_dry : (m : Machine) (t : Target) → starts m stores_frame t ≡ true → starts m takes_in t ≡ false
store_dry m t e = apart m stores_frame takes_in store_takes t e

-- ---- the frame

-- an effect that stores into no slot leaves the frame
pub frame_away : (u : Units) (m : Machine) (back : ℕ) (h : Held) (e : Effect) → starts m stores_frame e.target ≡ false → (does u m back h e).frame ≡ h.frame
unfolding does
frame_away u m back h e away = waited (is_waiting h.exit) where
  by : (w : ℕ) (c : Bool) → (if c then record h { exit = Waits } else acts u m back h (e.target, w) (option_to_list (start_of m h.written (e.target, w)))).frame ≡ h.frame
  by w true = refl
  by w false = fold_stays stores_frame store_frame frame_stays m h.written e.target w h.frame away

  on : (o : Option ℕ) → (arrives u m back h (option_map_or (λ word. Some (e.target, word)) o None)).frame ≡ h.frame
  on None = refl
  on (Some w) = by w (waits_for h (option_to_list (start_of m h.written (e.target, w))))

  waited : (c : Bool) → (if c then h else arrives u m back h (bring (read_held h.written) e)).frame ≡ h.frame
  waited true = refl
  waited false = on (moved (read_held h.written) e)

-- ---- effects without a guard that have their word

-- what such an effect leaves
sure : (u : Units) (m : Machine) (back : ℕ) (h : Held) (e : Effect) (w : ℕ) → is_waiting h.exit ≡ false → starts m takes_in e.target ≡ false → e.guard ≡ None → read_held h.written e.src ≡ Some w
    → does u m back h e ≡ carried_on u m back h e.target (Some w)
sure u m back h e w runs dry unguarded is = does_open u m back h e runs dry ∙ ap (carried_on u m back h e.target) (moves h e w unguarded is)

-- a load shows the slot's word
pub load_shows : (u : Units) (m : Machine) (back : ℕ) (h : Held) (e : Effect) (slot unit : ℕ) → is_waiting h.exit ≡ false → e.guard ≡ None → read_held h.written e.src ≡ Some slot
    → starts m is_load e.target ≡ true → unit_of e.target ≡ Some unit → read_held (does u m back h e).written (source.Shown unit) ≡ Some (slice_index h.frame slot)
load_shows u m back h e slot unit runs unguarded is load at =
    ap (λ (k : Held). read_held k.written (source.Shown unit)) (sure u m back h e slot runs (load_dry m e.target load) unguarded is) ∙ on e.target load at where
      by : (v : ℕ) (o : UnitOp) (q : Op) → o.op ≡ q → is_load q ≡ true → v ≡ unit
          → let s : Start = record { unit = v; does = o; operand = operand_of h.written v o; word = slot } in
          kept (filter_map (result_at_once u h) (s ∷ []) ++ h.written) (KeptPort unit) ≡ Some (slice_index h.frame slot)
      by v o Ldw o_is e_is same = absurd cc
      by v o Stw o_is e_is same = absurd cc
      by v o Stf o_is e_is same = absurd cc
      by v o Out o_is e_is same = absurd cc
      by v o Take o_is e_is same = absurd cc
      by v o (Set id) o_is e_is same = absurd cc
      by v o Ldf o_is e_is same = rw (o_is, same, same_self (KeptPort unit)) refl

      ops : (v op : ℕ) (o : Option UnitOp) → op_at m v op ≡ o → option_map_or is_load (option_map (λ o. o.op) o) false ≡ true → v ≡ unit
          → read_held (carried_on u m back h (Trigger v op) (Some slot)).written (source.Shown unit) ≡ Some (slice_index h.frame slot)
      ops v op None o_is e_is same = absurd cc
      ops v op (Some o) o_is e_is same = rw o_is (by v o o.op refl e_is same)

      on : (t : Target) → starts m is_load t ≡ true → unit_of t ≡ Some unit → read_held (carried_on u m back h t (Some slot)).written (source.Shown unit) ≡ Some (slice_index h.frame slot)
      on (Reg f i) load at = absurd cc
      on (Imm f i) load at = absurd cc
      on (Operand v) load at = absurd cc
      on (Control kind) load at = absurd cc
      on (Trigger v op) load at = let same : v ≡ unit = cc in ops v op (op_at m v op) refl load same

-- a store puts its word into the slot that its operand port names
pub store_puts : (u : Units) (m : Machine) (back : ℕ) (h : Held) (e : Effect) (slot w : ℕ) (p : Place) → is_waiting h.exit ≡ false → e.guard ≡ None → read_held h.written e.src ≡ Some w
    → starts m stores_frame e.target ≡ true → operand_place m e.target ≡ Some p → kept h.written p ≡ Some slot → (does u m back h e).frame ≡ slice_set h.frame slot w
store_puts u m back h e slot w p runs unguarded is store at has =
    ap (λ (k : Held). k.frame) (sure u m back h e w runs (store_dry m e.target store) unguarded is) ∙ on e.target store at where
      by : (v : ℕ) (o : UnitOp) (q : Op) → o.op ≡ q → stores_frame q ≡ true → (if o.arity == 2 then Some (KeptOperand v) else None) ≡ Some p
          → let s : Start = record { unit = v; does = o; operand = operand_of h.written v o; word = w } in store_frame h.frame s ≡ slice_set h.frame slot w
      by v o Ldw o_is e_is at = absurd cc
      by v o Stw o_is e_is at = absurd cc
      by v o Ldf o_is e_is at = absurd cc
      by v o Out o_is e_is at = absurd cc
      by v o Take o_is e_is at = absurd cc
      by v o (Set id) o_is e_is at = absurd cc
      by v o Stf o_is e_is at = either (o.arity == 2)
          (λ two.
          let place : ◌≡◌ {A = Option Place} (Some (KeptOperand v)) (Some p) = rw two at at in
          let same : KeptOperand v ≡ p = cc in
          let operand : kept h.written (KeptOperand v) ≡ Some slot = ap (kept h.written) same ∙ has in
          rw (o_is, two, operand) refl)
          (λ one. let none = rw one at at in absurd cc)

      ops : (v op : ℕ) (o : Option UnitOp) → op_at m v op ≡ o → option_map_or stores_frame (option_map (λ o. o.op) o) false ≡ true
          → option_map_or (λ o. if o.arity == 2 then Some (KeptOperand v) else None) o None ≡ Some p → (carried_on u m back h (Trigger v op) (Some w)).frame ≡ slice_set h.frame slot w
      ops v op None o_is e_is at = absurd cc
      ops v op (Some o) o_is e_is at = rw o_is (by v o o.op refl e_is at)

      on : (t : Target) → starts m stores_frame t ≡ true → operand_place m t ≡ Some p → (carried_on u m back h t (Some w)).frame ≡ slice_set h.frame slot w
      on (Reg f i) store at = absurd cc
      on (Imm f i) store at = absurd cc
      on (Operand v) store at = absurd cc
      on (Control kind) store at = absurd cc
      on (Trigger v op) store at = ops v op (op_at m v op) refl store at
