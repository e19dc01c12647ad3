-- The items of a list of a machine touch places of the machine.
use Rattle.std.proofs.Common.{◌≡◌, ℕ, zero, suc, true, List, [], ◌∷◌, Option, Some, None, refl, sym, ap, subst, arith, ◌∙◌}
use Rattle.std.specs.Prelude.{if◌then◌else◌, ◌==◌, nat_lt, slice_get, option_and_then}
use Rattle.std.specs.Option.{option_map_or}
use Rattle.std.specs.List.{list_all}
use Rattle.std.proofs.lemmas.Bool.{and_parts, lt-ltb}
use Rattle.std.proofs.lemmas.Option.{slice_get_within}
use Rattle.tta_reorder.specs.Cited.{Machine, IsMachine, UnitOp, Target, Reg, Imm, Operand, Trigger, Control, Place, KeptOperand, op_at, Item, target_of_item, is_place, has_slot}
use Rattle.tta_arch.specs.declared.parts.Unit.{Unit as OpUnit}
use Rattle.tta_moves.proofs.Places.{either}
use Rattle.tta_moves.proofs.InRange.{in_range}
use Rattle.tta_reorder.specs.Channels.{operand_place}
use Rattle.tta_reorder.proofs.Agreed.{AllRanged}

unit_there : (m : Machine) (unit op : ℕ) (o : UnitOp) → op_at m unit op ≡ Some o → (u : OpUnit) × (slice_get m.units unit ≡ Some u)
unit_there m unit op o e = on (slice_get m.units unit) refl e where
  on : (q : Option OpUnit) → slice_get m.units unit ≡ q → option_and_then (λ u. slice_get u.ops op) q ≡ Some o → (u : OpUnit) × (slice_get m.units unit ≡ Some u)
  on None is e = absurd cc
  on (Some u) is e = (u, is)

operand_is : (m : Machine) → IsMachine m → (t : Target) (p : Place) → operand_place m t ≡ Some p → is_place p ≡ true
operand_is m rules (Reg f i) p e = absurd cc
operand_is m rules (Imm f i) p e = absurd cc
operand_is m rules (Operand unit) p e = absurd cc
operand_is m rules (Control kind) p e = absurd cc
operand_is m rules (Trigger unit op) p e = on (op_at m unit op) refl e where
  on : (o : Option UnitOp) → op_at m unit op ≡ o → option_map_or (λ o. if o.arity == 2 then Some (KeptOperand unit) else None) o None ≡ Some p → is_place p ≡ true
  on None is e = absurd cc
  on (Some o) is e = either (o.arity == 2)
      (λ two.
      let some : ◌≡◌ {A = Option Place} (Some (KeptOperand unit)) (Some p) = rw two at e in
      let same : KeptOperand unit ≡ p = cc in
      let there = unit_there m unit op o is in
      let lt = slice_get_within m.units unit there.0 there.1 in
      let most = rules.limits.units in
      let below : nat_lt unit 32 ≡ true = lt-ltb unit 32 (omega (arith, lt, most)) in
      ap is_place (sym same) ∙ below)
      (λ one. let none = rw one at e in absurd cc)

slot_at : (m : Machine) (items : List Item) (n : ℕ) (x : Item) → list_all (has_slot m) items ≡ true → slice_get items n ≡ Some x → has_slot m x ≡ true
slot_at m [] n x all e = absurd cc
slot_at m (y ∷ xs) zero x all e = let same : y ≡ x = cc in subst (λ (z : Item). has_slot m z ≡ true) same (and_parts (has_slot m y) (list_all (has_slot m) xs) all).0
slot_at m (y ∷ xs) (suc n) x all e = slot_at m xs n x (and_parts (has_slot m y) (list_all (has_slot m) xs) all).1 e

pub all_ranged : (m : Machine) → IsMachine m → (items : List Item) → list_all (has_slot m) items ≡ true → AllRanged m items
all_ranged m rules items all n x e = record { range = in_range m rules x (slot_at m items n x all e); operand = operand_is m rules (target_of_item x) }
