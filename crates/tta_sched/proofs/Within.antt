-- What an item that has a slot touches is within the limits of machines.
use Rattle.std.proofs.Common.{◌≡◌, ℕ, ◌+◌, Bool, true, List, [], ◌∷◌, ◌++◌, Option, Some, None, refl, sym, ap, ◌∙◌, arith, length}
use Rattle.std.specs.Prelude.{◌&&◌, nat_lt, slice_get, option_and_then}
use Rattle.std.specs.Option.{option_map_or}
use Rattle.std.specs.List.{list_all}
use Rattle.std.proofs.lemmas.Bool.{and_parts, and_from, lt-ltb}
use Rattle.std.proofs.lemmas.Option.{slice_get_within}
use Rattle.tta_sched.specs.Cited.{GuardRef, Dest, Machine, IsMachine, has_socket, within, joins, is_source_on, is_dest_on, has_guard, Target, Reg, Imm, Operand, Trigger, Control, Jumps, Calls, Halts, Place, KeptReg, KeptImm, KeptOperand, KeptPort, target_of, Item, guard_of, source_of, target_of_item, place_of_source, guard_place, place_written, is_place, carried, has_slot, At, Started, Touch, due_after, operand_read, reads_by, written_at, writes_by, is_spot, is_within}
use Rattle.tta_arch.specs.declared.ends.Dest.TheVariants as dest
use Rattle.tta_arch.specs.declared.parts.Unit.{Unit as OpUnit}
use Rattle.tta_moves.specs.declared.items.Item.TheVariants as item
use Rattle.tta_moves.proofs.InRange.{InRange, in_range, some_bus}

-- ---- the unit of a trigger

unit_on : (m : Machine) → IsMachine m → (unit op bus : ℕ) → is_dest_on m bus (dest.Trigger unit op) ≡ true → nat_lt unit 32 ≡ true
unit_on m rules unit op bus h = on (slice_get m.units unit) refl h where
  on : (o : Option OpUnit) → slice_get m.units unit ≡ o → has_socket m true (option_and_then (λ q. within op (length q.ops) q.trigger) o) bus ≡ true → nat_lt unit 32 ≡ true
  on None e h = absurd cc
  on (Some q) e h = let lt = slice_get_within m.units unit q e in let few = rules.limits.units in lt-ltb unit 32 (omega arith)

-- the unit that an item starts is a unit of the machine
unit_in : (m : Machine) → IsMachine m → (v : Item) → has_slot m v ≡ true → (unit op : ℕ) → target_of_item v ≡ Trigger unit op → nat_lt unit 32 ≡ true
unit_in m rules (item.Long i r value) h unit op e = absurd cc
unit_in m rules (item.Move guard src dst) h unit op e = on dst e h where
  on : (d : Dest) → target_of d ≡ Trigger unit op → has_slot m (item.Move guard src d) ≡ true → nat_lt unit 32 ≡ true
  on (dest.Reg f i) e h = absurd cc
  on (dest.Operand u) e h = absurd cc
  on dest.Jump e h = absurd cc
  on dest.Call e h = absurd cc
  on dest.Halt e h = absurd cc
  on (dest.Trigger u o) e h =
      let bus = some_bus (λ bus. joins m bus (carried m src) (dest.Trigger u o) guard) 0 (length m.buses) h in
      let two = and_parts (is_source_on m bus.0 (carried m src) && is_dest_on m bus.0 (dest.Trigger u o)) (has_guard m bus.0 guard) bus.1 in
      let ends = and_parts (is_source_on m bus.0 (carried m src)) (is_dest_on m bus.0 (dest.Trigger u o)) two.0 in
      let same : u ≡ unit = cc in
      ap (λ k. nat_lt k 32) (sym same) ∙ unit_on m rules u o bus.0 ends.1

-- ---- all that an item touches

both : (p : Touch → Bool) (xs ys : List Touch) → list_all p xs ≡ true → list_all p ys ≡ true → list_all p (xs ++ ys) ≡ true
both p [] ys a b = b
both p (x ∷ xs) ys a b = let two = and_parts (p x) (list_all p xs) a in and_from (p x) (list_all p (xs ++ ys)) two.0 (both p xs ys two.1 b)

abbrev all_spots : List Touch → Bool
all_spots ts = list_all (λ t. is_spot t.0) ts

reads_in : (m : Machine) (v : Item) → InRange m v → ((unit op : ℕ) → target_of_item v ≡ Trigger unit op → nat_lt unit 32 ≡ true) → all_spots (reads_by v) ≡ true
reads_in m v range unit =
    both (λ t. is_spot t.0) (option_map_or (λ p. (At p, 0) ∷ []) (place_of_source (source_of v)) []) _ (source (place_of_source (source_of v)) refl)
    (both (λ t. is_spot t.0) (option_map_or (λ g. (At (guard_place g), 0) ∷ []) (guard_of v) []) _ (guard (guard_of v) refl) (operand (target_of_item v) refl)) where
      source : (o : Option Place) → place_of_source (source_of v) ≡ o → all_spots (option_map_or (λ p. (At p, 0) ∷ []) o []) ≡ true
      source None e = refl
      source (Some p) e = and_from (is_place p) true (range.source p e) refl

      guard : (o : Option GuardRef) → guard_of v ≡ o → all_spots (option_map_or (λ g. (At (guard_place g), 0) ∷ []) o []) ≡ true
      guard None e = refl
      guard (Some g) e = and_from (is_place (guard_place g)) true (range.guard g e) refl

      operand : (d : Target) → target_of_item v ≡ d → all_spots (operand_read d) ≡ true
      operand (Reg f i) e = refl
      operand (Imm f i) e = refl
      operand (Operand u) e = refl
      operand (Trigger u o) e = and_from (nat_lt u 32) true (unit u o e) refl
      operand (Control kind) e = refl

writes_in : (m : Machine) (v : Item) → InRange m v → ((unit op : ℕ) → target_of_item v ≡ Trigger unit op → nat_lt unit 32 ≡ true) → all_spots (writes_by m v) ≡ true
writes_in m v range unit = on (target_of_item v) refl where
  place : (d : Target) (p : Place) → target_of_item v ≡ d → place_written m d ≡ Some p → is_place p ≡ true
  place d p e w = range.target p (ap (place_written m) e ∙ w)

  due : (u : ℕ) (o : Option ℕ) → nat_lt u 32 ≡ true → all_spots ((Started u, 1) ∷ option_map_or (λ due. (At (KeptPort u), due) ∷ []) o []) ≡ true
  due u None h = and_from (nat_lt u 32) true h refl
  due u (Some n) h = and_from (nat_lt u 32) _ h (and_from (nat_lt u 32) true h refl)

  on : (d : Target) → target_of_item v ≡ d → all_spots (written_at m d) ≡ true
  on (Reg f i) e = and_from (is_place (KeptReg f i)) true (place (Reg f i) (KeptReg f i) e refl) refl
  on (Imm f i) e = and_from (is_place (KeptImm f i)) true (place (Imm f i) (KeptImm f i) e refl) refl
  on (Operand u) e = and_from (is_place (KeptOperand u)) true (place (Operand u) (KeptOperand u) e refl) refl
  on (Trigger u o) e = due u (due_after m (Trigger u o)) (unit u o e)
  on (Control Jumps) e = refl
  on (Control Calls) e = refl
  on (Control Halts) e = refl

pub within_of : (m : Machine) → IsMachine m → (v : Item) → has_slot m v ≡ true → is_within m v ≡ true
within_of m rules v has =
    let range = in_range m rules v has in
    both (λ t. is_spot t.0) (reads_by v) (writes_by m v) (reads_in m v range (unit_in m rules v has)) (writes_in m v range (unit_in m rules v has))
