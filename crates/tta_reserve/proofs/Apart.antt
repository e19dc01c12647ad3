-- Bounds keep the items of a cycle in places of their own.
use Rattle.std.proofs.Common.{◌≡◌, ℕ, ◌+◌, ◌-◌, ◌≤◌, Bool, true, false, List, [], ◌∷◌, refl, arith}
use Rattle.std.specs.Prelude.{max, not, ◌&&◌, ◌==◌, if◌then◌else◌}
use Rattle.std.specs.List.{list_all}
use Rattle.std.proofs.lemmas.Bool.{and_parts, and_from, not-true}
use Rattle.std.proofs.lemmas.Bool.Decides.{nat_tests}
use Rattle.tta_reserve.specs.Cited.{Dest, Machine, same_place, Trigger, target_of, Item, PlacedItem, is_control, controls, written_at, writes_by, behind, least, in_cycle}
use Rattle.tta_arch.specs.declared.ends.Dest.TheVariants as dest
use Rattle.tta_moves.specs.declared.items.Item.TheVariants as item
use Rattle.tta_reserve.specs.Taken.{meets, is_apart}

-- a test that holds would push the bound past the cycle
by : (s : Bool) → (c : ℕ) → max (max (if s then c + 1 + 1 - 1 else 0) 0) 0 ≤ c → not s ≡ true
by true c h = absurd (omega arith)
by false c h = refl

trigger_first : (m : Machine) (u o w q c : ℕ) → behind 1 c (written_at m (Trigger u o)) (written_at m (Trigger w q)) ≤ c → max (max (if u == w then c + 1 + 1 - 1 else 0) 0) 0 ≤ c
trigger_first m u o w q c h = on (u == w) _ _ h where
  on : (s : Bool) (a b : ℕ) → max (max (if s then c + 1 + 1 - 1 else 0) a) b ≤ c → max (max (if s then c + 1 + 1 - 1 else 0) 0) 0 ≤ c
  on true a b h = absurd (omega arith)
  on false a b h = omega arith

-- two destinations of which the earlier is not control's
apart_one : (m : Machine) (d dst : Dest) (c : ℕ) → controls (target_of d) ≡ false → behind 1 c (written_at m (target_of d)) (written_at m (target_of dst)) ≤ c
    → not (same_place d dst) ≡ true
apart_one m (dest.Reg f i) (dest.Reg g j) c k h = by (f == g && i == j) c h
apart_one m (dest.Reg f i) (dest.Operand w) c k h = refl
apart_one m (dest.Reg f i) (dest.Trigger w q) c k h = refl
apart_one m (dest.Reg f i) dest.Jump c k h = refl
apart_one m (dest.Reg f i) dest.Call c k h = refl
apart_one m (dest.Reg f i) dest.Halt c k h = refl
apart_one m (dest.Operand u) (dest.Reg g j) c k h = refl
apart_one m (dest.Operand u) (dest.Operand w) c k h = by (u == w) c h
apart_one m (dest.Operand u) (dest.Trigger w q) c k h = refl
apart_one m (dest.Operand u) dest.Jump c k h = refl
apart_one m (dest.Operand u) dest.Call c k h = refl
apart_one m (dest.Operand u) dest.Halt c k h = refl
apart_one m (dest.Trigger u o) (dest.Reg g j) c k h = refl
apart_one m (dest.Trigger u o) (dest.Operand w) c k h = refl
apart_one m (dest.Trigger u o) (dest.Trigger w q) c k h = by (u == w) c (trigger_first m u o w q c h)
apart_one m (dest.Trigger u o) dest.Jump c k h = refl
apart_one m (dest.Trigger u o) dest.Call c k h = refl
apart_one m (dest.Trigger u o) dest.Halt c k h = refl
apart_one m dest.Jump dst c k h = absurd cc
apart_one m dest.Call dst c k h = absurd cc
apart_one m dest.Halt dst c k h = absurd cc

apart_item : (m : Machine) (i v : Item) (c : ℕ) → not (is_control i) ≡ true → behind 1 c (writes_by m i) (writes_by m v) ≤ c → not (meets i v) ≡ true
apart_item m (item.Move guard src d) (item.Move guard' src' dst) c k h = apart_one m d dst c (not-true (controls (target_of d)) k) h
apart_item m (item.Move guard src d) (item.Long unit index value) c k h = refl
apart_item m (item.Long unit index value) (item.Move guard src dst) c k h = refl
apart_item m (item.Long unit index value) (item.Long unit' index' value') c k h = refl

pub bounds_keep_apart : (m : Machine) (placed : List PlacedItem) (v : Item) (cycle : ℕ) → list_all (λ y. not (is_control y.item)) placed ≡ true
    → least m placed v ≤ cycle → is_apart v (in_cycle cycle placed) ≡ true
bounds_keep_apart m [] v cycle k h = refl
bounds_keep_apart m (y ∷ placed) v cycle k h =
    let two = and_parts (not (is_control y.item)) (list_all (λ (z : PlacedItem). not (is_control z.item)) placed) k in
    let ih = bounds_keep_apart m placed v cycle two.1 (omega arith) in
    let le : behind 1 y.cycle (writes_by m y.item) (writes_by m v) ≤ cycle = omega arith in
    on (y.cycle == cycle) refl ih two.0 le where
      on : (b : Bool) → (y.cycle == cycle) ≡ b → is_apart v (in_cycle cycle placed) ≡ true → not (is_control y.item) ≡ true
          → behind 1 y.cycle (writes_by m y.item) (writes_by m v) ≤ cycle
          → is_apart v (if b then y ∷ in_cycle cycle placed else in_cycle cycle placed) ≡ true
      on true q ih none le =
          let same : y.cycle ≡ cycle = grind (arith, nat_tests) in
          and_from (not (meets y.item v)) (is_apart v (in_cycle cycle placed)) (apart_item m y.item v y.cycle none (omega arith)) ih
      on false q ih none le = ih
