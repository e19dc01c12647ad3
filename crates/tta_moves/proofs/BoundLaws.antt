-- What the bounds of a placed list keep apart.
use Rattle.std.proofs.Common.{◌≡◌, ℕ, zero, suc, ◌+◌, ◌-◌, ◌<◌, ◌≤◌, Bool, true, false, List, [], ◌∷◌, Option, Some, None, refl, sym, ap, arith, take}
use Rattle.std.specs.Prelude.{slice_get, if◌then◌else◌}
use Rattle.std.proofs.lemmas.Bool.Decides.{nat_tests}
use Rattle.tta_moves.specs.Cited.{Machine, or_else, first_some}
use Rattle.tta_moves.specs.declared.items.Item.{Item}
use Rattle.tta_moves.specs.declared.items.PlacedItem.{PlacedItem}
use Rattle.tta_moves.specs.Touches.{is_control}
use Rattle.tta_moves.specs.Bounds.{Spot, At, Started, same_spot, Touch, reads_by, writes_by, from_moment, behind, lasts, over_before, bound, least}
use Rattle.tta_moves.proofs.Places.{same_self}
use Rattle.tta_arch.proofs.Places.{same_is}

pub spot_is : (p q : Spot) → same_spot p q ≡ true → p ≡ q
spot_is (At p) (At q) e = ap At (same_is p q e)
spot_is (At p) (Started v) e = absurd cc
spot_is (Started u) (At q) e = absurd cc
spot_is (Started u) (Started v) e = let a : u ≡ v = grind (arith, nat_tests) in cc

pub spot_self : (p : Spot) → same_spot p p ≡ true
spot_self (At p) = same_self p
spot_self (Started u) = grind (arith, nat_tests)

-- when a spot is touched
abbrev pub offset : Spot → List Touch → Option ℕ
offset x ts = first_some (λ t. if same_spot t.0 x then Some t.1 else None) ts

from_is : (x : Spot) (moment b : ℕ) (own : List Touch) → offset x own ≡ Some b → moment ≤ from_moment x moment own + b
from_is x moment b [] e = absurd cc
from_is x moment b (o ∷ own) e = on (same_spot o.0 x) refl e (λ q. from_is x moment b own q) where
  on : (c : Bool) → same_spot o.0 x ≡ c → or_else (if c then Some o.1 else None) (offset x own) ≡ Some b → (offset x own ≡ Some b → moment ≤ from_moment x moment own + b) → moment ≤ from_moment x moment (o ∷ own) + b
  on true q e ih =
      let s = spot_is o.0 x q in
      let t : same_spot x o.0 ≡ true = rw s (spot_self x) in
      let l : o.1 ≡ b = cc in
      rw t (omega arith)
  on false q e ih = let r = ih e in omega arith

behind_is : (x : Spot) (gap cycle a b : ℕ) (earlier own : List Touch) → offset x earlier ≡ Some a → offset x own ≡ Some b → cycle + a + gap ≤ behind gap cycle earlier own + b
behind_is x gap cycle a b [] own e g = absurd cc
behind_is x gap cycle a b (t ∷ earlier) own e g = on (same_spot t.0 x) refl e (λ q. behind_is x gap cycle a b earlier own q g) where
  on : (c : Bool) → same_spot t.0 x ≡ c → or_else (if c then Some t.1 else None) (offset x earlier) ≡ Some a → (offset x earlier ≡ Some a → cycle + a + gap ≤ behind gap cycle earlier own + b)
      → cycle + a + gap ≤ behind gap cycle (t ∷ earlier) own + b
  on true q e ih =
      let s = spot_is t.0 x q in
      let l : t.1 ≡ a = cc in
      let r = from_is x (cycle + t.1 + gap) b own g in
      let r' : cycle + t.1 + gap ≤ from_moment t.0 (cycle + t.1 + gap) own + b = rw s r in
      omega arith
  on false q e ih = let r = ih e in omega arith

-- the bound of each earlier item counts
pub least_is : (m : Machine) (ps : List PlacedItem) (v : Item) (i k : ℕ) (x : PlacedItem) → i < k → slice_get ps i ≡ Some x → bound m v x ≤ least m (take k ps) v
least_is m ps v i zero x lt e = absurd (omega arith)
least_is m [] v i (suc k) x lt e = absurd cc
least_is m (p ∷ ps) v zero (suc k) x lt e = let same : p ≡ x = cc in rw (sym same) (omega arith)
least_is m (p ∷ ps) v (suc i) (suc k) x lt e = let r = least_is m ps v i k x (omega arith) e in omega arith

module _ (m : Machine) (ps : List PlacedItem) (bounds : (k : ℕ) (y : PlacedItem) → slice_get ps k ≡ Some y → least m (take k ps) y.item ≤ y.cycle) where
  pub apart : (i j : ℕ) (x y : PlacedItem) → i < j → slice_get ps i ≡ Some x → slice_get ps j ≡ Some y → bound m y.item x ≤ y.cycle
  apart i j x y lt e f = let r = bounds j y f in let l = least_is m ps y.item i j x lt e in omega arith

  -- what is read was written and shows
  pub finds : (i j : ℕ) (x y : PlacedItem) (s : Spot) (a b : ℕ) → i < j → slice_get ps i ≡ Some x → slice_get ps j ≡ Some y → offset s (writes_by m x.item) ≡ Some a → offset s (reads_by y.item) ≡ Some b
      → x.cycle + a ≤ y.cycle + b
  finds i j x y s a b lt e f w r =
      let l = apart i j x y lt e f in
      let g = behind_is s 0 x.cycle a b (writes_by m x.item) (reads_by y.item) w r in
      omega arith

  -- what is written shows in the order of the list
  pub rises : (i j : ℕ) (x y : PlacedItem) (s : Spot) (a b : ℕ) → i < j → slice_get ps i ≡ Some x → slice_get ps j ≡ Some y → offset s (writes_by m x.item) ≡ Some a → offset s (writes_by m y.item) ≡ Some b
      → x.cycle + a < y.cycle + b
  rises i j x y s a b lt e f w r =
      let l = apart i j x y lt e f in
      let g = behind_is s 1 x.cycle a b (writes_by m x.item) (writes_by m y.item) w r in
      omega arith

  -- what is read is not written over before
  pub waits : (i j : ℕ) (x y : PlacedItem) (s : Spot) (a b : ℕ) → i < j → slice_get ps i ≡ Some x → slice_get ps j ≡ Some y → offset s (reads_by x.item) ≡ Some a → offset s (writes_by m y.item) ≡ Some b
      → x.cycle + a < y.cycle + b
  waits i j x y s a b lt e f w r =
      let l = apart i j x y lt e f in
      let g = behind_is s 1 x.cycle a b (reads_by x.item) (writes_by m y.item) w r in
      omega arith

  -- a control item takes effect when all before is over
  pub is_over : (i j : ℕ) (x y : PlacedItem) → i < j → slice_get ps i ≡ Some x → slice_get ps j ≡ Some y → is_control y.item ≡ true → x.cycle + lasts m x.item ≤ y.cycle + 1 + m.control.delay
  is_over i j x y lt e f c =
      let l = apart i j x y lt e f in
      let over : over_before m y.item x ≡ x.cycle + lasts m x.item - (1 + m.control.delay) = rw c refl in
      omega arith
