-- The steps of first fit: the search for a cycle, and one item more.
use Rattle.std.proofs.Common.{◌≡◌, inl, inr, ℕ, zero, suc, ◌+◌, ◌*◌, ◌<◌, ◌≤◌, Bool, true, false, List, [], ◌∷◌, Option, Some, None, refl, ap, subst, ◌∙◌, arith, length, map, take}
use Rattle.std.specs.Prelude.{max, not, slice_get, ◌||◌, ◌==◌, if◌then◌else◌}
use Rattle.std.specs.Option.{option_map_or}
use Rattle.std.proofs.lemmas.Bool.{and_parts, and_from, cases_lt}
use Rattle.std.proofs.lemmas.Bool.Decides.{nat_tests}
use Rattle.tta_sched.specs.Cited.{Machine, IsMachine, Target, Reg, Imm, Operand, Trigger, Control, or_else, Item, Slot, PlacedItem, is_control, target_of_item, has_slot, control_is_last, least, lasts, due_after, in_cycle, control_cycle, fits_beside, Kept, end_of, Stands, Row, is_apart, StandsFor, IsLeastSlot}
use Rattle.tta_depend.proofs.Asked.{end_push}
use Rattle.tta_reserve.proofs.Apart.{bounds_keep_apart}
use Rattle.tta_sched.specs.First.{no_control, Keeps, Asks, StandsFirst, FindsFirst, AddsFirst}
use Rattle.tta_sched.proofs.Behind.{least_over, lasts_some, due_least}
use Rattle.tta_sched.proofs.Ones.{over_by_end}
use Rattle.tta_sched.proofs.Firsts.{fits_after}
use Rattle.tta_list.proofs.Tests.{false_true}

-- ---- the search

-- from the bound on, an item goes elsewhere than the items of a cycle
pub apart_from : (m : Machine) (table : List Row) (placed : List PlacedItem) (v : Item) (from cycle : ℕ) → Asks m table placed v from → from ≤ cycle → is_apart v (in_cycle cycle placed) ≡ true
apart_from m table placed v from cycle asks le = let e = asks.from in bounds_keep_apart m placed v cycle asks.controls (omega arith)

-- an item fits in none of these cycles
abbrev pub Tried : Machine → List PlacedItem → Item → (from cycle : ℕ) → Type 0
Tried m placed v from cycle = (c : ℕ) (slot : Slot) → from ≤ c → c < cycle → fits_beside m placed v c slot ≡ false

pub tried_more : (m : Machine) (placed : List PlacedItem) (v : Item) (from cycle : ℕ) (o : Option Slot) → o ≡ None → IsLeastSlot m placed v cycle o → Tried m placed v from cycle → Tried m placed v from (cycle + 1)
tried_more m placed v from cycle o none is tried = λ c slot le lt. elim (cases_lt c cycle) [
  | inl before ↦ tried c slot le before
  | inr now ↦
      let same : cycle ≡ c = omega arith in
      let at : IsLeastSlot m placed v cycle None = subst (λ p. IsLeastSlot m placed v cycle p) none is in
      subst (λ k. fits_beside m placed v k slot ≡ false) same (at slot)
]

pub found : (m : Machine) (placed : List PlacedItem) (v : Item) (from cycle end : ℕ) (o : Option Slot) (slot : Slot) → from ≡ least m placed v → from ≤ cycle → cycle < end → o ≡ Some slot
    → IsLeastSlot m placed v cycle o → Tried m placed v from cycle → StandsFirst m placed v end (record { item = v; cycle = cycle; slot = slot })
found m placed v from cycle end o slot is le lt some at tried =
    let here : IsLeastSlot m placed v cycle (Some slot) = subst (λ p. IsLeastSlot m placed v cycle p) some at in
    record {
      item = refl;
      within = lt;
      first = record {
        bound = omega arith;
        fits = here.0;
        cycle = λ c s low before. tried c s (omega arith) before;
        slot = here.1;
      };
    }

pub not_found : (m : Machine) (placed : List PlacedItem) (v : Item) (from cycle end : ℕ) → from ≡ least m placed v → end ≤ cycle → Tried m placed v from cycle → FindsFirst m placed v end None
not_found m placed v from cycle end is le tried = λ c slot low lt. tried c slot (omega arith) (omega arith)

-- ---- one item

-- an item is always found up to the cycle after all items before it
pub is_found : (m : Machine) → IsMachine m → (placed : List PlacedItem) (v : Item) (end : ℕ) → has_slot m v ≡ true → end ≡ end_of m placed + 1 → FindsFirst m placed v end None → ⊥
is_found m rules placed v end has is none =
    let q = fits_after m rules placed v (end_of m placed) has (λ k y e. let over = over_by_end m placed k y e in let some = lasts_some m y.item in omega arith) in
    false_true (fits_beside m placed v (end_of m placed) q.0) q.1 (none (end_of m placed) q.0 (least_over m rules placed v) (omega arith))

pub no_control_cycle : (placed : List PlacedItem) → no_control placed ≡ true → control_cycle placed ≡ None
no_control_cycle [] h = refl
no_control_cycle (x ∷ placed) h =
    let two = and_parts (not (is_control x.item)) (no_control placed) h in
    on (is_control x.item) two.0 (no_control_cycle placed two.1) where
      on : (b : Bool) → not b ≡ true → control_cycle placed ≡ None → or_else (if b then Some x.cycle else None) (control_cycle placed) ≡ None
      on true h ih = absurd cc
      on false h ih = ih

-- ---- all items

-- an item takes 16 cycles at most
lasts_few : (m : Machine) → IsMachine m → (v : Item) → lasts m v ≤ 16
lasts_few m rules v = on (target_of_item v) where
  by : (o : Option ℕ) → ((due : ℕ) → o ≡ Some due → (1 ≤ due) × (due ≤ 16)) → max 1 (option_map_or (λ due. due) o 0) ≤ 16
  by None h = omega arith
  by (Some due) h = let le = (h due refl).1 in omega arith

  on : (d : Target) → max 1 (option_map_or (λ due. due) (due_after m d) 0) ≤ 16
  on (Reg f i) = omega arith
  on (Imm f i) = omega arith
  on (Operand u) = omega arith
  on (Trigger unit op) = by (due_after m (Trigger unit op)) (λ due e. due_least m rules unit op due e)
  on (Control kind) = omega arith

pub end_grows : (m : Machine) → IsMachine m → (placed more : List PlacedItem) (v : Item) (i : ℕ) → AddsFirst m placed v more → end_of m placed ≤ 16 * i → end_of m more ≤ 16 * (i + 1)
end_grows m rules placed more v i adds le =
    let soon = adds.soon in
    let few = lasts_few m rules adds.last.item in
    let e = ap (end_of m) adds.longer ∙ end_push m placed adds.last in
    omega arith

-- where no item is placed yet
pub nothing_kept : (m : Machine) (kept : Kept) (rows : List Row) (placed : List PlacedItem) → placed ≡ [] → Stands kept m [] → StandsFor rows m [] → Keeps m kept rows placed
nothing_kept m kept rows placed none bounds table = rw none (record { bounds = bounds; table = table })

pub no_entry : (placed : List PlacedItem) (k : ℕ) (y : PlacedItem) → placed ≡ [] → slice_get placed k ≡ Some y → ⊥
no_entry [] k y none e = absurd cc
no_entry (x ∷ placed) k y none e = absurd cc

-- control is last, so no item before another is a control item
pub none_before : (items : List Item) (i : ℕ) (placed : List PlacedItem) → control_is_last items ≡ true → i < length items → map (λ x. x.item) placed ≡ take i items → no_control placed ≡ true
none_before [] i placed last lt order = absurd (omega arith)
none_before (v ∷ vs) i [] last lt order = refl
none_before (v ∷ vs) zero (x ∷ placed) last lt order = absurd cc
none_before (v ∷ vs) (suc i) (x ∷ placed) last lt order =
    let two = and_parts (not (is_control v) || length vs == 0) (control_is_last vs) last in
    let same : x.item ≡ v = cc in
    let rest : map (λ y. y.item) placed ≡ take i vs = cc in
    and_from (not (is_control x.item)) (no_control placed)
    (ap (λ w. not (is_control w)) same ∙ on (not (is_control v)) two.0)
    (none_before vs i placed two.1 (omega arith) rest) where
      on : (b : Bool) → (b || length vs == 0) ≡ true → b ≡ true
      on true h = refl
      on false h = absurd (let some : i < length vs = omega arith in grind (arith, nat_tests))
