-- First fits take few cycles.
use Rattle.std.proofs.Common.{◌≡◌, ◌⊎◌, inl, inr, ℕ, zero, suc, ◌+◌, ◌*◌, ◌<◌, ◌≤◌, Bool, true, false, List, [], ◌∷◌, ◌++◌, Option, Some, None, refl, sym, ap, subst, ◌∙◌, arith, length, map, take}
use Rattle.std.specs.Prelude.{slice_get, max, ◌&&◌, ◌||◌, ◌==◌, nat_le, if◌then◌else◌, option_and_then, option_map}
use Rattle.std.specs.Option.{option_map_or}
use Rattle.std.specs.List.{list_all, list_any}
use Rattle.std.proofs.lemmas.List.{take_all, length-map}
use Rattle.std.proofs.lemmas.Bool.{and_parts, cases_lt}
use Rattle.std.proofs.lemmas.Bool.Decides.{nat_tests}
use Rattle.std.proofs.lemmas.Option.{slice_get-map}
use Rattle.tta_list.proofs.Lists.{list_all_one, take_one_more}
use Rattle.tta_sched.specs.Cited.{UnitOp, Machine, IsMachine, joins, Target, Reg, Imm, Operand, Trigger, Control, op_at, has_result, or_else, Item, Slot, Bus, Template, PlacedItem, Placed, is_control, target_of_item, carried, carries, fills, has_slot, fits_cycle, control_is_last, is_list, lasts, in_cycle, last_end, control_cycle, length_of, due_after, fits_beside, FitsFirst, IsFirstFit, end_of}
use Rattle.tta_arch.specs.declared.parts.Unit.{Unit as OpUnit}
use Rattle.tta_arch.specs.declared.parts.Template.{Template as Field}
use Rattle.tta_moves.specs.declared.items.Item.TheVariants as item
use Rattle.tta_depend.proofs.Asked.{end_push, last_end_is}
use Rattle.tta_sched.specs.Serial.{IsSerial}
use Rattle.tta_sched.specs.Room.{longest_of, longest_in, longest, HasRoom}
use Rattle.tta_sched.proofs.Behind.{least_over, lasts_some}
use Rattle.tta_sched.proofs.Lone.{alone_fits}
use Rattle.tta_sched.proofs.Ones.{Each, over_by_end}
use Rattle.tta_moves.proofs.InRange.{some_bus}
use Rattle.tta_list.proofs.Tests.{false_true}

-- ---- prefixes

-- a list has an item in a place, or ends before it
here_or_past : {A : Type 0} (xs : List A) (k : ℕ) → ((x : A) × (slice_get xs k ≡ Some x)) ⊎ (take (suc k) xs ≡ take k xs)
here_or_past [] zero = inr refl
here_or_past [] (suc k) = inr refl
here_or_past (x ∷ xs) zero = inl (x, refl)
here_or_past (x ∷ xs) (suc k) = elim (here_or_past xs k) [
  | inl h ↦ inl h
  | inr e ↦ inr (ap (λ l. x ∷ l) e)
]

-- ---- a cycle after all items

some_template : (p : Field → Bool) (ts : List Field) → list_any p ts ≡ true → (k : ℕ) × (option_map_or p (slice_get ts k) false ≡ true)
some_template p [] h = absurd cc
some_template p (t ∷ ts) h = on (p t) refl h (some_template p ts) where
  on : (b : Bool) → p t ≡ b → (b || list_any p ts) ≡ true → (list_any p ts ≡ true → (k : ℕ) × (option_map_or p (slice_get ts k) false ≡ true)) → (k : ℕ) × (option_map_or p (slice_get (t ∷ ts) k) false ≡ true)
  on true e h ih = (0, e)
  on false e h ih = let q = ih h in (suc q.0, q.1)

some_slot : (m : Machine) (v : Item) → has_slot m v ≡ true → (slot : Slot) × (carries m slot v ≡ true)
some_slot m (item.Move guard src dst) h = let q = some_bus (λ bus. joins m bus (carried m src) dst guard) 0 (length m.buses) h in (Bus q.0, q.1)
some_slot m (item.Long unit index value) h = let q = some_template (fills unit index) m.templates h in (Template q.0, q.1)

none_there : (c : ℕ) (ps : List PlacedItem) → ((k : ℕ) (x : PlacedItem) → slice_get ps k ≡ Some x → x.cycle < c) → in_cycle c ps ≡ []
none_there c [] h = refl
none_there c (p ∷ ps) h =
    let lt = h 0 p refl in
    let no : (p.cycle == c) ≡ false = grind (arith, nat_tests) in
    rw no (none_there c ps (λ k x e. h (suc k) x e))

pub fits_after : (m : Machine) → IsMachine m → (placed : List PlacedItem) (v : Item) (cycle : ℕ) → has_slot m v ≡ true
    → ((k : ℕ) (x : PlacedItem) → slice_get placed k ≡ Some x → x.cycle < cycle) → (slot : Slot) × (fits_beside m placed v cycle slot ≡ true)
fits_after m rules placed v cycle has before =
    let q = some_slot m v has in
    let none = none_there cycle placed before in
    (q.0, ap (λ l. fits_cycle m (l ++ record { item = v; cycle = cycle; slot = q.0 } ∷ [])) none ∙ alone_fits m rules (record { item = v; cycle = cycle; slot = q.0 }) q.1)

-- ---- room

-- an item of a first fit stands no later than where all items before it are over
early : (m : Machine) → IsMachine m → (placed : List PlacedItem) (x : PlacedItem) → has_slot m x.item ≡ true → FitsFirst m placed x → x.cycle ≤ end_of m placed
early m rules placed x has f = elim (cases_lt (end_of m placed) x.cycle) [
  | inr le ↦ le
  | inl late ↦
      let q = fits_after m rules placed x.item (end_of m placed) has (λ k y e. let over = over_by_end m placed k y e in let some = lasts_some m y.item in omega arith) in
      absurd (false_true (fits_beside m placed x.item (end_of m placed) q.0) q.1 (f.cycle (end_of m placed) q.0 (least_over m rules placed x.item) late))
]

op_longest : (os : List UnitOp) (k : ℕ) (o : UnitOp) → slice_get os k ≡ Some o → o.latency ≤ longest_of os
op_longest [] k o e = absurd cc
op_longest (p ∷ os) zero o e = let same : p ≡ o = cc in subst (λ (q : UnitOp). q.latency ≤ max p.latency (longest_of os)) same (omega arith)
op_longest (p ∷ os) (suc k) o e = let ih = op_longest os k o e in omega arith

unit_longest : (us : List OpUnit) (k : ℕ) (u : OpUnit) → slice_get us k ≡ Some u → longest_of u.ops ≤ longest_in us
unit_longest [] k u e = absurd cc
unit_longest (p ∷ us) zero u e = let same : p ≡ u = cc in subst (λ (q : OpUnit). longest_of q.ops ≤ max (longest_of p.ops) (longest_in us)) same (omega arith)
unit_longest (p ∷ us) (suc k) u e = let ih = unit_longest us k u e in omega arith

longest_some : (us : List OpUnit) → 1 ≤ longest_in us
longest_some [] = omega arith
longest_some (u ∷ us) = let ih = longest_some us in omega arith

lasts_most : (m : Machine) (x : Item) → lasts m x ≤ longest m
lasts_most m x = on (target_of_item x) where
  one : 1 ≤ longest m
  one = longest_some m.units

  op : (unit k : ℕ) (o : Option UnitOp) → op_at m unit k ≡ o → max 1 (option_map_or (λ due. due) (option_map_or (λ o. if has_result o.op then Some o.latency else None) o None) 0) ≤ longest m
  op unit k None e = let h = one in omega arith
  op unit k (Some o) e = by (has_result o.op) where
    most : (u : Option OpUnit) → slice_get m.units unit ≡ u → option_and_then (λ (q : OpUnit). slice_get q.ops k) u ≡ Some o → o.latency ≤ longest m
    most None g e = absurd cc
    most (Some u) g e = let a = op_longest u.ops k o e in let b = unit_longest m.units unit u g in omega arith

    by : (b : Bool) → max 1 (option_map_or (λ due. due) (if b then Some o.latency else None) 0) ≤ longest m
    by true = let h = one in let l = most (slice_get m.units unit) refl e in omega arith
    by false = let h = one in omega arith

  on : (d : Target) → max 1 (option_map_or (λ due. due) (due_after m d) 0) ≤ longest m
  on (Reg f i) = let h = one in omega arith
  on (Imm f i) = let h = one in omega arith
  on (Operand f) = let h = one in omega arith
  on (Trigger unit k) = op unit k (op_at m unit k) refl
  on (Control k) = let h = one in omega arith

-- where each item stands no later than where all before it are over, the end grows by the greatest latency an item
end_front : (m : Machine) (ps : List PlacedItem) → Each (λ placed x. x.cycle ≤ end_of m placed) ps → (n : ℕ) → end_of m (take n ps) ≤ n * longest m
end_front m ps each zero = omega arith
end_front m ps each (suc n) = elim (here_or_past ps n) [
  | inr past ↦ let ih = end_front m ps each n in let e = ap (end_of m) past in let l = suc_times n (longest m) in omega arith
  | inl here ↦
      let ih = end_front m ps each n in
      let e = ap (end_of m) (take_one_more ps n here.0 here.1) ∙ end_push m (take n ps) here.0 in
      let le = each n here.0 here.1 in
      let most = lasts_most m here.0.item in
      let l = suc_times n (longest m) in
      omega arith
] where
  suc_times : (n l : ℕ) → suc n * l ≡ n * l + l
  suc_times n l = grind arith

-- the control item is over by the end
control_early : (m : Machine) (ps : List PlacedItem) (c : ℕ) → control_cycle ps ≡ Some c → c < end_of m ps
control_early m [] c e = absurd cc
control_early m (p ∷ ps) c e = on (is_control p.item) e (control_early m ps c) where
  on : (b : Bool) → or_else (if b then Some p.cycle else None) (control_cycle ps) ≡ Some c → (control_cycle ps ≡ Some c → c < end_of m ps) → c < max (p.cycle + lasts m p.item) (end_of m ps)
  on true e ih = let same : p.cycle ≡ c = cc in let some = lasts_some m p.item in omega arith
  on false e ih = let h = ih e in omega arith

pub room_of : (m : Machine) (items : List Item) (p : Placed) → map (λ x. x.item) p.items ≡ items → p.length ≡ length_of m p.items
    → Each (λ placed x. x.cycle ≤ end_of m placed) p.items → HasRoom m items p
room_of m items p order long each =
    let all : take (length p.items) p.items ≡ p.items = take_all (length p.items) p.items (omega arith) in
    let far : end_of m p.items ≤ length p.items * longest m = subst (λ l. end_of m l ≤ length p.items * longest m) all (end_front m p.items each (length p.items)) in
    let count : length p.items ≡ length items = sym (length-map p.items (λ (x : PlacedItem). x.item)) ∙ ap length order in
    let far' : end_of m p.items ≤ length items * longest m = subst (λ n. end_of m p.items ≤ n * longest m) count far in
    let times : length items * (longest m + 1) ≡ length items * longest m + length items = times_more (length items) (longest m) in
    let end : length_of m p.items ≤ end_of m p.items + 1 + m.control.delay = on (control_cycle p.items) refl in
    omega arith where
      times_more : (n l : ℕ) → n * (l + 1) ≡ n * l + n
      times_more n l = grind arith

      on : (o : Option ℕ) → control_cycle p.items ≡ o → option_map_or (λ cycle. cycle + 1 + m.control.delay) o (last_end m p.items) ≤ end_of m p.items + 1 + m.control.delay
      on None e = let l = last_end_is m p.items in omega arith
      on (Some c) e = let l = control_early m p.items c e in omega arith

pub first_fit_has_room : (m : Machine) → IsMachine m → (items : List Item) (p : Placed) → is_list m items ≡ true → IsFirstFit m items p → HasRoom m items p
first_fit_has_room m rules items p list f = room_of m items p f.order f.long (λ k x e. early m rules (take k p.items) x (slot_of k x e) (f.first k x e)) where
  slot_of : (k : ℕ) (x : PlacedItem) → slice_get p.items k ≡ Some x → has_slot m x.item ≡ true
  slot_of k x e =
      let all = (and_parts (nat_le (length items) 16777216) (list_all (has_slot m) items) (and_parts (nat_le (length items) 16777216 && list_all (has_slot m) items) (control_is_last items) list).0).1 in
      let there : slice_get items k ≡ Some x.item = ap (λ l. slice_get l k) (sym f.order) ∙ slice_get-map (λ (y : PlacedItem). y.item) p.items k ∙ ap (option_map (λ (y : PlacedItem). y.item)) e in
      list_all_one (has_slot m) items k x.item all there

pub serial_has_room : (m : Machine) (items : List Item) (p : Placed) → IsSerial m items p → HasRoom m items p
serial_has_room m items p s = room_of m items p s.order s.long (λ k x e. let h = (s.alone k x e).cycle in omega arith)
