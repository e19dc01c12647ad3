-- Items that stand one a cycle: each after those before it, so no two in one cycle.
use Rattle.std.proofs.Common.{◌≡◌, ◌⊎◌, inl, inr, ℕ, zero, suc, ◌+◌, ◌-◌, ◌<◌, ◌≤◌, Bool, true, false, List, [], ◌∷◌, ◌++◌, Option, Some, None, refl, sym, ap, subst, ◌∙◌, arith, length, map, take, get_or, length-append}
use Rattle.std.specs.Prelude.{slice_get, max, not, ◌||◌, ◌==◌, if◌then◌else◌}
use Rattle.std.specs.Option.{option_map_or}
use Rattle.std.proofs.lemmas.List.{take-append-le, take_at, take_more, map_push}
use Rattle.std.proofs.lemmas.Bool.{and_parts}
use Rattle.std.proofs.lemmas.Bool.Decides.{nat_tests}
use Rattle.std.proofs.lemmas.Option.{slice_get_within}
use Rattle.tta_list.proofs.Lists.{slice_get-push, slice_get-back}
use Rattle.tta_sched.specs.Cited.{Machine, IsMachine, or_else, Target, Reg, Imm, Operand, Trigger, Control, Item, PlacedItem, Placed, is_control, controls, target_of_item, fits_cycle, control_is_last, lasts, last_end, control_cycle, length_of, in_cycle, Respects, due_after, end_of}
use Rattle.tta_depend.proofs.Asked.{end_push, last_end_is}
use Rattle.tta_sched.specs.Serial.{StandsAlone, IsSerial, serial_length}
use Rattle.tta_sched.proofs.Behind.{least_over, lasts_some}
use Rattle.tta_sched.proofs.Lone.{none_fits, alone_fits}

-- ---- one item more

-- what holds of each item and those before it
abbrev pub Each : (List PlacedItem → PlacedItem → Type 0) → List PlacedItem → Type 0
Each P ps = (k : ℕ) (y : PlacedItem) → slice_get ps k ≡ Some y → P (take k ps) y

pub each_push : (P : List PlacedItem → PlacedItem → Type 0) (ps : List PlacedItem) (x : PlacedItem) → Each P ps → P ps x → Each P (ps ++ x ∷ [])
each_push P ps x each new k y e = elim (slice_get-push ps x k y e) [
  | inl old ↦
      let lt = slice_get_within ps k y old in
      subst (λ l. P l y) (sym (take-append-le k ps (x ∷ []) (omega arith))) (each k y old)
  | inr last ↦
      let before : ps ≡ take k (ps ++ x ∷ []) = sym (take_at ps (x ∷ []) k (sym last.0)) in
      subst (λ l. P l y) before (subst (P ps) last.1 new)
]

-- the items in their order, with one item more
pub order_push : (ps : List PlacedItem) (x : PlacedItem) (items : List Item) (i : ℕ) (d : Item) → map (λ y. y.item) ps ≡ take i items → x.item ≡ get_or items i d → i < length items
    → map (λ y. y.item) (ps ++ x ∷ []) ≡ take (i + 1) items
order_push ps x items i d order is lt =
    map_push (λ (y : PlacedItem). y.item) ps x ∙ ap (λ l. l ++ x.item ∷ []) order ∙ ap (λ z. take i items ++ z ∷ []) is ∙ sym (take_more items i d lt)

-- the same of lists that are named otherwise
pub order_step : (ps ps' : List PlacedItem) (x : PlacedItem) (items items' : List Item) (i : ℕ) (d : Item) → ps' ≡ ps ++ x ∷ [] → items' ≡ items → x.item ≡ get_or items' i d → i < length items'
    → map (λ y. y.item) ps ≡ take i items → map (λ y. y.item) ps' ≡ take (i + 1) items
order_step ps ps' x items items' i d new same is lt order =
    ap (map (λ (y : PlacedItem). y.item)) new ∙ order_push ps x items i d order (is ∙ ap (λ l. get_or l i d) same) (subst (λ l. i < length l) same lt)

pub end_step : (m : Machine) (ps : List PlacedItem) (x : PlacedItem) (n : ℕ) → x.cycle ≡ end_of m ps → n ≡ lasts m x.item → x.cycle + n ≡ end_of m (ps ++ x ∷ [])
end_step m ps x n is lasts = let e = end_push m ps x in omega arith

-- an item is over by the end
pub over_by_end : (m : Machine) (ps : List PlacedItem) (k : ℕ) (x : PlacedItem) → slice_get ps k ≡ Some x → x.cycle + lasts m x.item ≤ end_of m ps
over_by_end m [] k x e = absurd cc
over_by_end m (p ∷ ps) zero x e = let same : p ≡ x = cc in subst (λ (y : PlacedItem). y.cycle + lasts m y.item ≤ end_of m (p ∷ ps)) same (omega arith)
over_by_end m (p ∷ ps) (suc k) x e = let ih = over_by_end m ps k x e in omega arith

-- ---- the length

abbrev pub cycle_of_control : PlacedItem → Option ℕ
cycle_of_control x = if is_control x.item then Some x.cycle else None

-- control is last, so the first control item is the last item
pub control_front : (front : List PlacedItem) (x : PlacedItem) → control_is_last (map (λ y. y.item) (front ++ x ∷ [])) ≡ true → control_cycle (front ++ x ∷ []) ≡ cycle_of_control x
control_front [] x h = on (is_control x.item) where
  on : (b : Bool) → or_else (if b then Some x.cycle else None) None ≡ (if b then Some x.cycle else None)
  on true = refl
  on false = refl
control_front (y ∷ front) x h =
    let two = and_parts (not (is_control y.item) || length (map (λ z. z.item) (front ++ x ∷ [])) == 0) (control_is_last (map (λ z. z.item) (front ++ x ∷ []))) h in
    let ih = control_front front x two.1 in
    let no : is_control y.item ≡ false = not_here front two.0 in
    rw no ih where
      not_here : (front : List PlacedItem) → (not (is_control y.item) || length (map (λ z. z.item) (front ++ x ∷ [])) == 0) ≡ true → is_control y.item ≡ false
      not_here [] h = by (is_control y.item) h where
        by : (b : Bool) → (not b || false) ≡ true → b ≡ false
        by true h = absurd cc
        by false h = refl
      not_here (z ∷ front) h = by (is_control y.item) h where
        by : (b : Bool) → (not b || length (map (λ w. w.item) (z ∷ front ++ x ∷ [])) == 0) ≡ true → b ≡ false
        by true h = absurd (grind (arith, nat_tests))
        by false h = refl

pub split_last : {A : Type 0} (xs : List A) → (xs ≡ []) ⊎ ((front : List A) × (x : A) × (xs ≡ front ++ x ∷ []))
split_last [] = inl refl
split_last (x ∷ xs) = elim (split_last xs) [
  | inl e ↦ inr ([], x, ap (λ l. x ∷ l) e)
  | inr p ↦ inr (x ∷ p.0, p.1, ap (λ l. x ∷ l) p.2)
]

control_lasts : (m : Machine) (x : Item) → is_control x ≡ true → lasts m x ≡ 1
control_lasts m x h = on (target_of_item x) h where
  on : (d : Target) → controls d ≡ true → max 1 (option_map_or (λ due. due) (due_after m d) 0) ≡ 1
  on (Reg f i) h = absurd cc
  on (Imm f i) h = absurd cc
  on (Operand f) h = absurd cc
  on (Trigger f i) h = absurd cc
  on (Control k) h = refl

serial_last : (m : Machine) (items : List Item) (front : List PlacedItem) (x : PlacedItem) → map (λ y. y.item) (front ++ x ∷ []) ≡ items → control_is_last items ≡ true
    → Each (StandsAlone m) (front ++ x ∷ []) → serial_length m items (end_of m (front ++ x ∷ [])) ≡ length_of m (front ++ x ∷ [])
serial_last m items front x order last each =
    let control = control_front front x (subst (λ l. control_is_last l ≡ true) (sym order) last) in
    let parts : map (λ y. y.item) front ++ x.item ∷ [] ≡ items = sym (map_push (λ (y : PlacedItem). y.item) front x) ∙ order in
    let size : length items - 1 ≡ length (map (λ y. y.item) front) + 0 = let e = ap length (sym parts) ∙ length-append (map (λ y. y.item) front) (x.item ∷ []) in omega arith in
    let item : slice_get items (length items - 1) ≡ Some x.item
    = ap (λ n. slice_get items n) size ∙ ap (λ l. slice_get l (length (map (λ y. y.item) front) + 0)) (sym parts) ∙ slice_get-back (map (λ y. y.item) front) (x.item ∷ []) 0 in
    let mine = each (length front + 0) x (slice_get-back front (x ∷ []) 0) in
    let before : take (length front + 0) (front ++ x ∷ []) ≡ front = take_at front (x ∷ []) (length front + 0) (omega arith) in
    let stands : x.cycle ≡ end_of m front = mine.cycle ∙ ap (end_of m) before in
    let end = end_push m front x in
    ap (λ o. option_map_or (λ y. if is_control y then end_of m (front ++ x ∷ []) + m.control.delay else max (end_of m (front ++ x ∷ [])) 1) o (max (end_of m (front ++ x ∷ [])) 1)) item
    ∙ on (is_control x.item) refl stands end
    ∙ ap (λ o. option_map_or (λ cycle. cycle + 1 + m.control.delay) o (last_end m (front ++ x ∷ []))) (sym control) where
      on : (b : Bool) → is_control x.item ≡ b → x.cycle ≡ end_of m front → end_of m (front ++ x ∷ []) ≡ max (end_of m front) (x.cycle + lasts m x.item)
          → (if b then end_of m (front ++ x ∷ []) + m.control.delay else max (end_of m (front ++ x ∷ [])) 1)
          ≡ option_map_or (λ cycle. cycle + 1 + m.control.delay) (if b then Some x.cycle else None) (last_end m (front ++ x ∷ []))
      on true e s h = let one = control_lasts m x.item e in omega arith
      on false e s h = sym (last_end_is m (front ++ x ∷ []))

pub serial_long : (m : Machine) (items : List Item) (ps : List PlacedItem) → map (λ y. y.item) ps ≡ items → control_is_last items ≡ true → Each (StandsAlone m) ps
    → serial_length m items (end_of m ps) ≡ length_of m ps
serial_long m items ps order last each = elim (split_last ps) [
  | inl none ↦
      let empty : items ≡ [] = sym order ∙ ap (map (λ y. y.item)) none in
      rw (empty, none) refl
  | inr some ↦
      subst (λ l. serial_length m items (end_of m l) ≡ length_of m l) (sym some.2)
      (serial_last m items some.0 some.1 (subst (λ l. map (λ y. y.item) l ≡ items) some.2 order) last (subst (Each (StandsAlone m)) some.2 each))
]

-- ---- no two items in one cycle

single : (c : ℕ) (xs : List PlacedItem) → ((j k : ℕ) (x y : PlacedItem) → slice_get xs j ≡ Some x → slice_get xs k ≡ Some y → j < k → x.cycle < y.cycle)
    → (in_cycle c xs ≡ []) ⊎ ((k : ℕ) × (x : PlacedItem) × (slice_get xs k ≡ Some x) × (x.cycle ≡ c) × (in_cycle c xs ≡ x ∷ []))
single c [] h = inl refl
single c (x ∷ xs) h = on (x.cycle == c) refl (single c xs (λ j k a b p q lt. h (suc j) (suc k) a b p q (omega arith))) where
  on : (b : Bool) → (x.cycle == c) ≡ b
      → (in_cycle c xs ≡ []) ⊎ ((k : ℕ) × (y : PlacedItem) × (slice_get xs k ≡ Some y) × (y.cycle ≡ c) × (in_cycle c xs ≡ y ∷ []))
      → ((if b then x ∷ in_cycle c xs else in_cycle c xs) ≡ []) ⊎ ((k : ℕ) × (y : PlacedItem) × (slice_get (x ∷ xs) k ≡ Some y) × (y.cycle ≡ c) × ((if b then x ∷ in_cycle c xs else in_cycle c xs) ≡ y ∷ []))
  on true e (inl none) = inr (0, x, refl, (let r : x.cycle ≡ c = grind (arith, nat_tests) in r), ap (λ l. x ∷ l) none)
  on true e (inr p) = let lt = h 0 (suc p.0) x p.1 refl p.2 (omega arith) in let same : x.cycle ≡ c = grind (arith, nat_tests) in let late : p.1.cycle ≡ c = p.3 in absurd (omega arith)
  on false e (inl none) = inl none
  on false e (inr p) = inr (suc p.0, p.1, p.2, p.3, p.4)

pub slice_get-take : {A : Type 0} (k : ℕ) (xs : List A) (j : ℕ) → j < k → slice_get (take k xs) j ≡ slice_get xs j
slice_get-take zero xs j lt = absurd (omega arith)
slice_get-take (suc k) [] j lt = refl
slice_get-take (suc k) (x ∷ xs) zero lt = refl
slice_get-take (suc k) (x ∷ xs) (suc j) lt = slice_get-take k xs j (omega arith)

pub serial_respects : (m : Machine) → IsMachine m → (items : List Item) (p : Placed) → IsSerial m items p → Respects m items p
serial_respects m rules items p s = record {
  order = s.order;
  bounds = λ k x e. let a = (s.alone k x e).cycle in let b = least_over m rules (take k p.items) x.item in omega arith;
  cycles = λ c. fits c (single c p.items rises);
  long = s.long;
} where
  rises : (j k : ℕ) (x y : PlacedItem) → slice_get p.items j ≡ Some x → slice_get p.items k ≡ Some y → j < k → x.cycle < y.cycle
  rises j k x y a b lt =
      let later : y.cycle ≡ end_of m (take k p.items) = (s.alone k y b).cycle in
      let within = slice_get_within p.items k y b in
      let there : slice_get (take k p.items) j ≡ Some x = slice_get-take k p.items j lt ∙ a in
      let over = over_by_end m (take k p.items) j x there in
      let some = lasts_some m x.item in
      omega arith

  fits : (c : ℕ) → (in_cycle c p.items ≡ []) ⊎ ((k : ℕ) × (x : PlacedItem) × (slice_get p.items k ≡ Some x) × (x.cycle ≡ c) × (in_cycle c p.items ≡ x ∷ [])) → fits_cycle m (in_cycle c p.items) ≡ true
  fits c (inl none) = ap (fits_cycle m) none ∙ none_fits m rules
  fits c (inr q) = ap (fits_cycle m) q.4 ∙ alone_fits m rules q.1 ((s.alone q.0 q.1 q.2).carried)
