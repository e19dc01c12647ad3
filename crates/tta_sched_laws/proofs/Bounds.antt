-- What the bounds of a placed list keep apart.
use Rattle.std.proofs.Common.{◌≡◌, ◌⊎◌, inl, inr, ℕ, zero, suc, ◌+◌, ◌-◌, ◌<◌, ◌≤◌, true, false, List, [], ◌∷◌, Some, None, refl, sym, ap, ◌∙◌, arith, length, take}
use Rattle.std.specs.Option.{option_map_or}
use Rattle.std.specs.Prelude.{slice_get, max, not, ◌||◌, map, ◌==◌}
use Rattle.std.proofs.lemmas.Bool.{cases_lt}
use Rattle.std.proofs.lemmas.Bool.Decides.{nat_tests}
use Rattle.std.proofs.lemmas.Option.{slice_get-get_or}
use Rattle.tta_sched_laws.specs.Cited.{Machine, Target, Reg, Imm, Operand, Trigger, Control, Place, Item, PlacedItem, control_is_last, target_of_item, controls, Spot, At, due_after, lasts, over_before, bound, least, last_end, control_cycle, length_of}
use Rattle.tta_moves.specs.Touches.{is_control as is_control_item}
use Rattle.tta_moves.specs.Bounds.{reads_by as item_reads, writes_by as item_writes}
use Rattle.tta_sched_laws.proofs.Total.{Timed, reads_by, writes_by, is_control}
use Rattle.tta_sched_laws.proofs.Steps.{offset, offset_of}
use Rattle.tta_sched_laws.proofs.Items.{behind_is, nth, and_parts, max_first, lasts_is, idle_item, item_at, timed, nth_timed, length_timed, reads_linked, control_linked, least_is}
use Rattle.tta_moves.proofs.Places.{either}

-- ---- control, and the length

-- control stands nowhere but last
last_is : (ps : List PlacedItem) → control_is_last (map (λ (x : PlacedItem). x.item) ps) ≡ true → (k : ℕ) → k < length ps → is_control_item (item_at ps k).item ≡ true → suc k ≡ length ps
last_is [] e k lt w = absurd (omega arith)
last_is (x ∷ ps) e zero lt w = on (and_parts _ (control_is_last (map (λ (y : PlacedItem). y.item) ps)) e).0 where
  len : (qs : List PlacedItem) → length (map (λ (y : PlacedItem). y.item) qs) ≡ length qs
  len [] = refl
  len (q ∷ qs) = ap suc (len qs)

  on : (not (is_control_item x.item) || length (map (λ (y : PlacedItem). y.item) ps) == 0) ≡ true → 1 ≡ length (x ∷ ps)
  on g = let g' : (false || length (map (λ (y : PlacedItem). y.item) ps) == 0) ≡ true = rw w at g in let l = len ps in let z : length (map (λ (y : PlacedItem). y.item) ps) ≡ 0 = grind (arith, nat_tests) in omega arith
last_is (x ∷ ps) e (suc k) lt w = let r = last_is ps (and_parts _ (control_is_last (map (λ (y : PlacedItem). y.item) ps)) e).1 k (omega arith) w in omega arith

control_at : (ps : List PlacedItem) → control_is_last (map (λ (x : PlacedItem). x.item) ps) ≡ true → (k : ℕ) → k < length ps → is_control_item (item_at ps k).item ≡ true
    → control_cycle ps ≡ Some (item_at ps k).cycle
control_at [] e k lt w = absurd (omega arith)
control_at (x ∷ ps) e zero lt w = rw w refl
control_at (x ∷ ps) e (suc k) lt w = either (is_control_item x.item)
    (λ c. let l = last_is (x ∷ ps) e 0 (omega arith) c in absurd (omega arith))
    (λ c. rw c (control_at ps (and_parts _ (control_is_last (map (λ (y : PlacedItem). y.item) ps)) e).1 k (omega arith) w))

-- whether a list has control, and where
control_or_none : (ps : List PlacedItem) → ((j : ℕ) × (j < length ps) × (is_control_item (item_at ps j).item ≡ true)) ⊎ ((control_cycle ps ≡ None) × ((k : ℕ) → k < length ps → is_control_item (item_at ps k).item ≡ false))
control_or_none [] = inr (refl, λ k lt. absurd (omega arith))
control_or_none (x ∷ ps) = either (is_control_item x.item)
    (λ w. inl (0, omega arith, w))
    (λ w. elim (control_or_none ps) [
      | inl r ↦ inl (suc r.0, omega (arith, r.1), r.2)
      | inr none ↦ inr (rw w none.0, λ k lt. on none.1 w k lt)
    ]) where
      on : ((k : ℕ) → k < length ps → is_control_item (item_at ps k).item ≡ false) → is_control_item x.item ≡ false → (k : ℕ) → k < length (x ∷ ps) → is_control_item (item_at (x ∷ ps) k).item ≡ false
      on none w zero lt = w
      on none w (suc k) lt = none k (omega arith)

end_some : (m : Machine) (ps : List PlacedItem) → 0 < last_end m ps
end_some m [] = omega arith
end_some m (x ∷ ps) = let r = end_some m ps in omega arith

end_is : (m : Machine) (ps : List PlacedItem) (k : ℕ) → k < length ps → (item_at ps k).cycle + lasts m (item_at ps k).item ≤ last_end m ps
end_is m [] k lt = absurd (omega arith)
end_is m (x ∷ ps) zero lt = omega arith
end_is m (x ∷ ps) (suc k) lt = let r = end_is m ps k (omega arith) in omega arith

-- what a placed list keeps: reads find their writes, writes follow one another and earlier reads, and the block is as long
-- as all that needs
pub record Keeps (m : Machine) (placed : List Timed) (len : ℕ) : Type 0 where
  pub finds : (i j : ℕ) (x : Place) (a b : ℕ) → i < j → j < length placed → offset x (writes_by m (nth placed i).does) ≡ Some a → offset x (reads_by (nth placed j).does) ≡ Some b
      → (nth placed i).cycle + a ≤ (nth placed j).cycle + b
  pub rises : (i j : ℕ) (x : Spot) (a b : ℕ) → i < j → j < length placed → offset_of x (writes_by m (nth placed i).does) ≡ Some a → offset_of x (writes_by m (nth placed j).does) ≡ Some b
      → (nth placed i).cycle + a < (nth placed j).cycle + b
  pub follows : (i j : ℕ) (x : Place) (a b : ℕ) → i < j → j < length placed → offset x (reads_by (nth placed i).does) ≡ Some a → offset x (writes_by m (nth placed j).does) ≡ Some b
      → (nth placed i).cycle + a < (nth placed j).cycle + b
  pub last : (k : ℕ) → k < length placed → is_control (nth placed k).does.target ≡ true → suc k ≡ length placed
  pub ends : (k : ℕ) → k < length placed → is_control (nth placed k).does.target ≡ true → (nth placed k).cycle + 1 + m.control.delay ≡ len
  pub within : (k : ℕ) → k < length placed → (nth placed k).cycle < len
  pub shown : (k : ℕ) (x : Spot) (a : ℕ) → k < length placed → offset_of x (writes_by m (nth placed k).does) ≡ Some a → (nth placed k).cycle + a ≤ len
  pub some : 0 < len

-- each of these items stands no earlier than those before it allow
abbrev pub IsBound : Machine → List PlacedItem → Type 0
IsBound m ps = (k : ℕ) (x : PlacedItem) → slice_get ps k ≡ Some x → least m (take k ps) x.item ≤ x.cycle

module _ (m : Machine) (addr : List ℕ) (ps : List PlacedItem) (bounds : IsBound m ps) (closed : control_is_last (map (λ (x : PlacedItem). x.item) ps) ≡ true) where
  above : (i j : ℕ) → i < j → j < length ps → bound m (item_at ps j).item (item_at ps i) ≤ (item_at ps j).cycle
  above i j lt lj =
      let r = bounds j (item_at ps j) (slice_get-get_or ps j idle_item lj) in
      let l = least_is m ps (item_at ps j).item i j lt (omega arith) in
      omega arith

  count : length (timed addr ps) ≡ length ps
  count = length_timed addr ps

  writes_are : (k : ℕ) → writes_by m (nth (timed addr ps) k).does ≡ item_writes m (item_at ps k).item
  writes_are k = ap (λ (x : Timed). writes_by m x.does) (nth_timed addr ps k)

  reads_are : (k : ℕ) → reads_by (nth (timed addr ps) k).does ≡ item_reads (item_at ps k).item
  reads_are k = ap (λ (x : Timed). reads_by x.does) (nth_timed addr ps k) ∙ reads_linked addr (item_at ps k).item

  cycle_is : (k : ℕ) → (nth (timed addr ps) k).cycle ≡ (item_at ps k).cycle
  cycle_is k = ap (λ (x : Timed). x.cycle) (nth_timed addr ps k)

  control_is : (k : ℕ) → is_control (nth (timed addr ps) k).does.target ≡ is_control_item (item_at ps k).item
  control_is k = ap (λ (x : Timed). is_control x.does.target) (nth_timed addr ps k) ∙ control_linked addr (item_at ps k).item

  finds_is : (i j : ℕ) (x : Place) (a b : ℕ) → i < j → j < length (timed addr ps) → offset x (writes_by m (nth (timed addr ps) i).does) ≡ Some a → offset x (reads_by (nth (timed addr ps) j).does) ≡ Some b
      → (nth (timed addr ps) i).cycle + a ≤ (nth (timed addr ps) j).cycle + b
  finds_is i j x a b lt lj w r =
      let n = count in
      let l = above i j lt (omega arith) in
      let g = behind_is (At x) 0 (item_at ps i).cycle a b (item_writes m (item_at ps i).item) (item_reads (item_at ps j).item) (rw (writes_are i) at w) (rw (reads_are j) at r) in
      let ci = cycle_is i in let cj = cycle_is j in
      omega arith

  rises_is : (i j : ℕ) (x : Spot) (a b : ℕ) → i < j → j < length (timed addr ps) → offset_of x (writes_by m (nth (timed addr ps) i).does) ≡ Some a → offset_of x (writes_by m (nth (timed addr ps) j).does) ≡ Some b
      → (nth (timed addr ps) i).cycle + a < (nth (timed addr ps) j).cycle + b
  rises_is i j x a b lt lj w r =
      let n = count in
      let l = above i j lt (omega arith) in
      let g = behind_is x 1 (item_at ps i).cycle a b (item_writes m (item_at ps i).item) (item_writes m (item_at ps j).item) (rw (writes_are i) at w) (rw (writes_are j) at r) in
      let ci = cycle_is i in let cj = cycle_is j in
      omega arith

  follows_is : (i j : ℕ) (x : Place) (a b : ℕ) → i < j → j < length (timed addr ps) → offset x (reads_by (nth (timed addr ps) i).does) ≡ Some a → offset x (writes_by m (nth (timed addr ps) j).does) ≡ Some b
      → (nth (timed addr ps) i).cycle + a < (nth (timed addr ps) j).cycle + b
  follows_is i j x a b lt lj w r =
      let n = count in
      let l = above i j lt (omega arith) in
      let g = behind_is (At x) 1 (item_at ps i).cycle a b (item_reads (item_at ps i).item) (item_writes m (item_at ps j).item) (rw (reads_are i) at w) (rw (writes_are j) at r) in
      let ci = cycle_is i in let cj = cycle_is j in
      omega arith

  last_of : (k : ℕ) → k < length (timed addr ps) → is_control (nth (timed addr ps) k).does.target ≡ true → suc k ≡ length (timed addr ps)
  last_of k lt w =
      let n = count in
      let l = last_is ps closed k (omega arith) (sym (control_is k) ∙ w) in
      omega arith

  -- what control asks for
  over_is : (i j : ℕ) → i < j → j < length ps → is_control_item (item_at ps j).item ≡ true
      → (item_at ps i).cycle + lasts m (item_at ps i).item ≤ (item_at ps j).cycle + 1 + m.control.delay
  over_is i j lt lj w =
      let l = above i j lt lj in
      let g : over_before m (item_at ps j).item (item_at ps i) ≤ (item_at ps j).cycle = omega arith in
      let g' : (item_at ps i).cycle + lasts m (item_at ps i).item - (1 + m.control.delay) ≤ (item_at ps j).cycle = rw w at g in
      omega arith

  own_lasts : (x : Item) → is_control_item x ≡ true → lasts m x ≡ 1
  own_lasts x w = on (target_of_item x) w where
    on : (t : Target) → controls t ≡ true
        → max 1 (option_map_or (λ (due : ℕ). due) (due_after m t) 0) ≡ 1
    on (Control kind) e = refl
    on (Reg f i) e = refl
    on (Imm f i) e = refl
    on (Operand q) e = refl
    on (Trigger q k) e = absurd cc

  -- an item is over when the block is
  over_all : (k : ℕ) → k < length ps → (item_at ps k).cycle + lasts m (item_at ps k).item ≤ length_of m ps
  over_all k lk = elim (control_or_none ps) [
    | inl c ↦
        let len : length_of m ps ≡ (item_at ps c.0).cycle + 1 + m.control.delay = rw (control_at ps closed c.0 c.1 c.2) refl in
        elim (cases_lt k c.0) [
          | inl less ↦ let r = over_is k c.0 less c.1 c.2 in omega (arith, len)
          | inr le ↦
              let last = last_is ps closed c.0 c.1 c.2 in
              let e : k ≡ c.0 = omega arith in
              let o = own_lasts (item_at ps c.0).item c.2 in
              rw e (omega (arith, len, o))
        ]
    | inr none ↦ let len : length_of m ps ≡ last_end m ps = rw none.0 refl in let r = end_is m ps k lk in omega (arith, len)
  ]

  some_length : 0 < length_of m ps
  some_length = elim (control_or_none ps) [
    | inl c ↦ let len : length_of m ps ≡ (item_at ps c.0).cycle + 1 + m.control.delay = rw (control_at ps closed c.0 c.1 c.2) refl in omega (arith, len)
    | inr none ↦ let len : length_of m ps ≡ last_end m ps = rw none.0 refl in let r = end_some m ps in omega (arith, len)
  ]

  -- a placement that respects the bounds keeps all this
  pub bounds_keep : Keeps m (timed addr ps) (length_of m ps)
  bounds_keep = record {
    finds = finds_is;
    rises = rises_is;
    follows = follows_is;
    last = last_of;
    ends = λ k lk w.
        let n = count in
        let c = control_at ps closed k (omega arith) (sym (control_is k) ∙ w) in
        let len : length_of m ps ≡ (item_at ps k).cycle + 1 + m.control.delay = rw c refl in
        let at = cycle_is k in
        omega (arith, len);
    within = λ k lk.
        let n = count in
        let o = over_all k (omega arith) in
        let at = cycle_is k in
        let l = max_first 1 (option_map_or (λ (due : ℕ). due) (due_after m (target_of_item (item_at ps k).item)) 0) in
        omega arith;
    shown = λ k x a lk e.
        let n = count in
        let o = over_all k (omega arith) in
        let at = cycle_is k in
        let l = lasts_is m (target_of_item (item_at ps k).item) x a (rw (writes_are k) at e) in
        omega arith;
    some = some_length;
  }
