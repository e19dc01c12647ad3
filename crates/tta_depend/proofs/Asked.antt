-- The least cycle of an item by what is known of each spot.
use Rattle.std.proofs.Common.{◌≡◌, ℕ, ◌+◌, ◌-◌, Bool, true, false, List, [], ◌∷◌, ◌++◌, Some, None, refl, sym, ap, ◌∙◌, arith}
use Rattle.std.specs.Prelude.{max, if◌then◌else◌}
use Rattle.tta_depend.specs.Cited.{Machine, or_else, Item, PlacedItem, is_control, Spot, same_spot, Touch, reads_by, writes_by, from_moment, behind, lasts, over_before, least, last_end, control_cycle}
use Rattle.tta_depend.specs.Stands.{latest, shown_by, free_by, end_of}

-- ---- bounds by spots

-- the greatest that a number for each spot asks of one's own touches
abbrev pub over_touches : (Spot → ℕ) → List Touch → ℕ
over_touches T [] = 0
over_touches T (t ∷ ts) = max (T t.0 - t.1) (over_touches T ts)

over_none : (own : List Touch) → over_touches (λ s. 0) own ≡ 0
over_none [] = refl
over_none (o ∷ own) = let ih = over_none own in omega arith

over_max : (T U : Spot → ℕ) (own : List Touch) → over_touches (λ s. max (T s) (U s)) own ≡ max (over_touches T own) (over_touches U own)
over_max T U [] = refl
over_max T U (o ∷ own) = let ih = over_max T U own in omega arith

moment_is : (x : Spot) (moment : ℕ) (own : List Touch) → from_moment x moment own ≡ over_touches (λ s. if same_spot x s then moment else 0) own
moment_is x moment [] = refl
moment_is x moment (o ∷ own) = on (same_spot x o.0) (moment_is x moment own) where
  on : (b : Bool) → from_moment x moment own ≡ over_touches (λ s. if same_spot x s then moment else 0) own
      → max (if b then moment - o.1 else 0) (from_moment x moment own) ≡ max ((if b then moment else 0) - o.1) (over_touches (λ s. if same_spot x s then moment else 0) own)
  on true ih = omega arith
  on false ih = omega arith

behind_is : (gap cycle : ℕ) (es own : List Touch) → behind gap cycle es own ≡ over_touches (λ s. latest gap cycle es s) own
behind_is gap cycle [] own = sym (over_none own)
behind_is gap cycle (e ∷ es) own =
    let a = moment_is e.0 (cycle + e.1 + gap) own in
    let b = behind_is gap cycle es own in
    let c = over_max (λ s. if same_spot e.0 s then cycle + e.1 + gap else 0) (λ s. latest gap cycle es s) own in
    omega arith

abbrev pub over_end : Machine → List PlacedItem → Item → ℕ
over_end m placed v = if is_control v then end_of m placed - (1 + m.control.delay) else 0

-- the greatest of seven numbers, in another order
shuffle_two : (a b c d : ℕ) → max (max a b) (max c d) ≡ max (max a c) (max b d)
shuffle_two a b c d = omega arith

shuffle_one : (a b c d : ℕ) → max (max a b) (max c d) ≡ max (max a (max b c)) d
shuffle_one a b c d = omega arith

shuffle : (a b c d p q r : ℕ) → max (max (max a b) (max c d)) (max (max p q) r) ≡ max (max (max a p) (max (max b c) q)) (max d r)
shuffle a b c d p q r =
    ap (λ n. max n (max (max p q) r)) (shuffle_one a b c d) ∙ shuffle_two (max a (max b c)) d (max p q) r
    ∙ ap (λ n. max n (max d r)) (shuffle_two a (max b c) p q)

over_end_more : (m : Machine) (placed : List PlacedItem) (v : Item) (x : PlacedItem) → over_end m (x ∷ placed) v ≡ max (over_before m v x) (over_end m placed v)
over_end_more m placed v x = on (is_control v) where
  on : (t : Bool) → (if t then max (x.cycle + lasts m x.item) (end_of m placed) - (1 + m.control.delay) else 0)
      ≡ max (if t then x.cycle + lasts m x.item - (1 + m.control.delay) else 0) (if t then end_of m placed - (1 + m.control.delay) else 0)
  on true = omega arith
  on false = refl

-- the least cycle, by what shows and what is free
pub least_is : (m : Machine) (placed : List PlacedItem) (v : Item)
    → least m placed v ≡ max (max (over_touches (shown_by m placed) (reads_by v)) (over_touches (free_by m placed) (writes_by m v))) (over_end m placed v)
least_is m [] v =
    let a = over_none (reads_by v) in
    let b = over_none (writes_by m v) in
    let c : over_end m [] v ≡ 0 = on (is_control v) in
    omega arith where
      on : (t : Bool) → (if t then 0 - (1 + m.control.delay) else 0) ≡ 0
      on true = omega arith
      on false = refl
least_is m (x ∷ placed) v =
    let d : ℕ = over_before m v x in
    let a = behind_is 0 x.cycle (writes_by m x.item) (reads_by v) in
    let b = behind_is 1 x.cycle (writes_by m x.item) (writes_by m v) in
    let c = behind_is 1 x.cycle (reads_by x.item) (writes_by m v) in
    let s = over_max (λ s. latest 0 x.cycle (writes_by m x.item) s) (shown_by m placed) (reads_by v) in
    let f = over_max (λ s. max (latest 1 x.cycle (writes_by m x.item) s) (latest 1 x.cycle (reads_by x.item) s)) (free_by m placed) (writes_by m v) in
    let g = over_max (λ s. latest 1 x.cycle (writes_by m x.item) s) (λ s. latest 1 x.cycle (reads_by x.item) s) (writes_by m v) in
    let a' : ℕ = over_touches (λ s. latest 0 x.cycle (writes_by m x.item) s) (reads_by v) in
    let b' : ℕ = over_touches (λ s. latest 1 x.cycle (writes_by m x.item) s) (writes_by m v) in
    let c' : ℕ = over_touches (λ s. latest 1 x.cycle (reads_by x.item) s) (writes_by m v) in
    let p : ℕ = over_touches (shown_by m placed) (reads_by v) in
    let q : ℕ = over_touches (free_by m placed) (writes_by m v) in
    let r : ℕ = over_end m placed v in
    ap (λ n. max (max (max n (behind 1 x.cycle (writes_by m x.item) (writes_by m v))) (max (behind 1 x.cycle (reads_by x.item) (writes_by m v)) d)) (least m placed v)) a
    ∙ ap (λ n. max (max (max a' n) (max (behind 1 x.cycle (reads_by x.item) (writes_by m v)) d)) (least m placed v)) b
    ∙ ap (λ n. max (max (max a' b') (max n d)) (least m placed v)) c
    ∙ ap (λ n. max (max (max a' b') (max c' d)) n) (least_is m placed v)
    ∙ shuffle a' b' c' d p q r
    ∙ ap (λ n. max (max n (max (max b' c') q)) (max d r)) (sym s)
    ∙ ap (λ n. max (max (over_touches (shown_by m (x ∷ placed)) (reads_by v)) n) (max d r)) (ap (λ n. max n q) (sym g) ∙ sym f)
    ∙ ap (λ n. max (max (over_touches (shown_by m (x ∷ placed)) (reads_by v)) (over_touches (free_by m (x ∷ placed)) (writes_by m v))) n) (sym (over_end_more m placed v x))

-- ---- one item more

pub shown_push : (m : Machine) (placed : List PlacedItem) (x : PlacedItem) (s : Spot) → shown_by m (placed ++ x ∷ []) s ≡ max (shown_by m placed s) (latest 0 x.cycle (writes_by m x.item) s)
shown_push m [] x s = omega arith
shown_push m (p ∷ placed) x s = let ih = shown_push m placed x s in omega arith

pub free_push : (m : Machine) (placed : List PlacedItem) (x : PlacedItem) (s : Spot)
    → free_by m (placed ++ x ∷ []) s ≡ max (free_by m placed s) (max (latest 1 x.cycle (writes_by m x.item) s) (latest 1 x.cycle (reads_by x.item) s))
free_push m [] x s = omega arith
free_push m (p ∷ placed) x s = let ih = free_push m placed x s in omega arith

pub end_push : (m : Machine) (placed : List PlacedItem) (x : PlacedItem) → end_of m (placed ++ x ∷ []) ≡ max (end_of m placed) (x.cycle + lasts m x.item)
end_push m [] x = omega arith
end_push m (p ∷ placed) x = let ih = end_push m placed x in omega arith

pub control_push : (placed : List PlacedItem) (x : PlacedItem) → control_cycle placed ≡ None → control_cycle (placed ++ x ∷ []) ≡ (if is_control x.item then Some x.cycle else None)
control_push [] x h = on (is_control x.item) where
  on : (b : Bool) → or_else (if b then Some x.cycle else None) None ≡ (if b then Some x.cycle else None)
  on true = refl
  on false = refl
control_push (p ∷ placed) x h = on (is_control p.item) h (λ k. control_push placed x k) where
  on : (b : Bool) → or_else (if b then Some p.cycle else None) (control_cycle placed) ≡ None → (control_cycle placed ≡ None → control_cycle (placed ++ x ∷ []) ≡ (if is_control x.item then Some x.cycle else None))
      → or_else (if b then Some p.cycle else None) (control_cycle (placed ++ x ∷ [])) ≡ (if is_control x.item then Some x.cycle else None)
  on true h ih = absurd cc
  on false h ih = ih h

pub last_end_is : (m : Machine) (placed : List PlacedItem) → last_end m placed ≡ max (end_of m placed) 1
last_end_is m [] = omega arith
last_end_is m (p ∷ placed) = let ih = last_end_is m placed in omega arith
