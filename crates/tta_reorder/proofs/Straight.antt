-- In another order the trail of each read is the same.
use Rattle.std.proofs.Common.{◌≡◌, ℕ, zero, suc, Bool, true, false, List, [], ◌∷◌, Option, Some, None, refl, sym, ap, subst, ◌∙◌}
use Rattle.std.specs.Prelude.{⊤, if◌then◌else◌, ◌&&◌, not, slice_get}
use Rattle.std.specs.Option.{option_map_or}
use Rattle.std.specs.List.{list_any}
use Rattle.std.proofs.lemmas.Bool.{and_parts, or_left, not-true}
use Rattle.tta_reorder.specs.Cited.{Machine, Place, ItemSource, Item, Move, Long, source_of, place_of_source, is_at, reads, writes, is_unguarded, joined, none_after, sure_source, is_port_source, is_passing, trail, is_detour, is_straight}
use Rattle.tta_moves.proofs.Places.{same_self}
use Rattle.tta_reorder.specs.Channels.{Word, Division, alters}
use Rattle.tta_reorder.specs.Orders.{Numbered, bare, last, last_before, IsDrawn, AreDrawn}

-- ---- the first items of a list

-- the first n items, the newest first
abbrev pub first : List Item → ℕ → List Item
first items zero = []
first items (suc n) = option_map_or (λ x. x ∷ first items n) (slice_get items n) (first items n)

-- items each of which was drawn after those behind it
abbrev pub Settled : Machine → Division → List Item → Numbered → Type 0
Settled m d items [] = ⊤
Settled m d items (y ∷ front) = IsDrawn m d items front y × Settled m d items front

-- ---- trails

-- the trail of a place that an item writes, after others
abbrev pub trail_at : Machine → (hub : Option ℕ) → Item → List Item → List ItemSource
trail_at m hub x before = option_map_or (λ s. s ∷ option_map_or (λ q. if is_passing hub s then trail m hub q before else []) (place_of_source s) []) (sure_source x) []

no_trail : (m : Machine) (d : Division) (hub : Option ℕ) (items : List Item) (p : Place) (n : ℕ) → last_before m d (Word p) items n ≡ None → trail m hub p (first items n) ≡ []
no_trail m d hub items p zero e = refl
no_trail m d hub items p (suc n) e = on (slice_get items n) e (no_trail m d hub items p n) where
  on : (o : Option Item) → (if option_map_or (λ x. alters m d (Word p) (n, x)) o false then Some n else last_before m d (Word p) items n) ≡ None
      → (last_before m d (Word p) items n ≡ None → trail m hub p (first items n) ≡ []) → trail m hub p (option_map_or (λ x. x ∷ first items n) o (first items n)) ≡ []
  on None e more = more e
  on (Some x) e more = by (writes m p x) refl e where
    by : (b : Bool) → writes m p x ≡ b → (if b then Some n else last_before m d (Word p) items n) ≡ None → (if writes m p x then trail_at m hub x (first items n) else trail m hub p (first items n)) ≡ []
    by true w e = absurd cc
    by false w e = rw w (more e)

trail_found : (m : Machine) (d : Division) (hub : Option ℕ) (items : List Item) (p : Place) (n k : ℕ) (z : Item) → last_before m d (Word p) items n ≡ Some k → slice_get items k ≡ Some z
    → trail m hub p (first items n) ≡ trail_at m hub z (first items k)
trail_found m d hub items p zero k z e there = absurd cc
trail_found m d hub items p (suc n) k z e there = on (slice_get items n) refl e (trail_found m d hub items p n k z) where
  on : (o : Option Item) → slice_get items n ≡ o → (if option_map_or (λ x. alters m d (Word p) (n, x)) o false then Some n else last_before m d (Word p) items n) ≡ Some k
      → (last_before m d (Word p) items n ≡ Some k → slice_get items k ≡ Some z → trail m hub p (first items n) ≡ trail_at m hub z (first items k))
      → trail m hub p (option_map_or (λ x. x ∷ first items n) o (first items n)) ≡ trail_at m hub z (first items k)
  on None is e more = more e there
  on (Some x) is e more = by (writes m p x) refl e where
    by : (b : Bool) → writes m p x ≡ b → (if b then Some n else last_before m d (Word p) items n) ≡ Some k → (if writes m p x then trail_at m hub x (first items n) else trail m hub p (first items n)) ≡ trail_at m hub z (first items k)
    by true w e =
        let number : n ≡ k = cc in
        let found : slice_get items n ≡ Some z = subst (λ j. slice_get items j ≡ Some z) (sym number) there in
        let item : x ≡ z = cc in
        rw w (ap (λ j. trail_at m hub x (first items j)) number ∙ ap (λ (y : Item). trail_at m hub y (first items k)) item)
    by false w e = rw w (more e there)

-- a place that is read behind an item's source
reads_source : (x : Item) (q : Place) → place_of_source (source_of x) ≡ Some q → reads q x ≡ true
reads_source x q e =
    let reading : is_at q (place_of_source (source_of x)) ≡ true = rw (e, same_self q) refl in or_left _ _ reading

pub trail_same : (m : Machine) (d : Division) (hub : Option ℕ) (items : List Item) (front : Numbered) (p : Place) (n : ℕ) → Settled m d items front → last m d (Word p) front ≡ last_before m d (Word p) items n
    → trail m hub p (bare front) ≡ trail m hub p (first items n)
trail_same m d hub items [] p n settled e = sym (no_trail m d hub items p n (sym e))
trail_same m d hub items (y ∷ front) p n settled e = on (writes m p y.1) refl e (λ q k h. trail_same m d hub items front q k settled.1 h) where
  behind : ((q : Place) (k : ℕ) → last m d (Word q) front ≡ last_before m d (Word q) items k → trail m hub q (bare front) ≡ trail m hub q (first items k))
      → (q : Place) → place_of_source (source_of y.1) ≡ Some q → trail m hub q (bare front) ≡ trail m hub q (first items y.0)
  behind more q is = more q y.0 (settled.0.same (Word q) (or_left _ _ (or_left _ _ (reads_source y.1 q is))))

  here : ((q : Place) → place_of_source (source_of y.1) ≡ Some q → trail m hub q (bare front) ≡ trail m hub q (first items y.0)) → trail_at m hub y.1 (bare front) ≡ trail_at m hub y.1 (first items y.0)
  here same = sure (is_unguarded y.1) where
    passing : (o : Option Place) → place_of_source (source_of y.1) ≡ o
        → option_map_or (λ q. if is_passing hub (source_of y.1) then trail m hub q (bare front) else []) o [] ≡ option_map_or (λ q. if is_passing hub (source_of y.1) then trail m hub q (first items y.0) else []) o []
    passing None is = refl
    passing (Some q) is = ap (λ (t : List ItemSource). if is_passing hub (source_of y.1) then t else []) (same q is)

    sure : (b : Bool)
        → option_map_or (λ s. s ∷ option_map_or (λ q. if is_passing hub s then trail m hub q (bare front) else []) (place_of_source s) []) (if b then Some (source_of y.1) else None) []
        ≡ option_map_or (λ s. s ∷ option_map_or (λ q. if is_passing hub s then trail m hub q (first items y.0) else []) (place_of_source s) []) (if b then Some (source_of y.1) else None) []
    sure false = refl
    sure true = ap (λ (t : List ItemSource). source_of y.1 ∷ t) (passing (place_of_source (source_of y.1)) refl)

  on : (b : Bool) → writes m p y.1 ≡ b → (if writes m p y.1 then Some y.0 else last m d (Word p) front) ≡ last_before m d (Word p) items n
      → ((q : Place) (k : ℕ) → last m d (Word q) front ≡ last_before m d (Word q) items k → trail m hub q (bare front) ≡ trail m hub q (first items k))
      → (if writes m p y.1 then trail_at m hub y.1 (bare front) else trail m hub p (bare front)) ≡ trail m hub p (first items n)
  on true w e more =
      let found : last_before m d (Word p) items n ≡ Some y.0 = sym (rw w at e) in
      rw w (here (behind more) ∙ sym (trail_found m d hub items p n y.0 y.1 found settled.0.there))
  on false w e more = let still : last m d (Word p) front ≡ last_before m d (Word p) items n = rw w at e in rw w (more p n still)

-- ---- detours

detour_same : (m : Machine) (d : Division) (hub : Option ℕ) (items : List Item) (front : Numbered) (n : ℕ) (x : Item) → Settled m d items front → IsDrawn m d items front (n, x)
    → is_detour m hub (bare front) x ≡ is_detour m hub (first items n) x
detour_same m d hub items front n (Long unit index value) settled drawn = refl
detour_same m d hub items front n (Move guard src dst) settled drawn = ap (λ (b : Bool). is_passing hub src && b) (on (place_of_source src) refl) where
  on : (o : Option Place) → place_of_source src ≡ o
      → option_map_or (λ p. list_any (λ s. not (is_port_source s) && joined m s dst guard) (trail m hub p (bare front))) o false
      ≡ option_map_or (λ p. list_any (λ s. not (is_port_source s) && joined m s dst guard) (trail m hub p (first items n))) o false
  on None is = refl
  on (Some p) is = ap (λ (t : List ItemSource). list_any (λ s. not (is_port_source s) && joined m s dst guard) t)
      (trail_same m d hub items front p n settled (drawn.same (Word p) (or_left _ _ (or_left _ _ (reads_source (Move guard src dst) p is)))))

-- the first n items on top of others
on_others : (before xs : List Item) → ℕ → List Item
on_others before xs zero = before
on_others before [] (suc n) = before
on_others before (x ∷ xs) (suc n) = on_others (x ∷ before) xs n

one_more : (before xs : List Item) (n : ℕ) (x : Item) → slice_get xs n ≡ Some x → on_others before xs (suc n) ≡ x ∷ on_others before xs n
unfolding on_others
one_more before [] n x e = absurd cc
one_more before (y ∷ xs) zero x e = let same : y ≡ x = cc in ap (λ (z : Item). z ∷ before) same
one_more before (y ∷ xs) (suc n) x e = one_more (y ∷ before) xs n x e

no_more : (before xs : List Item) (n : ℕ) → slice_get xs n ≡ None → on_others before xs (suc n) ≡ on_others before xs n
unfolding on_others
no_more before [] zero e = refl
no_more before [] (suc n) e = refl
no_more before (y ∷ xs) zero e = absurd cc
no_more before (y ∷ xs) (suc n) e = no_more (y ∷ before) xs n e

on_none : (items : List Item) (n : ℕ) → on_others [] items n ≡ first items n
unfolding on_others
on_none items zero = refl
on_none items (suc n) = on (slice_get items n) refl (on_none items n) where
  on : (o : Option Item) → slice_get items n ≡ o → on_others [] items n ≡ first items n → on_others [] items (suc n) ≡ option_map_or (λ x. x ∷ first items n) (slice_get items n) (first items n)
  on None is e = rw is (no_more [] items n is ∙ e)
  on (Some x) is e = rw is (one_more [] items n x is ∙ ap (λ (t : List Item). x ∷ t) e)

none_from : (bad : List Item → Item → Bool) (before xs : List Item) (n : ℕ) (x : Item) → none_after bad before xs ≡ true → slice_get xs n ≡ Some x → bad (on_others before xs n) x ≡ false
unfolding on_others
none_from bad before [] n x none there = absurd cc
none_from bad before (y ∷ xs) zero x none there =
    let same : y ≡ x = cc in
    subst (λ (z : Item). bad before z ≡ false) same (not-true (bad before y) (and_parts (not (bad before y)) (none_after bad (y ∷ before) xs) none).0)
none_from bad before (y ∷ xs) (suc n) x none there = none_from bad (y ∷ before) xs n x (and_parts (not (bad before y)) (none_after bad (y ∷ before) xs) none).1 there

-- what is so of no item of a list is not so of the item of a number
none_at : (bad : List Item → Item → Bool) (items : List Item) (n : ℕ) (x : Item) → none_after bad [] items ≡ true → slice_get items n ≡ Some x → bad (first items n) x ≡ false
none_at bad items n x none there = subst (λ (t : List Item). bad t x ≡ false) (on_none items n) (none_from bad [] items n x none there)

straight_from : (m : Machine) (d : Division) (hub : Option ℕ) (live : List (ℕ × ℕ)) (items : List Item) (front ys : Numbered) → is_straight m hub items ≡ true → Settled m d items front → AreDrawn m d live items front ys
    → none_after (is_detour m hub) (bare front) (bare ys) ≡ true
straight_from m d hub live items front [] straight settled are = refl
straight_from m d hub live items front (y ∷ ys) straight settled are =
    let away : is_detour m hub (bare front) y.1 ≡ false = detour_same m d hub items front y.0 y.1 settled are.0 ∙ none_at (is_detour m hub) items y.0 y.1 straight are.0.there in
    rw away (straight_from m d hub live items (y ∷ front) ys straight (are.0, settled) are.1)

-- a straight list is straight in another order
pub straight_keeps : (m : Machine) (d : Division) (live : List (ℕ × ℕ)) (items : List Item) (order : Numbered) → AreDrawn m d live items [] order
    → (hub : Option ℕ) → is_straight m hub items ≡ true → is_straight m hub (bare order) ≡ true
straight_keeps m d live items order are hub straight = straight_from m d hub live items [] order straight tt are
