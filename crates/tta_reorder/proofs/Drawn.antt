-- Items that find what the same items brought do the same.
use Rattle.std.proofs.Common.{◌≡◌, ℕ, zero, suc, ◌+◌, ◌<◌, Bool, true, false, List, [], ◌∷◌, replicate, Option, Some, None, refl, sym, ap, subst, arith, ◌∙◌}
use Rattle.std.specs.Prelude.{if◌then◌else◌, not, ◌||◌, map, length, slice_get, slice_set}
use Rattle.std.specs.Option.{option_map_or}
use Rattle.tta_reorder.specs.Cited.{Units, Machine, Effect, Item, is_waiting, Held, effect_of, lacks, does_all, means, do_items, has_meaning, Alike, KeepsMeaning}
use Rattle.tta_moves.proofs.Places.{either}
use Rattle.tta_optim.proofs.Copies.{stuck_means}
use Rattle.tta_reorder.specs.Channels.{Channel, Word, Data, Frame, Traffic, Ending, Division, part_with, alters, survives, may_wait}
use Rattle.tta_reorder.specs.Slots.{IsDivision}
use Rattle.tta_reorder.specs.Orders.{Numbered, last, last_before, bare, AreDrawn, AreUnmarked, settled, IsOrder}
use Rattle.tta_reorder.proofs.Carried.{SameOn, UsesPart, same_refl, same_sym, same_next, unaltered, still_runs}
use Rattle.tta_reorder.proofs.Listed.{step, state, next, past, ends, runs_at, dry_after, fine_at, means_at, waits_still}
use Rattle.tta_reorder.proofs.MarkedNumbers.{AreMarked, still_marked, mark_more, unmarked_after}
use Rattle.tta_reorder.proofs.SameItem.{SameAsked, lacks_same, altered, part_same}
use Rattle.tta_reorder.proofs.Slotting.{uses_part}
use Rattle.tta_moves.proofs.Waiting.{stuck_all}
use Rattle.tta_list.proofs.Tests.{some_same}

-- ---- two orders

module _ (u : Units) (m : Machine) (d : Division) (live : List (ℕ × ℕ)) (addr : List ℕ) (back : ℕ) (items : List Item) (divided : IsDivision m items d) (h : Held) where
  -- what there is after the first n items, and after the item of a number
  abbrev old : ℕ → Held
  old n = state u m addr back h items n

  abbrev after : Option ℕ → Held
  after None = h
  after (Some n) = old (suc n)

  -- what is in a channel after n items is what the last of them left there that may change it
  holds : ((n : ℕ) → is_waiting (old n).exit ≡ false) → (c : Channel) (n : ℕ) → SameOn d c (after (last_before m d c items n)) (old n)
  holds runs c zero = same_refl d c h
  holds runs c (suc n) = on (holds runs c n) (slice_get items n) refl where
    on : SameOn d c (after (last_before m d c items n)) (old n) → (o : Option Item) → slice_get items n ≡ o → SameOn d c (after (if option_map_or (λ x. alters m d c (n, x)) (slice_get items n) false then Some n else last_before m d c items n)) (old (suc n))
    on before None is = rw (is, past u m addr back h items n is) before
    on before (Some x) is = either (alters m d c (n, x))
        (λ may. rw (is, may) (same_refl d c (old (suc n))))
        (λ away. rw (is, away) (subst (λ (k : Held). SameOn d c (after (last_before m d c items n)) k) (sym (next u m addr back h items n x is))
        (same_next d c _ _ _ before (unaltered u m d addr back (old n) (n, x) c (runs n) (subst (λ (k : Held). is_waiting k.exit ≡ false) (next u m addr back h items n x is) (runs (suc n)))
        (uses_part u m addr back items h runs d divided n x is) away))))

  after_runs : ((n : ℕ) → is_waiting (old n).exit ≡ false) → (o : Option ℕ) → is_waiting (after o).exit ≡ false
  after_runs runs None = runs 0
  after_runs runs (Some n) = runs (suc n)

  abbrev others : Numbered → List Effect
  others ys = map (effect_of addr) (map (λ y. y.1) ys)

  -- after some items in the new order, each channel has what the last of them left there in the old one
  abbrev Stands : Numbered → Held → Type 0
  Stands front k = (c : Channel) → SameOn d c (after (last m d c front)) k

  -- items have a meaning from a state, and leave what the list leaves for the next one
  abbrev Ends : Held → Numbered → Type 0
  Ends k ys = (means u m back k (others ys) ≡ true) × ((c : Channel) → survives live c ≡ true → SameOn d c (old (length items)) (does_all u m back k (others ys)))

  drawn : ((n : ℕ) → is_waiting (old n).exit ≡ false) → has_meaning u m addr back h items ≡ true
      → (front ys : Numbered) (marks : List Bool) (k : Held) → AreDrawn m d live items front ys → AreUnmarked marks ys → AreMarked (settled m items) marks → Stands front k → Ends k ys
  drawn runs ok front [] marks k are once marked stands = (
    refl,
    λ c s.
        same_next d c _ _ _ (same_sym d c _ _ (holds runs c (length items))) (subst (λ (o : Option ℕ). SameOn d c (after o) k) (are c s) (stands c)),
  )
  drawn runs ok front (y ∷ ys) marks k are once marked stands =
      let more = drawn runs ok (y ∷ front) ys (slice_set marks y.0 true) (step u m addr back k x) are.1 once.1 (still_marked (settled m items) marks n marked) later in
      (rw (goes_on, fine) more.0, more.1) where
        n : ℕ
        n = y.0

        x : Item
        x = y.1

        there : slice_get items n ≡ Some x
        there = are.0.there

        is_dry : may_wait m x ≡ false
        is_dry = dry_after u m addr back items n x (unmarked_after (settled m items) marks n marked once.0) there

        goes_on : is_waiting k.exit ≡ false
        goes_on = ap is_waiting (stands Ending) ∙ after_runs runs (last m d Ending front)

        asked : SameAsked m d n x (old n) k
        asked c a = same_next d c _ _ _ (same_sym d c _ _ (holds runs c n)) (subst (λ (o : Option ℕ). SameOn d c (after o) k) (are.0.same c a) (stands c))

        old_fine : lacks m (old n) (effect_of addr x) ≡ false
        old_fine = fine_at u m addr back h items n x runs ok there

        fine : lacks m k (effect_of addr x) ≡ false
        fine = lacks_same m d n addr x (old n) k asked ∙ old_fine

        uses : UsesPart m d addr (old n) (n, x)
        uses = uses_part u m addr back items h runs d divided n x there

        later : Stands (y ∷ front) (step u m addr back k x)
        later c = either (alters m d c (n, x))
            (λ may. rw may (subst (λ (s : Held). SameOn d c s (step u m addr back k x)) (sym (next u m addr back h items n x there))
            (altered u m d n addr back (old n) k x c (runs n) goes_on is_dry old_fine asked uses may)))
            (λ away. rw away (same_next d c _ _ _ (stands c) (unaltered u m d addr back k (n, x) c goes_on (still_runs u m addr back k x goes_on is_dry)
            (part_same m d n addr (old n) k x asked uses) away)))

  -- ---- the items that stay where they are

  -- Some items are those of the list up to a number, the newest first.
  abbrev IsFront : (k : ℕ) → Numbered → Type 0
  IsFront k front = (c : Channel) → last m d c front ≡ last_before m d c items k

  along : has_meaning u m addr back h items ≡ true → (j k : ℕ) (front ys : Numbered) (marks : List Bool)
      → ((i : ℕ) → i < j → slice_get (map (λ y. y.0) ys) i ≡ Some (k + i)) → AreDrawn m d live items front ys → AreUnmarked marks ys → AreMarked k marks → IsFront k front
      → ((front ys : Numbered) (marks : List Bool) → AreDrawn m d live items front ys → AreUnmarked marks ys → AreMarked (k + j) marks → IsFront (k + j) front → Ends (old (k + j)) ys) → Ends (old k) ys
  along ok zero k front ys marks places are once marked lasts rest =
      let e : k + 0 ≡ k = omega arith in
      subst (λ i. Ends (old i) ys) e (rest front ys marks are once (subst (λ i. AreMarked i marks) (sym e) marked) (subst (λ i. IsFront i front) (sym e) lasts))
  along ok (suc j) k front [] marks places are once marked lasts rest = let none = places 0 (omega arith) in absurd cc
  along ok (suc j) k front (y ∷ ys) marks places are once marked lasts rest =
      let more = along ok j (k + 1) (y ∷ front) ys (slice_set marks y.0 true) tail are.1 once.1 marked_too lasts_too rest_too in (
        rw first (subst (λ (s : Held). means u m back s (others ys) ≡ true) taken more.0),
        λ c s. subst (λ (s : Held). SameOn d c (old (length items)) (does_all u m back s (others ys))) taken (more.1 c s),
      ) where
        x : Item
        x = y.1

        number : y.0 ≡ k
        number =
            let e : k + 0 ≡ k = omega arith in
            some_same (places 0 (omega arith)) ∙ e

        there : slice_get items k ≡ Some x
        there = subst (λ i. slice_get items i ≡ Some x) number are.0.there

        taken : old (k + 1) ≡ step u m addr back (old k) x
        taken = let e : k + 1 ≡ suc k = omega arith in ap old e ∙ next u m addr back h items k x there

        first : (is_waiting (old k).exit || not (lacks m (old k) (effect_of addr x))) ≡ true
        first = means_at u m addr back h items k x ok there

        tail : (i : ℕ) → i < j → slice_get (map (λ y. y.0) ys) i ≡ Some ((k + 1) + i)
        tail i lt =
            let e : k + suc i ≡ (k + 1) + i = omega arith in
            places (suc i) (omega (arith, lt)) ∙ ap (λ n. Some n) e

        marked_too : AreMarked (k + 1) (slice_set marks y.0 true)
        marked_too = subst (λ i. AreMarked (k + 1) (slice_set marks i true)) (sym number) (mark_more k marks marked (subst (λ i. slice_get marks i ≡ Some false) number once.0))

        lasts_too : IsFront (k + 1) (y ∷ front)
        lasts_too c =
            let e : k + 1 ≡ suc k = omega arith in
            let here = ap (λ (o : Option Item). if option_map_or (λ x. alters m d c (k, x)) o false then Some k else last_before m d c items k) there in
            ap (λ i. if alters m d c (i, x) then Some i else last m d c front) number ∙ ap (λ o. if alters m d c (k, x) then Some k else o) (lasts c) ∙ sym here ∙ ap (λ i. last_before m d c items i) (sym e)

        rest_too : (front ys : Numbered) (marks : List Bool) → AreDrawn m d live items front ys → AreUnmarked marks ys → AreMarked ((k + 1) + j) marks → IsFront ((k + 1) + j) front → Ends (old ((k + 1) + j)) ys
        rest_too front ys marks a o r l =
            let e : (k + 1) + j ≡ k + suc j = omega arith in
            subst (λ i. Ends (old i) ys) (sym e) (rest front ys marks a o (subst (λ i. AreMarked i marks) e r) (subst (λ i. IsFront i front) e l))

  ordered : has_meaning u m addr back h items ≡ true → (order : Numbered) → ((k : ℕ) → k < settled m items → slice_get (map (λ y. y.0) order) k ≡ Some k)
      → AreDrawn m d live items [] order → AreUnmarked (replicate (length items) false) order → Ends h order
  ordered ok order front are once = along ok (settled m items) 0 [] order (replicate (length items) false) (λ i lt. let e : 0 + i ≡ i = omega arith in front i lt ∙ ap (λ n. Some n) (sym e)) are once none_marked (λ c. refl) rest where
    none_marked : AreMarked 0 (replicate (length items) false)
    none_marked i lt = absurd (omega (arith, lt))

    rest : (front ys : Numbered) (marks : List Bool) → AreDrawn m d live items front ys → AreUnmarked marks ys → AreMarked (0 + settled m items) marks → IsFront (0 + settled m items) front → Ends (old (0 + settled m items)) ys
    rest front ys marks are once marked lasts =
        let e : 0 + settled m items ≡ settled m items = omega arith in
        subst (λ i. Ends (old i) ys) (sym e) (by (subst (λ i. AreMarked i marks) e marked) (subst (λ i. IsFront i front) e lasts)) where
          by : AreMarked (settled m items) marks → IsFront (settled m items) front → Ends (old (settled m items)) ys
          by marked lasts = either (is_waiting (old (settled m items)).exit)
              (λ waits. (stuck_means u m back _ (others ys) waits, λ c s. rw (waits_still u m addr back h items (settled m items) waits, stuck_all u m back (old (settled m items)) (others ys) waits) (same_refl d c _)))
              (λ runs. let always = runs_at u m addr back h items runs in
              drawn always ok front ys marks (old (settled m items)) are once marked (λ c. subst (λ (o : Option ℕ). SameOn d c (after o) (old (settled m items))) (sym (lasts c)) (holds always c (settled m items))))

-- ---- the meaning is kept

-- lists with the same word at each place are the same
same_lists : (xs ys : List ℕ) → ((k : ℕ) → slice_get ys k ≡ slice_get xs k) → ys ≡ xs
same_lists [] [] same = refl
same_lists [] (y ∷ ys) same = let clash = same 0 in absurd cc
same_lists (x ∷ xs) [] same = let clash = same 0 in absurd cc
same_lists (x ∷ xs) (y ∷ ys) same =
    let first : y ≡ x = some_same (same 0) in ap (λ z. z ∷ ys) first ∙ ap (λ l. x ∷ l) (same_lists xs ys (λ k. same (suc k)))

alike_by : (d : Division) (live : List (ℕ × ℕ)) (h k : Held) → ((c : Channel) → survives live c ≡ true → SameOn d c h k) → Alike live h k
alike_by d live h k same = record {
  memory = same Data refl;
  frame = same_lists h.frame k.frame (λ slot. same (Frame (part_with d slot)) refl slot refl);
  rest = (same Traffic refl).0;
  output = (same Traffic refl).1;
  exit = same Ending refl;
  registers = λ runs p l. same (Word p) l;
}

pub orders_keep : (m : Machine) (live : List (ℕ × ℕ)) (items : List Item) (order : Numbered)
    → IsOrder m live items order → KeepsMeaning m live items (bare order)
orders_keep m live items order o = record {
  meaning = λ u addr back h ok. (ordered u m o.division live addr back items o.divided h ok order o.front o.drawn o.once).0;
  end = λ u addr back h ok. subst (λ (s : Held). Alike live s (do_items u m addr back h (map (λ y. y.1) order))) (ends u m addr back h items)
      (alike_by o.division live _ _ (ordered u m o.division live addr back items o.divided h ok order o.front o.drawn o.once).1);
}
