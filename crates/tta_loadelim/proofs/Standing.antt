-- A list with copies, served reads, fewer stores and fewer items may be placed for the list.
use Rattle.std.proofs.Common.{◌≡◌, ℕ, ◌≤◌, Bool, true, false, cond, List, [], ◌∷◌, length, Option, Some, refl, sym, ap, subst, arith, ◌∙◌, inl, inr}
use Rattle.std.specs.Prelude.{◌==◌, ◌&&◌, ◌||◌, nat_lt, count_by}
use Rattle.std.specs.List.{list_all, list_any}
use Rattle.std.proofs.lemmas.Bool.{and_parts}
use Rattle.std.proofs.lemmas.Bool.Decides.{nat_tests}
use Rattle.std.proofs.lemmas.List.Sums.{sum_by-cons}
use Rattle.tta_loadelim.specs.Cited.{Source, Machine, Target, Reg, KeptReg, same_place, hub_of, Port, Item, Move, Long, BlockList, target_of_item, is_straight, KeepsMeaning, names, aim_of, is_scratch, AsksNoMore, IsEquivalent, with_source}
use Rattle.tta_moves.proofs.Places.{either}
use Rattle.tta_optim.proofs.Meanings.{framed_of, framed_next}
use Rattle.tta_loadelim.specs.Reworked.{IsReworked}
use Rattle.tta_loadelim.specs.AvailableSlots.{IsServed, AreServed}
use Rattle.tta_loadelim.specs.Copied.{is_one_of, copy_of, AreCopied, ends, stays, copies}
use Rattle.tta_loadelim.specs.Thinned.{AreThinned, ends as none_thinned, stays as stays_thinned, goes}
use Rattle.tta_loadelim.proofs.ServedReads.{served_keep}
use Rattle.tta_loadelim.proofs.CopiedWords.{copies_keep}
use Rattle.tta_loadelim.proofs.DeadStores.{thinned_keep}

-- ---- how often words are brought to targets

module _ (p : Target → Bool) where
  abbrev brings : Item → Bool
  brings x = p (target_of_item x)

  same_first : (x y : Item) (xs ys : List Item) → brings y ≡ brings x → count_by brings ys ≤ count_by brings xs → count_by brings (y ∷ ys) ≤ count_by brings (x ∷ xs)
  same_first x y xs ys same le =
      let one = sum_by-cons (λ (z : Item). cond (brings z) 1 0) x xs in
      let two = sum_by-cons (λ (z : Item). cond (brings z) 1 0) y ys in
      let equal : ◌≡◌ {A = ℕ} (cond (brings y) 1 0) (cond (brings x) 1 0) = ap (λ b. cond b 1 0) same in
      omega (arith, one, two, equal, le)

  more_first : (x : Item) (xs ys : List Item) → count_by brings ys ≤ count_by brings xs → count_by brings ys ≤ count_by brings (x ∷ xs)
  more_first x xs ys le = let one = sum_by-cons (λ (z : Item). cond (brings z) 1 0) x xs in omega (arith, one, le)

  none_first : (y : Item) (xs ys : List Item) → brings y ≡ false → count_by brings ys ≤ count_by brings xs → count_by brings (y ∷ ys) ≤ count_by brings xs
  none_first y xs ys none le =
      let one = sum_by-cons (λ (z : Item). cond (brings z) 1 0) y ys in
      let zero : ◌≡◌ {A = ℕ} (cond (brings y) 1 0) 0 = ap (λ b. cond b 1 0) none in
      omega (arith, one, zero, le)

  copied_targets : (fresh : List (ℕ × ℕ)) (xs ys : List Item) → ((r : ℕ × ℕ) → is_one_of fresh (KeptReg r.0 r.1) ≡ true → p (Reg r.0 r.1) ≡ false) → AreCopied fresh xs ys → count_by brings ys ≤ count_by brings xs
  copied_targets fresh _ _ apart ends = omega arith
  copied_targets fresh _ _ apart (stays x xs ys a) = same_first x x xs ys refl (copied_targets fresh xs ys apart a)
  copied_targets fresh _ _ apart (copies x r xs ys sure one a) = none_first (copy_of x r) (x ∷ xs) (x ∷ ys) (apart r one) (same_first x x xs ys refl (copied_targets fresh xs ys apart a))

  served_target : (m : Machine) (before : List Item) (x y : Item) → IsServed m before x y → brings y ≡ brings x
  served_target m before x y s = elim s as (λ s. brings y ≡ brings x) [
    | inl same ↦ ap brings same
    | inr other ↦ ap brings other.3 ∙ by x other.1
  ] where
    by : (x : Item) (b : Source) → brings (with_source x (Port b)) ≡ brings x
    by (Move guard src dst) b = refl
    by (Long unit index value) b = refl

  served_targets : (m : Machine) (before xs ys : List Item) → AreServed m before xs ys → count_by brings ys ≤ count_by brings xs
  served_targets m before [] [] a = omega arith
  served_targets m before [] (y ∷ ys) a = absurd a
  served_targets m before (x ∷ xs) [] a = absurd a
  served_targets m before (x ∷ xs) (y ∷ ys) a = same_first x y xs ys (served_target m before x y a.0) (served_targets m (x ∷ before) xs ys a.1)

  thinned_targets : (m : Machine) (before xs ys : List Item) → AreThinned m before xs ys → count_by brings ys ≤ count_by brings xs
  thinned_targets m _ _ _ (none_thinned before) = omega arith
  thinned_targets m _ _ _ (stays_thinned before x xs ys a) = same_first x x xs ys refl (thinned_targets m (x ∷ before) xs ys a)
  thinned_targets m _ _ _ (goes before x xs ys slot is over a) = more_first x xs ys (thinned_targets m (x ∷ before) xs ys a)

-- ---- addresses

module _ (block : ℕ) where
  abbrev Named : List Item → List Item → Type 0
  Named ys xs = list_any (names block) ys ≡ true → list_any (names block) xs ≡ true

  same_named : (x y : Item) (xs ys : List Item) → (names block y ≡ true → names block x ≡ true) → Named ys xs → Named (y ∷ ys) (x ∷ xs)
  same_named x y xs ys one more e = either (names block y)
      (λ here. rw (one here) refl)
      (λ away. or_later (names block x) (more (rw away at e))) where
        or_later : (a : Bool) {b : Bool} → b ≡ true → (a || b) ≡ true
        or_later true h = refl
        or_later false h = h

  later_named : (x : Item) (xs ys : List Item) → Named ys xs → Named ys (x ∷ xs)
  later_named x xs ys more e = or_later (names block x) (more e) where
    or_later : (a : Bool) {b : Bool} → b ≡ true → (a || b) ≡ true
    or_later true h = refl
    or_later false h = h

  copied_named : (fresh : List (ℕ × ℕ)) (xs ys : List Item) → AreCopied fresh xs ys → Named ys xs
  copied_named fresh _ _ ends e = e
  copied_named fresh _ _ (stays x xs ys a) e = same_named x x xs ys (λ h. h) (copied_named fresh xs ys a) e
  copied_named fresh _ _ (copies x r xs ys sure one a) e = either (names block x)
      (λ here. rw here refl)
      (λ away. later_named x xs ys (copied_named fresh xs ys a) (rw away at e))

  served_named_one : (m : Machine) (before : List Item) (x y : Item) → IsServed m before x y → names block y ≡ true → names block x ≡ true
  served_named_one m before x y s e = elim s as (λ s. names block x ≡ true) [
    | inl same ↦ ap (names block) (sym same) ∙ e
    | inr other ↦ by x other.1 (ap (names block) (sym other.3) ∙ e)
  ] where
    by : (x : Item) (b : Source) → names block (with_source x (Port b)) ≡ true → names block x ≡ true
    by (Move guard src dst) b e = absurd cc
    by (Long unit index value) b e = e

  served_named : (m : Machine) (before xs ys : List Item) → AreServed m before xs ys → Named ys xs
  served_named m before [] [] a e = e
  served_named m before [] (y ∷ ys) a e = absurd a
  served_named m before (x ∷ xs) [] a e = absurd a
  served_named m before (x ∷ xs) (y ∷ ys) a e = same_named x y xs ys (served_named_one m before x y a.0) (served_named m (x ∷ before) xs ys a.1) e

  thinned_named : (m : Machine) (before xs ys : List Item) → AreThinned m before xs ys → Named ys xs
  thinned_named m _ _ _ (none_thinned before) e = e
  thinned_named m _ _ _ (stays_thinned before x xs ys a) e = same_named x x xs ys (λ h. h) (thinned_named m (x ∷ before) xs ys a) e
  thinned_named m _ _ _ (goes before x xs ys slot is over a) e = later_named x xs ys (thinned_named m (x ∷ before) xs ys a) e

-- ---- spare registers are scratch registers

spare_scratch : (m : Machine) (hub : ℕ) (fresh : List (ℕ × ℕ)) (r : ℕ × ℕ) → hub_of m ≡ Some hub → list_all (λ q. hub == q.0 && nat_lt q.1 3) fresh ≡ true → is_one_of fresh (KeptReg r.0 r.1) ≡ true
    → is_scratch m (Reg r.0 r.1) ≡ true
spare_scratch m hub [] r is all one = absurd cc
spare_scratch m hub (q ∷ fresh) r is all one =
    let two = and_parts (hub == q.0 && nat_lt q.1 3) (list_all (λ q. hub == q.0 && nat_lt q.1 3) fresh) all in
    either (same_place (KeptReg q.0 q.1) (KeptReg r.0 r.1))
    (λ here.
    let ends = and_parts (q.0 == r.0) (q.1 == r.1) here in
    let file : q.0 ≡ r.0 = grind (arith, nat_tests, ends) in
    let index : q.1 ≡ r.1 = grind (arith, nat_tests, ends) in
    rw is (ap (λ n. hub == n && nat_lt r.1 3) (sym file) ∙ ap (λ n. hub == q.0 && nat_lt n 3) (sym index) ∙ two.0))
    (λ away. spare_scratch m hub fresh r is two.1 (rw away at one))

-- ---- all steps

-- What is picked of a reworked list may stand for the list.
pub reworked_stands : (m : Machine) (hub : ℕ) (b more r : BlockList) → hub_of m ≡ Some hub → IsReworked m hub b more → KeepsMeaning m more.live_out more.items r.items → AsksNoMore m more.items r.items
    → r.live_out ≡ more.live_out → length r.items ≤ length b.items → is_straight m (Some hub) r.items ≡ true → IsEquivalent m b r
reworked_stands m hub b more r hub_is d meaning no_more live few straight = record {
  stands = record {
    live = live ∙ d.live;
    meaning =
        framed_next m b.live_out b.items d.with_copies r.items (framed_of m b.live_out b.items d.with_copies (copies_keep m b.live_out d.fresh b.items d.with_copies d.spare.unread d.copied))
        (framed_next m b.live_out d.with_copies d.with_served r.items (served_keep m b.live_out d.with_copies d.with_served d.served)
        (framed_next m b.live_out d.with_served more.items r.items (framed_of m b.live_out d.with_served more.items (thinned_keep m b.live_out d.with_served more.items d.thinned))
        (framed_of m b.live_out more.items r.items (subst (λ (l : List (ℕ × ℕ)). KeepsMeaning m l more.items r.items) d.live meaning))));
  };
  spare = record {
    few = few;
    list = λ e. no_more.list d.list;
    targets = λ p apart.
        let t : Target → Bool = λ z. p (aim_of m z) in
        let a = copied_targets t d.fresh b.items d.with_copies (λ q is. apart (Reg q.0 q.1) (spare_scratch m hub d.fresh q hub_is d.spare.scratch is)) d.copied in
        let c = served_targets t m [] d.with_copies d.with_served d.served in
        let f = thinned_targets t m [] d.with_served more.items d.thinned in
        let g = no_more.targets p apart in
        omega (arith, a, c, f, g);
    addresses = λ block e.
        copied_named block d.fresh b.items d.with_copies d.copied (served_named block m [] d.with_copies d.with_served d.served (thinned_named block m [] d.with_served more.items d.thinned (no_more.addresses block e)));
    straight = λ e. ap (λ (h : Option ℕ). is_straight m h r.items) hub_is ∙ straight;
  };
}
