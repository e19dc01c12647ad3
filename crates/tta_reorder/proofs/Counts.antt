-- Another order has no item more often.
use Rattle.std.proofs.Common.{◌≡◌, ℕ, zero, suc, ◌+◌, ◌≤◌, Bool, true, false, List, [], ◌∷◌, Some, refl, subst, arith}
use Rattle.std.specs.Prelude.{cond, ◌&&◌, ◌||◌, nat_le, length, replicate, count_by, slice_get, slice_set}
use Rattle.std.specs.List.{list_all, list_any}
use Rattle.std.proofs.lemmas.Bool.{and_from, and_parts, or_left, or_right, leb-true, le-leb}
use Rattle.std.proofs.lemmas.List.Sums.{sum_by-cons}
use Rattle.tta_reorder.specs.Cited.{Machine, Item, target_of_item, has_slot, control_is_last, is_list, hub_of, names, aim_of, AsksNoMore}
use Rattle.tta_reorder.specs.Channels.{Division}
use Rattle.tta_reorder.specs.Orders.{Numbered, bare, AreDrawn, AreUnmarked, IsOrder}
use Rattle.tta_reorder.proofs.Straight.{straight_keeps}

-- how many items that are not marked pass a test
abbrev pub left : (Item → Bool) → List Item → (marks : List Bool) → ℕ
left p [] marks = 0
left p (x ∷ xs) [] = 0
left p (x ∷ xs) (b ∷ marks) = cond b 0 (cond (p x) 1 0) + left p xs marks

-- one is marked
one_less : (p : Item → Bool) (items : List Item) (marks : List Bool) (n : ℕ) (x : Item) → slice_get items n ≡ Some x → slice_get marks n ≡ Some false
    → left p items marks ≡ cond (p x) 1 0 + left p items (slice_set marks n true)
one_less p [] marks n x there free = absurd cc
one_less p (y ∷ xs) [] n x there free = absurd cc
one_less p (y ∷ xs) (b ∷ marks) zero x there free =
    let same : y ≡ x = cc in
    let unmarked : b ≡ false = cc in
    rw (unmarked, same) (omega arith)
one_less p (y ∷ xs) (b ∷ marks) (suc n) x there free =
    let more = one_less p xs marks n x there free in omega (arith, more)

none_marked : (p : Item → Bool) (items : List Item) → left p items (replicate (length items) false) ≡ count_by p items
none_marked p [] = refl
none_marked p (x ∷ xs) =
    let more = none_marked p xs in
    let first = sum_by-cons (λ z. cond (p z) 1 0) x xs in omega (arith, more, first)

no_oftener : (p : Item → Bool) (m : Machine) (d : Division) (live : List (ℕ × ℕ)) (items : List Item) (front order : Numbered) (marks : List Bool) → AreDrawn m d live items front order → AreUnmarked marks order
    → count_by p (bare order) ≤ left p items marks
no_oftener p m d live items front [] marks are once = omega arith
no_oftener p m d live items front (y ∷ ys) marks are once =
    let more = no_oftener p m d live items (y ∷ front) ys (slice_set marks y.0 true) are.1 once.1 in
    let one = one_less p items marks y.0 y.1 are.0.there once.0 in
    let first = sum_by-cons (λ z. cond (p z) 1 0) y.1 (bare ys) in omega (arith, more, one, first)

counts : (p : Item → Bool) (m : Machine) (live : List (ℕ × ℕ)) (items : List Item) (order : Numbered) → IsOrder m live items order → count_by p (bare order) ≤ count_by p items
counts p m live items order o =
    subst (λ n. count_by p (bare order) ≤ n) (none_marked p items) (no_oftener p m o.division live items [] order (replicate (length items) false) o.drawn o.once)

count_all : (xs : List Item) → count_by (λ x. true) xs ≡ length xs
count_all [] = refl
count_all (x ∷ xs) = let more = count_all xs in let first = sum_by-cons (λ (z : Item). 1) x xs in omega (arith, more, first)

-- ---- what each item is

all_at : (p : Item → Bool) (items : List Item) (n : ℕ) (x : Item) → list_all p items ≡ true → slice_get items n ≡ Some x → p x ≡ true
all_at p [] n x all there = absurd cc
all_at p (y ∷ xs) zero x all there = let same : y ≡ x = cc in subst (λ (z : Item). p z ≡ true) same (and_parts (p y) (list_all p xs) all).0
all_at p (y ∷ xs) (suc n) x all there = all_at p xs n x (and_parts (p y) (list_all p xs) all).1 there

all_keep : (p : Item → Bool) (m : Machine) (d : Division) (live : List (ℕ × ℕ)) (items : List Item) (front order : Numbered) → AreDrawn m d live items front order → list_all p items ≡ true → list_all p (bare order) ≡ true
all_keep p m d live items front [] are all = refl
all_keep p m d live items front (y ∷ ys) are all =
    and_from (p y.1) (list_all p (bare ys)) (all_at p items y.0 y.1 all are.0.there) (all_keep p m d live items (y ∷ front) ys are.1 all)

any_at : (p : Item → Bool) (items : List Item) (n : ℕ) (x : Item) → p x ≡ true → slice_get items n ≡ Some x → list_any p items ≡ true
any_at p [] n x passes there = absurd cc
any_at p (y ∷ xs) zero x passes there = let same : x ≡ y = cc in or_left (p y) (list_any p xs) (subst (λ (z : Item). p z ≡ true) same passes)
any_at p (y ∷ xs) (suc n) x passes there = or_right (p y) (list_any p xs) (any_at p xs n x passes there)

any_keeps : (p : Item → Bool) (m : Machine) (d : Division) (live : List (ℕ × ℕ)) (items : List Item) (front order : Numbered) → AreDrawn m d live items front order → list_any p (bare order) ≡ true → list_any p items ≡ true
any_keeps p m d live items front [] are any = absurd cc
any_keeps p m d live items front (y ∷ ys) are any = on (p y.1) refl any (any_keeps p m d live items (y ∷ front) ys are.1) where
  on : (b : Bool) → p y.1 ≡ b → (b || list_any p (bare ys)) ≡ true → (list_any p (bare ys) ≡ true → list_any p items ≡ true) → list_any p items ≡ true
  on true passes any more = any_at p items y.0 y.1 passes are.0.there
  on false fails any more = more any

-- ---- all of it

pub orders_ask_no_more : (m : Machine) (live : List (ℕ × ℕ)) (items : List Item) (order : Numbered) → IsOrder m live items order → AsksNoMore m items (bare order)
orders_ask_no_more m live items order o = record {
  few = few;
  list = list;
  targets = λ p apart. counts (λ x. p (aim_of m (target_of_item x))) m live items order o;
  addresses = λ block. any_keeps (names block) m o.division live items [] order o.drawn;
  straight = straight_keeps m o.division live items order o.drawn (hub_of m);
} where
  few : length (bare order) ≤ length items
  few = let a = counts (λ x. true) m live items order o in let b = count_all (bare order) in let c = count_all items in omega (arith, a, b, c)

  list : is_list m items ≡ true → is_list m (bare order) ≡ true
  list h =
      let three = and_parts (nat_le (length items) 16777216 && list_all (has_slot m) items) (control_is_last items) h in
      let two = and_parts (nat_le (length items) 16777216) (list_all (has_slot m) items) three.0 in
      let most = leb-true (length items) 16777216 two.0 in
      let some : nat_le (length (bare order)) 16777216 ≡ true = le-leb (length (bare order)) 16777216 (omega (arith, few, most)) in
      and_from (nat_le (length (bare order)) 16777216 && list_all (has_slot m) (bare order)) (control_is_last (bare order))
      (and_from (nat_le (length (bare order)) 16777216) (list_all (has_slot m) (bare order)) some (all_keep (has_slot m) m o.division live items [] order o.drawn two.1)) o.control
