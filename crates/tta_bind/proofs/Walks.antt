-- The walks of the check, item by item.
use Rattle.std.proofs.Common.{◌≡◌, ℕ, suc, ◌+◌, ◌-◌, ◌<◌, ◌≤◌, Bool, true, false, List, [], ◌∷◌, ◌++◌, length, drop, Some, None, refl, sym, ap, subst, arith, ◌∙◌, append_assoc, append-nil}
use Rattle.std.specs.Prelude.{if◌then◌else◌, nat_lt, slice_get}
use Rattle.std.proofs.lemmas.Bool.Decides.{nat_tests}
use Rattle.std.specs.Option.{option_map_or}
use Rattle.std.proofs.lemmas.List.{drop_more, drop_all}
use Rattle.std.proofs.lemmas.Option.{slice_get_within, get_or_from_slice_get}
use Rattle.tta_bind.specs.Cited.{Machine, Place, Item, writes}
use Rattle.tta_moves.proofs.Places.{either}
use Rattle.tta_list.proofs.Tests.{some_same}
use Rattle.tta_bind.specs.declared.seats.Seat.{Seat}
use Rattle.tta_bind.specs.Seated.{seated, all_seated, last_write, can_have, AreSeats}

-- ---- back to the last write

-- none of the last k items writes the place
pub record BackTo (m : Machine) (p : Place) (items : List Item) (count k : ℕ) : Type 0 where
  pub same : last_write m p items (count - k) ≡ last_write m p items count

pub back_begin : (m : Machine) (p : Place) (items : List Item) (count : ℕ) → BackTo m p items count 0
back_begin m p items count = let e : count - 0 ≡ count = omega arith in record { same = ap (λ (n : ℕ). last_write m p items n) e }

one_less : (count k : ℕ) → k < count → count - k ≡ suc (count - 1 - k)
one_less count k lt = omega (arith, lt)

write_by : (m : Machine) (p : Place) (items : List Item) (n : ℕ) (b : Bool) → b ≡ option_map_or (writes m p) (slice_get items n) false
    → last_write m p items (suc n) ≡ (if b then Some n else last_write m p items n)
unfolding last_write
write_by m p items n b e = ap (λ (c : Bool). if c then Some n else last_write m p items n) (sym e)

pub back_next : (m : Machine) (p : Place) (items : List Item) (count k : ℕ) (b : Bool) → k < count → b ≡ option_map_or (writes m p) (slice_get items (count - 1 - k)) false → b ≡ false
    → BackTo m p items count k → BackTo m p items count (k + 1)
back_next m p items count k b lt is away t =
    let less : count - (k + 1) ≡ count - 1 - k = omega arith in
    let here = write_by m p items (count - 1 - k) b is in
    record {
      same = ap (λ (n : ℕ). last_write m p items n) less
          ∙ sym (here ∙ ap (λ (c : Bool). if c then Some (count - 1 - k) else last_write m p items (count - 1 - k)) away)
          ∙ ap (λ (n : ℕ). last_write m p items n) (sym (one_less count k lt)) ∙ t.same;
    }

pub back_found : (m : Machine) (p : Place) (items : List Item) (count k : ℕ) (b : Bool) → k < count → b ≡ option_map_or (writes m p) (slice_get items (count - 1 - k)) false → b ≡ true
    → BackTo m p items count k → Some (count - 1 - k) ≡ last_write m p items count
back_found m p items count k b lt is yes_it t =
    let here = write_by m p items (count - 1 - k) b is in
    sym (here ∙ ap (λ (c : Bool). if c then Some (count - 1 - k) else last_write m p items (count - 1 - k)) yes_it)
    ∙ ap (λ (n : ℕ). last_write m p items n) (sym (one_less count k lt)) ∙ t.same

no_write : (m : Machine) (p : Place) (items : List Item) → None ≡ last_write m p items 0
unfolding last_write
no_write m p items = refl

pub back_done : (m : Machine) (p : Place) (items : List Item) (count k : ℕ) → count ≤ k → BackTo m p items count k → None ≡ last_write m p items count
back_done m p items count k le t =
    let none : 0 ≡ count - k = omega (arith, le) in no_write m p items ∙ ap (λ (n : ℕ). last_write m p items n) none ∙ t.same

-- ---- the items on their seats

-- the first n items are on their seats
pub record SeatedTo (seats : List Seat) (items out : List Item) (n : ℕ) : Type 0 where
  pub all : out ++ all_seated (drop n seats) (drop n items) ≡ all_seated seats items

pub seated_begin : (seats : List Seat) (items out : List Item) → out ≡ [] → SeatedTo seats items out 0
seated_begin seats items out e = record { all = ap (λ (l : List Item). l ++ all_seated seats items) e }

pub seated_next : (seats : List Seat) (items out : List Item) (n : ℕ) (s : Seat) (x : Item) → slice_get items n ≡ Some x → slice_get seats n ≡ Some s
    → SeatedTo seats items out n → SeatedTo seats items (out ++ seated s x ∷ []) (n + 1)
seated_next seats items out n s x is there t =
    let split : drop n items ≡ x ∷ drop (n + 1) items = drop_more items n x (slice_get_within items n x is) ∙ ap (λ y. y ∷ drop (n + 1) items) (get_or_from_slice_get items n x x is) in
    let split_too : drop n seats ≡ s ∷ drop (n + 1) seats = drop_more seats n s (slice_get_within seats n s there) ∙ ap (λ y. y ∷ drop (n + 1) seats) (get_or_from_slice_get seats n s s there) in
    record {
      all = append_assoc out (seated s x ∷ []) (all_seated (drop (n + 1) seats) (drop (n + 1) items))
          ∙ ap (λ (l : List Item). out ++ all_seated (s ∷ drop (n + 1) seats) l) (sym split)
          ∙ ap (λ (l : List Seat). out ++ all_seated l (drop n items)) (sym split_too) ∙ t.all;
    }

no_more : (seats : List Seat) → all_seated seats [] ≡ []
no_more [] = refl
no_more (s ∷ seats) = refl

pub seated_done : (seats : List Seat) (items out : List Item) (n : ℕ) → SeatedTo seats items out n → length items ≤ n → out ≡ all_seated seats items
seated_done seats items out n t le =
    sym (append-nil out) ∙ ap (λ (l : List Item). out ++ l) (sym (no_more (drop n seats))) ∙ ap (λ (l : List Item). out ++ all_seated (drop n seats) l) (sym (drop_all n items le)) ∙ t.all

-- ---- each can have its own

-- the first n items can have their seats
pub record CanTo (m : Machine) (items others : List Item) (seats : List Seat) (n : ℕ) : Type 0 where
  pub each : (k : ℕ) → k < n → (x : Item) (s : Seat) → slice_get items k ≡ Some x → slice_get seats k ≡ Some s → can_have m items others k s x ≡ true

pub can_begin : (m : Machine) (items others : List Item) (seats : List Seat) → CanTo m items others seats 0
can_begin m items others seats = record { each = λ k lt. absurd (omega (arith, lt)) }

pub can_next : (m : Machine) (items others : List Item) (seats : List Seat) (n : ℕ) (s : Seat) (x : Item) → slice_get items n ≡ Some x → slice_get seats n ≡ Some s
    → can_have m items others n s x ≡ true → CanTo m items others seats n → CanTo m items others seats (n + 1)
can_next m items others seats n s x is there can t = record { each = λ k lt y z a b. on k lt y z a b } where
  on : (k : ℕ) → k < n + 1 → (y : Item) (z : Seat) → slice_get items k ≡ Some y → slice_get seats k ≡ Some z → can_have m items others k z y ≡ true
  on k lt y z a b = either (nat_lt k n)
      (λ less. let below : k < n = grind (arith, nat_tests, less) in t.each k below y z a b)
      (λ last.
      let here : n ≡ k = grind (arith, nat_tests, last, lt) in
      let x_is : x ≡ y = some_same (sym is ∙ ap (λ (i : ℕ). slice_get items i) here ∙ a) in
      let s_is : s ≡ z = some_same (sym there ∙ ap (λ (i : ℕ). slice_get seats i) here ∙ b) in
      subst (λ (i : ℕ). can_have m items others i z y ≡ true) here (subst (λ (q : Seat). can_have m items others n q y ≡ true) s_is (subst (λ (q : Item). can_have m items others n s q ≡ true) x_is can)))

pub can_done : (m : Machine) (items others : List Item) (seats : List Seat) (n : ℕ) → length seats ≡ length items → others ≡ all_seated seats items → length items ≤ n
    → CanTo m items others seats n → AreSeats m items seats
can_done m items others seats n size are le t = record {
  size = size;
  each = λ k x s is there. subst (λ (l : List Item). can_have m items l k s x ≡ true) are (t.each k (let low = slice_get_within items k x is in omega (arith, low, le)) x s is there);
}
