-- Each item of a block has its place, and one step of putting items into the words of a block.
use Rattle.std.proofs.Common.{◌≡◌, ℕ, zero, suc, ◌+◌, ◌-◌, ◌<◌, ◌≤◌, Bool, true, false, List, [], ◌∷◌, ◌++◌, Some, None, refl, sym, ap, subst, ◌∙◌, arith, length, map, filter, drop, get_or, set, replicate, length-append}
use Rattle.std.specs.Prelude.{slice_get, ◌==◌, ◌&&◌, nat_lt, if◌then◌else◌}
use Rattle.std.specs.List.{range_with_len, list_all}
use Rattle.std.proofs.lemmas.List.{drop_more, drop_all, get_or-append-add, length-map}
use Rattle.std.proofs.lemmas.Bool.{and_parts}
use Rattle.std.proofs.lemmas.Bool.Decides.{nat_tests}
use Rattle.tta_list.proofs.Lists.{list_all_one, list_all_changed, all_from, item_at as get_some}
use Rattle.tta_link.specs.Cited.{Machine, IsMachine, are_different, can_move, Instruction, Item, Port, Address, Slot, Bus, Template, PlacedItem, Placed, carried, carries, clash, fits_cycle, slots_of, taken_of, in_cycle}
use Rattle.tta_moves.specs.declared.items.Item.TheVariants as item
use Rattle.tta_moves.specs.declared.items.LongValue.TheVariants as long
use Rattle.tta_moves.proofs.Buses.{joins_below}
use Rattle.tta_link.specs.Linked.{instruction_of, starts_from}
use Rattle.tta_link.specs.Blocks.{slot_within, is_within, has_place, IsBlock, AreBlocks}
use Rattle.tta_link.specs.Put.{with_item}
use Rattle.tta_link.proofs.Rows.{no_items, put_item, length_starts}
use Rattle.tta_link.proofs.Legal.{length_range}

-- ---- tests along lists

pub all_get : {A : Type 0} (p : A → Bool) (xs : List A) (k : ℕ) (d : A) → list_all p xs ≡ true → k < length xs → p (get_or xs k d) ≡ true
all_get p [] k d all lt = absurd (omega arith)
all_get p (x ∷ xs) zero d all lt = (and_parts (p x) (list_all p xs) all).0
all_get p (x ∷ xs) (suc k) d all lt = all_get p xs k d (and_parts (p x) (list_all p xs) all).1 (omega arith)

-- what holds of those that pass a test holds of one that does
filter_one : {A : Type 0} (p q : A → Bool) (xs : List A) (k : ℕ) (x : A) → list_all p (filter q xs) ≡ true → slice_get xs k ≡ Some x → q x ≡ true → p x ≡ true
filter_one p q [] k x all e t = absurd cc
filter_one p q (y ∷ ys) zero x all e t =
    let same : y ≡ x = cc in
    let ty : q y ≡ true = subst (λ z. q z ≡ true) (sym same) t in
    let first : list_all p (y ∷ filter q ys) ≡ true = rw ty at all in
    subst (λ z. p z ≡ true) same (and_parts (p y) (list_all p (filter q ys)) first).0
filter_one p q (y ∷ ys) (suc k) x all e t = on (q y) all (λ h. filter_one p q ys k x h e t) where
  on : (b : Bool) → list_all p (if b then y ∷ filter q ys else filter q ys) ≡ true → (list_all p (filter q ys) ≡ true → p x ≡ true) → p x ≡ true
  on true all ih = ih (and_parts (p y) (list_all p (filter q ys)) all).1
  on false all ih = ih all

-- ---- each item has its place

pub fits_carries : (m : Machine) (xs : List PlacedItem) → fits_cycle m xs ≡ true → list_all (λ x. carries m x.slot x.item) xs ≡ true
unfolding fits_cycle
fits_carries m xs e =
    let a = and_parts (list_all (λ x. carries m x.slot x.item) xs && are_different clash (map (λ x. x.slot) xs)) (can_move m (taken_of m xs) (slots_of m xs)) e in
    (and_parts (list_all (λ x. carries m x.slot x.item) xs) (are_different clash (map (λ x. x.slot) xs)) a.0).0

slot_below : (m : Machine) → IsMachine m → (s : Slot) (i : Item) → carries m s i ≡ true → slot_within (length m.buses) s ≡ true
slot_below m rules (Bus b) (item.Move guard src dst) h = let lt = joins_below m rules b (carried m src) dst guard h in grind (arith, nat_tests)
slot_below m rules (Bus b) (item.Long unit index value) h = absurd cc
slot_below m rules (Template t) i h = refl

-- an address of one of the blocks is that of one of more
within_more : (n blocks : ℕ) (i : Item) → n ≤ blocks → is_within n i ≡ true → is_within blocks i ≡ true
within_more n blocks (item.Move guard (Port src) dst) le h = refl
within_more n blocks (item.Move guard (Address b) dst) le h = grind (arith, nat_tests)
within_more n blocks (item.Long unit index (long.Word word)) le h = refl
within_more n blocks (item.Long unit index (long.Address b)) le h = grind (arith, nat_tests)

has_places : (m : Machine) → IsMachine m → (n blocks : ℕ) (p : Placed) → IsBlock m n p → n ≤ blocks → list_all (has_place p.length (length m.buses) blocks) p.items ≡ true
has_places m rules n blocks p b le = all_from (has_place p.length (length m.buses) blocks) p.items one where
  one : (k : ℕ) (x : PlacedItem) → slice_get p.items k ≡ Some x → has_place p.length (length m.buses) blocks x ≡ true
  one k x e =
      let cycle = list_all_one (λ (y : PlacedItem). nat_lt y.cycle p.length) p.items k x b.cycles e in
      let address = list_all_one (λ (y : PlacedItem). is_within n y.item) p.items k x b.addresses e in
      let same : (x.cycle == x.cycle) ≡ true = grind (arith, nat_tests) in
      let carry = filter_one (λ (y : PlacedItem). carries m y.slot y.item) (λ (y : PlacedItem). y.cycle == x.cycle) p.items k x (fits_carries m (in_cycle x.cycle p.items) (b.fits x.cycle)) e same in
      let slot = slot_below m rules x.slot x.item carry in
      rw (cycle, slot) (within_more n blocks x.item le address)

-- the items of a block have their places among the starts of all
pub block_places : (m : Machine) → IsMachine m → (ps : List Placed) → AreBlocks m ps → (k : ℕ) (p : Placed) (starts : List ℕ) → k < length ps → p ≡ get_or ps k p → starts ≡ starts_from 0 ps
    → list_all (has_place p.length (length m.buses) (length starts)) p.items ≡ true
block_places m rules ps blocks k p starts lt e s =
    let more : length ps ≤ length starts = omega (arith, ap length s, length_starts 0 ps) in
    has_places m rules (length ps) (length starts) p (blocks.each k p (get_some ps k p lt e)) more

-- ---- putting items

pub begun : (m : Machine) (addr : List ℕ) (n k buses : ℕ) (items : List PlacedItem) → length items ≤ k → buses ≡ length m.buses
    → map (λ c. instruction_of m addr (in_cycle c (drop k items))) (range_with_len 0 n) ≡ replicate n (record { moves = replicate buses None; long = None })
begun m addr n k buses items h e = rw (drop_all k items h, e) (no_items m addr n)

get_range : {A : Type 0} (f : ℕ → A) (a n k j : ℕ) (d : A) → k < n → j ≡ a + k → get_or (map f (range_with_len a n)) k d ≡ f j
get_range f a zero k j d lt is = absurd (omega arith)
get_range f a (suc n) zero j d lt is = let e : a ≡ j = omega arith in ap f e
get_range f a (suc n) (suc k) j d lt is = get_range f (a + 1) n k j d (omega arith) (omega arith)

-- the word of an item's cycle, before the item is put there
pub word_was : (m : Machine) (addr : List ℕ) (front ws : List Instruction) (n start cycle : ℕ) (xs : List PlacedItem) (w : Instruction)
    → ws ≡ front ++ map (λ c. instruction_of m addr (in_cycle c xs)) (range_with_len 0 n) → start ≡ length front → cycle < n → w ≡ get_or ws (start + cycle) w
    → w ≡ instruction_of m addr (in_cycle cycle xs)
word_was m addr front ws n start cycle xs w inv s lt e =
    let f : ℕ → Instruction = λ c. instruction_of m addr (in_cycle c xs) in
    e ∙ ap (λ l. get_or l (start + cycle) w) inv ∙ ap (λ k. get_or (front ++ map f (range_with_len 0 n)) (k + cycle) w) s
    ∙ get_or-append-add front (map f (range_with_len 0 n)) cycle w ∙ get_range f 0 n cycle cycle w lt (omega arith)

-- and the slot of the item is one of the word's
pub slot_there : (m : Machine) (addr : List ℕ) (xs : List PlacedItem) (w : Instruction) (s : Slot) → w ≡ instruction_of m addr xs → slot_within (length m.buses) s ≡ true → slot_within (length w.moves) s ≡ true
slot_there m addr xs w (Template t) e h = refl
slot_there m addr xs w (Bus b) e h =
    let long : length w.moves ≡ length m.buses = ap (λ (i : Instruction). length i.moves) e ∙ length-map _ _ ∙ length_range 0 (length m.buses) in
    rw long h

pub block_step : (m : Machine) (addr : List ℕ) (front ws : List Instruction) (n start k : ℕ) (items : List PlacedItem) (d : PlacedItem) (w v : Instruction)
    → ws ≡ front ++ map (λ c. instruction_of m addr (in_cycle c (drop k items))) (range_with_len 0 n) → start ≡ length front → 0 < k → k ≤ length items
    → list_all (has_place n (length m.buses) (length addr)) items ≡ true
    → w ≡ get_or ws (start + (get_or items (k - 1) d).cycle) w → v ≡ with_item addr w (get_or items (k - 1) d).slot (get_or items (k - 1) d).item
    → set ws (start + (get_or items (k - 1) d).cycle) v ≡ front ++ map (λ c. instruction_of m addr (in_cycle c (drop (k - 1) items))) (range_with_len 0 n)
block_step m addr front ws n start k items d w v inv s pos le all we ve = on (get_or items (k - 1) d) refl we ve where
  on : (x : PlacedItem) → get_or items (k - 1) d ≡ x → w ≡ get_or ws (start + x.cycle) w → v ≡ with_item addr w x.slot x.item
      → set ws (start + x.cycle) v ≡ front ++ map (λ c. instruction_of m addr (in_cycle c (drop (k - 1) items))) (range_with_len 0 n)
  on x is we ve =
      let place : has_place n (length m.buses) (length addr) x ≡ true
      = subst (λ y. has_place n (length m.buses) (length addr) y ≡ true) is (all_get (has_place n (length m.buses) (length addr)) items (k - 1) d all (omega arith)) in
      let two = and_parts (nat_lt x.cycle n && slot_within (length m.buses) x.slot) (is_within (length addr) x.item) place in
      let one = and_parts (nat_lt x.cycle n) (slot_within (length m.buses) x.slot) two.0 in
      let lt : x.cycle < n = let t = one.0 in grind (arith, nat_tests) in
      let next : k - 1 + 1 ≡ k = omega arith in
      let rest : drop (k - 1) items ≡ x ∷ drop k items = drop_more items (k - 1) d (omega arith) ∙ ap (λ y. y ∷ drop (k - 1 + 1) items) is ∙ ap (λ j. x ∷ drop j items) next in
      let was = word_was m addr front ws n start x.cycle (drop k items) w inv s lt we in
      let new : v ≡ with_item addr (instruction_of m addr (in_cycle x.cycle (drop k items))) x.slot x.item = ve ∙ ap (λ (i : Instruction). with_item addr i x.slot x.item) was in
      let at : start + x.cycle ≡ length front + x.cycle = ap (λ (j : ℕ). j + x.cycle) s in
      ap (λ (l : List Instruction). set l (start + x.cycle) v) inv
      ∙ ap (λ (j : ℕ). set (front ++ map (λ c. instruction_of m addr (in_cycle c (drop k items))) (range_with_len 0 n)) j v) at
      ∙ ap (λ (i : Instruction). set (front ++ map (λ c. instruction_of m addr (in_cycle c (drop k items))) (range_with_len 0 n)) (length front + x.cycle) i) new
      ∙ put_item m addr front n x (drop k items) lt one.1
      ∙ ap (λ (l : List PlacedItem). front ++ map (λ c. instruction_of m addr (in_cycle c l)) (range_with_len 0 n)) (sym rest)

-- the slot of the item is one of the word's
pub step_slot : (m : Machine) (addr : List ℕ) (front ws : List Instruction) (n start k : ℕ) (items : List PlacedItem) (d : PlacedItem) (w : Instruction)
    → ws ≡ front ++ map (λ c. instruction_of m addr (in_cycle c (drop k items))) (range_with_len 0 n) → start ≡ length front → 0 < k → k ≤ length items
    → list_all (has_place n (length m.buses) (length addr)) items ≡ true
    → w ≡ get_or ws (start + (get_or items (k - 1) d).cycle) w
    → slot_within (length w.moves) (get_or items (k - 1) d).slot ≡ true
step_slot m addr front ws n start k items d w inv s pos le all we =
    let x : PlacedItem = get_or items (k - 1) d in
    let place = all_get (has_place n (length m.buses) (length addr)) items (k - 1) d all (omega arith) in
    let two = and_parts (nat_lt x.cycle n && slot_within (length m.buses) x.slot) (is_within (length addr) x.item) place in
    let one = and_parts (nat_lt x.cycle n) (slot_within (length m.buses) x.slot) two.0 in
    let lt : x.cycle < n = let t = one.0 in grind (arith, nat_tests) in
    slot_there m addr (in_cycle x.cycle (drop k items)) w x.slot (word_was m addr front ws n start x.cycle (drop k items) w inv s lt we) one.1

-- a test of the words is kept where it is by the word that is changed
pub step_words : (p : Instruction → Bool) (m : Machine) (addr : List ℕ) (front ws : List Instruction) (n start k : ℕ) (items : List PlacedItem) (d : PlacedItem) (w v : Instruction)
    → ws ≡ front ++ map (λ c. instruction_of m addr (in_cycle c (drop k items))) (range_with_len 0 n) → start ≡ length front → 0 < k → k ≤ length items
    → list_all (has_place n (length m.buses) (length addr)) items ≡ true
    → w ≡ get_or ws (start + (get_or items (k - 1) d).cycle) w
    → (p w ≡ true → p v ≡ true) → list_all p ws ≡ true → list_all p (set ws (start + (get_or items (k - 1) d).cycle) v) ≡ true
step_words p m addr front ws n start k items d w v inv s pos le all we keeps words =
    let x : PlacedItem = get_or items (k - 1) d in
    let place = all_get (has_place n (length m.buses) (length addr)) items (k - 1) d all (omega arith) in
    let two = and_parts (nat_lt x.cycle n && slot_within (length m.buses) x.slot) (is_within (length addr) x.item) place in
    let one = and_parts (nat_lt x.cycle n) (slot_within (length m.buses) x.slot) two.0 in
    let lt : x.cycle < n = let t = one.0 in grind (arith, nat_tests) in
    let f : ℕ → Instruction = λ c. instruction_of m addr (in_cycle c (drop k items)) in
    let long : length ws ≡ length front + n = ap length inv ∙ length-append front (map f (range_with_len 0 n)) ∙ ap (λ (q : ℕ). length front + q) (length-map (range_with_len 0 n) f ∙ length_range 0 n) in
    let was : p w ≡ true = ap p we ∙ all_get p ws (start + x.cycle) w words (omega arith) in
    list_all_changed p ws (start + x.cycle) v words (keeps was)
