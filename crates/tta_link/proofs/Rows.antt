-- Blocks in a row, the starts of blocks, and items put into their instructions from the last to the first.
use Rattle.std.proofs.Common.{◌≡◌, ◌≢◌, ℕ, zero, suc, ◌+◌, ◌-◌, ◌<◌, true, false, List, [], ◌∷◌, ◌++◌, Option, Some, None, refl, sym, ap, ◌∙◌, arith, length, map, drop, get_or, set, replicate, add-one, append_assoc}
use Rattle.std.specs.Prelude.{◌==◌}
use Rattle.std.specs.List.{range_with_len}
use Rattle.std.proofs.lemmas.List.{at_drop_more, set-append_right}
use Rattle.std.proofs.lemmas.Bool.Decides.{nat_tests}
use Rattle.tta_link.specs.Cited.{Machine, first_some, or_else, Move, Instruction, Item, Slot, Bus, Template, PlacedItem, Placed, linked, in_cycle}
use Rattle.tta_moves.specs.declared.items.Item.TheVariants as item
use Rattle.tta_moves.proofs.Numbered.{set_alike}
use Rattle.tta_link.specs.Linked.{move_on, long_on, instruction_of, starts_from}
use Rattle.tta_link.specs.Blocks.{total_length, slot_within}
use Rattle.tta_link.specs.Put.{with_item}

-- ---- sums and starts

pub total_step : (ps : List Placed) (i : ℕ) (p : Placed) → i < length ps → total_length (drop i ps) ≡ (get_or ps i p).length + total_length (drop (i + 1) ps)
total_step ps i p h = at_drop_more total_length ps i p h

pub starts_step : (ps : List Placed) (i a : ℕ) (p : Placed) → i < length ps → starts_from a (drop i ps) ≡ a ∷ starts_from (a + (get_or ps i p).length) (drop (i + 1) ps)
starts_step ps i a p h = at_drop_more (starts_from a) ps i p h

pub length_starts : (a : ℕ) (ps : List Placed) → length (starts_from a ps) ≡ suc (length ps)
length_starts a [] = refl
length_starts a (p ∷ ps) = ap suc (length_starts (a + p.length) ps)

-- one copy more at the end
pub replicate_push : {A : Type 0} (xs : List A) (n : ℕ) (a : A) → xs ++ replicate (n + 1) a ≡ xs ++ replicate n a ++ a ∷ []
replicate_push xs n a = rw (add-one, snoc n) (sym (append_assoc xs (replicate n a) (a ∷ []))) where
  snoc : (n : ℕ) → replicate (suc n) a ≡ replicate n a ++ a ∷ []
  snoc zero = refl
  snoc (suc n) = ap (λ l. a ∷ l) (snoc n)

-- ---- lists by numbers

pub map_replicate : {A : Type 0} (v : A) (a n : ℕ) → map (λ (k : ℕ). v) (range_with_len a n) ≡ replicate n v
map_replicate v a zero = refl
map_replicate v a (suc n) = ap (λ l. v ∷ l) (map_replicate v (a + 1) n)

-- ---- instructions

-- a block without items
pub no_items : (m : Machine) (addr : List ℕ) (n : ℕ) → map (λ c. instruction_of m addr (in_cycle c [])) (range_with_len 0 n) ≡ replicate n (record { moves = replicate (length m.buses) None; long = None })
no_items m addr n =
    rw (sym (map_replicate {A = Option Move} None 0 (length m.buses))) (map_replicate (instruction_of m addr []) 0 n)

-- what stands on a bus before one item more
abbrev before : (addr : List ℕ) → List PlacedItem → ℕ → Option Move
before addr xs bus = first_some (λ y. move_on addr bus y.slot y.item) xs

abbrev made : Machine → (addr : List ℕ) → List PlacedItem → Slot → Item → Instruction
made m addr xs s i = record {
  moves = map (λ bus. or_else (move_on addr bus s i) (before addr xs bus)) (range_with_len 0 (length m.buses));
  long = or_else (long_on addr s i) (first_some (λ y. long_on addr y.slot y.item) xs);
}

made_is : (m : Machine) (addr : List ℕ) (xs : List PlacedItem) (s : Slot) (i : Item) → slot_within (length m.buses) s ≡ true → made m addr xs s i ≡ with_item addr (instruction_of m addr xs) s i
made_is m addr xs (Bus b) (item.Move guard src dst) h =
    let v : Move = record { guard = guard; src = linked addr src; dst = dst } in
    let lt : b < length m.buses = grind (arith, nat_tests) in
    let same : (b == b) ≡ true = grind (arith, nat_tests) in
    let here : or_else (move_on addr b (Bus b) (item.Move guard src dst)) (before addr xs b) ≡ Some v = rw same refl in
    let others : (k : ℕ) → k ≢ b → before addr xs k ≡ or_else (move_on addr k (Bus b) (item.Move guard src dst)) (before addr xs k)
    = λ k ne. let no : (b == k) ≡ false = grind (arith, nat_tests) in rw no refl in
    let e = set_alike (before addr xs) (λ bus. or_else (move_on addr bus (Bus b) (item.Move guard src dst)) (before addr xs bus)) 0 (length m.buses) b b (Some v) lt (omega arith) here others in
    rw (sym e) refl
made_is m addr xs (Bus b) (item.Long unit index value) h = refl
made_is m addr xs (Template t) (item.Move guard src dst) h = refl
made_is m addr xs (Template t) (item.Long unit index value) h = refl

-- an instruction of one item more
pub one_item : (m : Machine) (addr : List ℕ) (x : PlacedItem) (xs : List PlacedItem) → slot_within (length m.buses) x.slot ≡ true
    → instruction_of m addr (x ∷ xs) ≡ with_item addr (instruction_of m addr xs) x.slot x.item
one_item m addr x xs h = made_is m addr xs x.slot x.item h

-- the words of a block with one item more
pub put_item : (m : Machine) (addr : List ℕ) (front : List Instruction) (n : ℕ) (x : PlacedItem) (xs : List PlacedItem)
    → x.cycle < n → slot_within (length m.buses) x.slot ≡ true
    → set (front ++ map (λ c. instruction_of m addr (in_cycle c xs)) (range_with_len 0 n)) (length front + x.cycle) (with_item addr (instruction_of m addr (in_cycle x.cycle xs)) x.slot x.item)
    ≡ front ++ map (λ c. instruction_of m addr (in_cycle c (x ∷ xs))) (range_with_len 0 n)
put_item m addr front n x xs lt slot =
    let f : ℕ → Instruction = λ c. instruction_of m addr (in_cycle c xs) in
    let g : ℕ → Instruction = λ c. instruction_of m addr (in_cycle c (x ∷ xs)) in
    let v : Instruction = with_item addr (instruction_of m addr (in_cycle x.cycle xs)) x.slot x.item in
    let same : (x.cycle == x.cycle) ≡ true = grind (arith, nat_tests) in
    let here : g x.cycle ≡ v = rw same (one_item m addr x (in_cycle x.cycle xs) slot) in
    let others : (k : ℕ) → k ≢ x.cycle → f k ≡ g k = λ k ne. let no : (x.cycle == k) ≡ false = grind (arith, nat_tests) in rw no refl in
    let rest = set_alike f g 0 n x.cycle x.cycle v lt (omega arith) here others in
    let place : length front + x.cycle - length front ≡ x.cycle = omega arith in
    set-append_right front (map f (range_with_len 0 n)) (length front) (length front + x.cycle) v refl (omega arith) ∙ rw (place, rest) refl
