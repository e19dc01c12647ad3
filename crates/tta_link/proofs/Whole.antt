-- The code of blocks in a row is legal, and as long as they are.
use Rattle.std.proofs.Common.{◌≡◌, ℕ, zero, suc, ◌+◌, ◌<◌, ◌≤◌, ◌^◌, Bool, true, false, List, [], ◌∷◌, ◌++◌, Some, refl, sym, ap, subst, ◌∙◌, arith, length, map, filter, length-append}
use Rattle.std.specs.Prelude.{slice_get, slice_index, ◌==◌, IsTrue, if◌then◌else◌}
use Rattle.std.specs.List.{range_with_len, list_all, flat_map, AllByRecursion}
use Rattle.std.proofs.lemmas.List.{length-map}
use Rattle.std.proofs.lemmas.Bool.{and_parts, and_from}
use Rattle.tta_list.proofs.Lists.{all_append}
use Rattle.tta_link.specs.Cited.{Machine, IsMachine, Code, is_legal, IsLegalCode, PlacedItem, Placed, in_cycle}
use Rattle.tta_link.specs.Linked.{instruction_of, block_words, starts_from, IsLinked}
use Rattle.tta_link.specs.Blocks.{is_within, total_length, IsBlock, AreBlocks}
use Rattle.tta_link.specs.Put.{is_word_in}
use Rattle.tta_link.proofs.Legal.{AreLow, legal_cycle, length_range}

-- ---- lengths

length_words : (m : Machine) (addr : List ℕ) (ps : List Placed) → length (flat_map (block_words m addr) ps) ≡ total_length ps
length_words m addr [] = refl
length_words m addr (p ∷ ps) =
    length-append (block_words m addr p) (flat_map (block_words m addr) ps)
    ∙ ap (λ (n : ℕ). n + length (flat_map (block_words m addr) ps)) (length-map (range_with_len 0 p.length) (λ c. instruction_of m addr (in_cycle c p.items)) ∙ length_range 0 p.length)
    ∙ ap (λ (n : ℕ). p.length + n) (length_words m addr ps)

-- code has as many words as its blocks have cycles
pub linked_length : (m : Machine) (code : Code) (ps : List Placed) → IsLinked m code ps → length code.words ≡ total_length ps
linked_length m code ps linked = ap length linked ∙ length_words m (starts_from 0 ps) ps

-- ---- starts

-- a block begins before the end
low_starts : (a : ℕ) (ps : List Placed) (k : ℕ) → ((j : ℕ) (p : Placed) → slice_get ps j ≡ Some p → 1 ≤ p.length) → k < length ps → slice_index (starts_from a ps) k < a + total_length ps
low_starts a [] k long lt = absurd (omega arith)
low_starts a (p ∷ ps) zero long lt = let one = long 0 p refl in omega arith
low_starts a (p ∷ ps) (suc k) long lt = let ih = low_starts (a + p.length) ps k (λ j q e. long (suc j) q e) (omega arith) in omega arith

-- ---- legal words

append_all : {A : Type 0} (p : A → Bool) (xs ys : List A) → list_all p (xs ++ ys) ≡ true → (list_all p xs ≡ true) × (list_all p ys ≡ true)
append_all p [] ys h = (refl, h)
append_all p (x ∷ xs) ys h =
    let two = and_parts (p x) (list_all p (xs ++ ys)) h in
    let more = append_all p xs ys two.1 in
    (and_from (p x) (list_all p xs) two.0 more.0, more.1)

is_true : (b : Bool) → b ≡ true → IsTrue b
is_true true e = refl
is_true false e = absurd cc

within_filter : (p q : PlacedItem → Bool) (xs : List PlacedItem) → list_all p xs ≡ true → list_all p (filter q xs) ≡ true
within_filter p q [] h = refl
within_filter p q (x ∷ xs) h =
    let two = and_parts (p x) (list_all p xs) h in
    on (q x) two.0 (within_filter p q xs two.1) where
      on : (b : Bool) → p x ≡ true → list_all p (filter q xs) ≡ true → list_all p (if b then x ∷ filter q xs else filter q xs) ≡ true
      on true h ih = and_from (p x) (list_all p (filter q xs)) h ih
      on false h ih = ih

module _ (m : Machine) (rules : IsMachine m) (blocks : ℕ) (addr : List ℕ) (low : AreLow m blocks addr) where
  legal_cycles : (p : Placed) → IsBlock m blocks p → (a n : ℕ) → list_all is_word_in (map (λ c. instruction_of m addr (in_cycle c p.items)) (range_with_len a n)) ≡ true
      → AllByRecursion (λ i. IsTrue (is_legal m i)) (map (λ c. instruction_of m addr (in_cycle c p.items)) (range_with_len a n))
  legal_cycles p b a zero words = tt
  legal_cycles p b a (suc n) words =
      let two = and_parts (is_word_in (instruction_of m addr (in_cycle a p.items))) (list_all is_word_in (map (λ c. instruction_of m addr (in_cycle c p.items)) (range_with_len (a + 1) n))) words in
      let within = within_filter (λ (x : PlacedItem). is_within blocks x.item) (λ (x : PlacedItem). x.cycle == a) p.items b.addresses in
      (is_true (is_legal m (instruction_of m addr (in_cycle a p.items))) (legal_cycle m rules blocks addr low (in_cycle a p.items) (b.fits a) within two.0), legal_cycles p b (a + 1) n two.1)

  legal_blocks : (ps : List Placed) → ((k : ℕ) (p : Placed) → slice_get ps k ≡ Some p → IsBlock m blocks p) → list_all is_word_in (flat_map (block_words m addr) ps) ≡ true
      → AllByRecursion (λ i. IsTrue (is_legal m i)) (flat_map (block_words m addr) ps)
  legal_blocks [] each words = tt
  legal_blocks (p ∷ ps) each words =
      let two = append_all is_word_in (block_words m addr p) (flat_map (block_words m addr) ps) words in
      all_append (λ i. IsTrue (is_legal m i)) (block_words m addr p) (flat_map (block_words m addr) ps) (legal_cycles p (each 0 p refl) 0 p.length two.0)
      (legal_blocks ps (λ k q e. each (suc k) q e) two.1)

pub linked_legal : (m : Machine) → IsMachine m → (ps : List Placed) → AreBlocks m ps → (code : Code) → IsLinked m code ps → total_length ps ≤ 2 ^ m.control.address
    → list_all is_word_in code.words ≡ true → IsLegalCode m code
linked_legal m rules ps blocks code linked room words =
    let low : AreLow m (length ps) (starts_from 0 ps)
    = record { low = λ k lt. let h = low_starts 0 ps k (λ j p e. (blocks.each j p e).long) lt in omega arith } in
    let legal = legal_blocks m rules (length ps) (starts_from 0 ps) low ps blocks.each (subst (λ l. list_all is_word_in l ≡ true) linked words) in
    record {
      words = subst (AllByRecursion (λ i. IsTrue (is_legal m i))) (sym linked) legal;
      room = let e = linked_length m code ps linked in omega arith;
    }
