-- Words of a row that are replaced, and rows that grow.
use Rattle.std.proofs.Common.{◌≡◌, ◌≢◌, ◌<◌, ◌≤◌, ◌/◌, ◌%◌, ◌+◌, ◌-◌, ◌^◌, ℕ, zero, suc, Bool, true, false, List, [], ◌∷◌, length, get_or, set, take, refl, sym, ap, subst, ◌∙◌, ◌⊎◌, inl, inr, arith}
use Rattle.std.specs.Prelude.{◌==◌, ◌||◌, ◌&&◌, not, nat_lt, bit_or, bit_and}
use Rattle.std.proofs.Common.{w64}
use Rattle.std.specs.Int.{bit_at}
use Rattle.std.specs.List.{list_any}
use Rattle.std.proofs.lemmas.Bool.{cases_eq, eq-eqb, ne_eqb, lt-ltb, le-ltb}
use Rattle.std.proofs.lemmas.Bool.Decides.{nat_tests}
use Rattle.std.proofs.lemmas.Nat.{le_or_l}
use Rattle.std.proofs.lemmas.Nat.Bits.{bit_at-zero, bit_at-lt, bit_at_and, bit_at_not, bit_at-pow_same, bit_at-pow_other}
use Rattle.std.proofs.lemmas.List.{take_all}
use Rattle.std.proofs.lemmas.List.Folds.{list_any_more}
use Rattle.std.proofs.Common.{get_or-set_same, get_or-set_other}
use Rattle.std.proofs.Math.Bool.{or-true, or-false, and-true}
use Rattle.tta_flow.specs.declared.bits.BitRow.{BitRow}
use Rattle.tta_flow.specs.Bits.{has}
use Rattle.tta_flow.specs.Growth.{spare_words, Grows, Sets}
use Rattle.tta_flow.proofs.BitLemmas.{is_bit-or}
use Rattle.tta_list.proofs.Tests.{both_bits}
use Rattle.tta_list.proofs.Lists.{past_end}

-- ---- a word is replaced

-- the bit of a word among others
abbrev pub bit_in : List ℕ → ℕ → Bool
bit_in words k = bit_at (get_or words (k / 64) 0) (k % 64) == 1

module _ (words : List ℕ) (at : ℕ) (below : at < length words) where
  pub replaced : (word k : ℕ) (test : Bool) → (k / 64 ≡ at → (bit_at word (k % 64) == 1) ≡ test) → (k / 64 ≢ at → bit_in words k ≡ test)
      → bit_in (set words at word) k ≡ test
  replaced word k test here there = elim (cases_eq (k / 64) at) [
    | inl e ↦ ap (λ n. bit_at n (k % 64) == 1) (ap (λ i. get_or (set words at word) i 0) e ∙ get_or-set_same words at word 0 below) ∙ here e
    | inr other ↦ ap (λ n. bit_at n (k % 64) == 1) (get_or-set_other words at (k / 64) word 0 other) ∙ there other
  ]

  -- bits of a word are added
  pub or_word : (word k : ℕ)
      → bit_in (set words at (bit_or (get_or words at 0) word)) k ≡ (bit_in words k || (k / 64 == at && bit_at word (k % 64) == 1))
  or_word word k = replaced (bit_or (get_or words at 0) word) k _
      (λ e. is_bit-or (get_or words at 0) word (k % 64)
      ∙ ap (λ i. bit_at (get_or words i 0) (k % 64) == 1 || bit_at word (k % 64) == 1) (sym e)
      ∙ ap (λ b. bit_in words k || (b && bit_at word (k % 64) == 1)) (sym (eq-eqb (k / 64) at e)))
      (λ other. sym (or-false (bit_in words k)) ∙ ap (λ b. bit_in words k || (b && bit_at word (k % 64) == 1)) (sym (ne_eqb (k / 64) at other)))

  -- bits that are there already
  pub or_same : (word k : ℕ) → bit_or (get_or words at 0) word ≡ get_or words at 0
      → bit_in words k ≡ (bit_in words k || (k / 64 == at && bit_at word (k % 64) == 1))
  or_same word k e =
      sym (replaced (get_or words at 0) k (bit_in words k) (λ s. ap (λ i. bit_at (get_or words i 0) (k % 64) == 1) (sym s)) (λ other. refl))
      ∙ ap (λ w. bit_in (set words at w) k) (sym e) ∙ or_word word k

pub spare_set : (words : List ℕ) (at word : ℕ) → at < length words
    → spare_words (set words at word) + (2 ^ 64 - get_or words at 0) ≡ spare_words words + (2 ^ 64 - word)
spare_set [] at word below = absurd (omega arith)
spare_set (w ∷ ws) zero word below = omega arith
spare_set (w ∷ ws) (suc at) word below = let e = spare_set ws at word (omega arith) in omega arith

pub spare_less : (words : List ℕ) (at word new : ℕ) → at < length words → new ≡ bit_or (get_or words at 0) word → new < 2 ^ 64
    → new ≢ get_or words at 0 → spare_words (set words at new) < spare_words words
spare_less words at word new below is small other =
    let e = spare_set words at new below in
    let l = le_or_l (get_or words at 0) word in
    let n : get_or words at 0 < new = apart (let m = is in omega arith) other in
    omega arith
  where
    apart : {a b : ℕ} → a ≤ b → b ≢ a → a < b
    apart {a = a} {b = b} l n = elim (cases_eq b a) [
      | inl e ↦ absurd (n e)
      | inr m ↦ grind arith
    ]

-- ---- a bit is unset

module _ (words : List ℕ) (bit k word one : ℕ) (below : bit / 64 < length words) (is : word ≡ get_or words (bit / 64) 0)
    (single : one ≡ 2 ^ (bit % 64)) (small : one < 2 ^ 64) where
  rest : ℕ
  rest = 18446744073709551615 - one

  rest_bit : bit_at (18446744073709551615 - one) (k % 64) ≡ 1 - bit_at one (k % 64)
  rest_bit = bit_at_not w64 one (k % 64) small (omega arith)

  in_word : bit_at (bit_and word (18446744073709551615 - one)) (k % 64) == 1
      ≡ (bit_at word (k % 64) == 1 && (1 - bit_at one (k % 64)) == 1)
  in_word =
      ap (λ n. n == 1) (bit_at_and word (18446744073709551615 - one) (k % 64))
      ∙ both_bits (bit_at word (k % 64)) (bit_at (18446744073709551615 - one) (k % 64)) (bit_at-lt word (k % 64)) (bit_at-lt (18446744073709551615 - one) (k % 64))
      ∙ ap (λ n. bit_at word (k % 64) == 1 && n == 1) rest_bit

  one_here : (k % 64 ≡ bit % 64) ⊎ (k % 64 ≢ bit % 64) → k / 64 ≡ bit / 64 → ((1 - bit_at one (k % 64)) == 1) ≡ not (bit == k)
  one_here (inl e) s =
      let alike : bit ≡ k = omega arith in
      ap (λ n. (1 - n) == 1) (ap (λ o. bit_at o (k % 64)) single ∙ ap (bit_at (2 ^ (bit % 64))) e ∙ bit_at-pow_same (bit % 64))
      ∙ sym (ap not (eq-eqb bit k alike))
  one_here (inr n) s =
      ap (λ n. (1 - n) == 1) (ap (λ o. bit_at o (k % 64)) single ∙ bit_at-pow_other (bit % 64) (k % 64) n)
      ∙ sym (ap not (ne_eqb bit k (λ e. n (ap (λ i. i % 64) (sym e)))))

  pub unset_bit : bit_in (set words (bit / 64) (bit_and word (18446744073709551615 - one))) k ≡ (bit_in words k && not (bit == k))
  unset_bit = replaced words (bit / 64) below (bit_and word (18446744073709551615 - one)) k _
      (λ e. in_word ∙ ap (λ b. bit_at word (k % 64) == 1 && b) (one_here (cases_eq (k % 64) (bit % 64)) e)
      ∙ ap (λ n. bit_at n (k % 64) == 1 && not (bit == k)) (is ∙ ap (λ i. get_or words i 0) (sym e)))
      (λ other. sym (ap (λ b. bit_in words k && b) (ap not (ne_eqb bit k (λ e. other (ap (λ i. i / 64) (sym e))))) ∙ and-true (bit_in words k)))

-- ---- all words are 0

pub zero_more : (words : List ℕ) (at k : ℕ) → at < length words → ((j : ℕ) → j / 64 < at → bit_in words j ≡ false) → k / 64 < at + 1
    → bit_in (set words at 0) k ≡ false
zero_more words at k below none small =
    replaced words at below 0 k false (λ e. ap (λ n. n == 1) (bit_at-zero (k % 64))) (λ other. none k (earlier other))
  where
    earlier : k / 64 ≢ at → k / 64 < at
    earlier other = elim (cases_eq (k / 64) at) [
      | inl e ↦ absurd (other e)
      | inr m ↦ grind arith
    ]

-- ---- bits past the end

pub has_past : (row : BitRow) (k : ℕ) → length row.words.items ≤ k / 64 → has row k ≡ false
has_past row k past =
    ap (λ n. bit_at n (k % 64) == 1) (past_end row.words.items (k / 64) past) ∙ ap (λ n. n == 1) (bit_at-zero (k % 64))

pub has_within : (row : BitRow) (k : ℕ) → has row k ≡ true → k / 64 < length row.words.items
has_within row k e = by (nat_lt (k / 64) (length row.words.items)) refl where
  by : (b : Bool) → nat_lt (k / 64) (length row.words.items) ≡ b → k / 64 < length row.words.items
  by true t = grind (arith, nat_tests)
  by false t = let past : length row.words.items ≤ k / 64 = grind (arith, nat_tests) in no (sym e ∙ has_past row k past) where
    no : {A : Type 0} → true ≡ false → A
    no f = absurd cc

pub zero_all : (row : BitRow) (at : ℕ) → length row.words.items ≤ at → ((j : ℕ) → j / 64 < at → has row j ≡ false) → (k : ℕ) → has row k ≡ false
zero_all row at past none k = by (nat_lt (k / 64) at) refl where
  by : (b : Bool) → nat_lt (k / 64) at ≡ b → has row k ≡ false
  by true e = none k (grind (arith, nat_tests))
  by false e = has_past row k (grind (arith, nat_tests))

-- ---- rows that grow

pub grows_none : (row : BitRow) → Grows false row row
grows_none row = record { room = refl; same = λ e. refl; less = λ e. no e } where
  no : {A : Type 0} → false ≡ true → A
  no f = absurd cc

pub grows_then : (s t : Bool) (a b c : BitRow) → Grows s a b → Grows t b c → Grows (s || t) a c
grows_then false false a b c one two = record { room = two.room ∙ one.room; same = λ e. two.same refl ∙ one.same refl; less = λ e. no e } where
  no : {A : Type 0} → false ≡ true → A
  no f = absurd cc
grows_then false true a b c one two = record {
  room = two.room ∙ one.room;
  same = λ e. no e;
  less = λ e. let l = two.less refl in let s = ap spare_words (one.same refl) in omega arith;
} where
  no : {A : Type 0} → true ≡ false → A
  no f = absurd cc
grows_then true false a b c one two = record {
  room = two.room ∙ one.room;
  same = λ e. no e;
  less = λ e. let l = one.less refl in let s = ap spare_words (two.same refl) in omega arith;
} where
  no : {A : Type 0} → true ≡ false → A
  no f = absurd cc
grows_then true true a b c one two = record {
  room = two.room ∙ one.room;
  same = λ e. no e;
  less = λ e. let l = one.less refl in let m = two.less refl in omega arith;
} where
  no : {A : Type 0} → true ≡ false → A
  no f = absurd cc

-- the words of another row are taken one by one
pub record Absorbs (other : BitRow) (words : ℕ) (grown : Bool) (old new : BitRow) : Type 0 where
  pub bits : (k : ℕ) → has new k ≡ (has old k || (nat_lt (k / 64) words && has other k))
  pub grows : Grows grown old new

pub absorbs_none : (other row : BitRow) → Absorbs other 0 false row row
absorbs_none other row = record {
  bits = λ k. sym (ap (λ b. has row k || (b && has other k)) (le-ltb (k / 64) 0 (omega arith)) ∙ or-false (has row k));
  grows = grows_none row;
}

pub absorbs_more : (other : BitRow) (words word : ℕ) (s t r : Bool) (a b c : BitRow) → word ≡ get_or other.words.items words 0 → r ≡ (s || t)
    → Absorbs other words s a b → ((k : ℕ) → has c k ≡ (has b k || (k / 64 == words && bit_at word (k % 64) == 1))) → Grows t b c
    → Absorbs other (words + 1) r a c
absorbs_more other words word s t r a b c is either one two grows = record {
  bits = λ k. two k ∙ ap (λ r. r || (k / 64 == words && bit_at word (k % 64) == 1)) (one.bits k) ∙ by k (cases_eq (k / 64) words);
  grows = subst (λ (g : Bool). Grows g a c) (sym either) (grows_then s t a b c one.grows grows);
} where
  by : (k : ℕ) → (k / 64 ≡ words) ⊎ (k / 64 ≢ words)
      → ((has a k || (nat_lt (k / 64) words && has other k)) || (k / 64 == words && bit_at word (k % 64) == 1))
      ≡ (has a k || (nat_lt (k / 64) (words + 1) && has other k))
  by k (inl e) =
      let not_yet : nat_lt (k / 64) words ≡ false = le-ltb (k / 64) words (omega arith) in
      let now : nat_lt (k / 64) (words + 1) ≡ true = lt-ltb (k / 64) (words + 1) (omega arith) in
      let same : (bit_at word (k % 64) == 1) ≡ has other k = ap (λ n. bit_at n (k % 64) == 1) (is ∙ ap (λ i. get_or other.words.items i 0) (sym e)) in
      rw (not_yet, now, eq-eqb (k / 64) words e, same, or-false (has a k)) refl
  by k (inr n) =
      let same : nat_lt (k / 64) (words + 1) ≡ nat_lt (k / 64) words = grind (arith, nat_tests) in
      rw (same, ne_eqb (k / 64) words n) (or-false (has a k || (nat_lt (k / 64) words && has other k)))

pub absorbs_all : (other : BitRow) (words : ℕ) (grown : Bool) (old new : BitRow) → length other.words.items ≤ words → Absorbs other words grown old new
    → (k : ℕ) → has new k ≡ (has old k || has other k)
absorbs_all other words grown old new past h k = h.bits k ∙ by (nat_lt (k / 64) words) refl where
  by : (b : Bool) → nat_lt (k / 64) words ≡ b → (has old k || (nat_lt (k / 64) words && has other k)) ≡ (has old k || has other k)
  by true e = ap (λ b. has old k || (b && has other k)) e
  by false e =
      let far : length other.words.items ≤ k / 64 = grind (arith, nat_tests) in
      ap (λ b. has old k || (b && has other k)) e ∙ ap (λ b. has old k || b) (sym (has_past other k far))

-- as far as there is room
pub absorbs_sets : (other : BitRow) (words : ℕ) (grown : Bool) (old new : BitRow) → length old.words.items ≤ words → Absorbs other words grown old new
    → Sets (has other) old new
absorbs_sets other words grown old new past h = record {
  room = h.grows.room;
  bits = λ k there. h.bits k ∙ ap (λ b. has old k || (b && has other k)) (lt-ltb (k / 64) words (omega arith));
}

-- a word with all bits of another
pub covered : (words others : List ℕ) (at : ℕ) → bit_or (get_or words at 0) (get_or others at 0) ≡ get_or words at 0
    → (k : ℕ) → k / 64 ≡ at → bit_in others k ≡ true → bit_in words k ≡ true
covered words others at same k here e =
    ap (λ i. bit_at (get_or words i 0) (k % 64) == 1) here ∙ ap (λ n. bit_at n (k % 64) == 1) (sym same)
    ∙ is_bit-or (get_or words at 0) (get_or others at 0) (k % 64)
    ∙ ap (λ b. bit_at (get_or words at 0) (k % 64) == 1 || b) (ap (λ i. bit_at (get_or others i 0) (k % 64) == 1) (sym here) ∙ e)
    ∙ or-true (bit_at (get_or words at 0) (k % 64) == 1)

-- ---- numbers that are put into a row

pub sets_none : (row : BitRow) → Sets (λ k. false) row row
sets_none row = record { room = refl; bits = λ k there. sym (or-false (has row k)) }

pub sets_then : (t u : ℕ → Bool) (a b c : BitRow) → Sets t a b → Sets u b c → Sets (λ k. t k || u k) a c
sets_then t u a b c one two = record {
  room = two.room ∙ one.room;
  bits = λ k there. two.bits k (let r = one.room in omega arith) ∙ ap (λ r. r || u k) (one.bits k there) ∙ both (has a k) (t k) (u k);
} where
  both : (x y z : Bool) → ((x || y) || z) ≡ (x || (y || z))
  both true y z = refl
  both false y z = refl

pub sets_same : (t u : ℕ → Bool) (a b : BitRow) → ((k : ℕ) → t k ≡ u k) → Sets t a b → Sets u a b
sets_same t u a b same h = record { room = h.room; bits = λ k there. h.bits k there ∙ ap (λ r. has a k || r) (same k) }

-- numbers that pass a test of the elements of a list, taken one by one
module _ {A : Type 0} (f : A → ℕ → Bool) (xs : List A) where
  pub each_none : (row : BitRow) → Sets (λ k. list_any (λ x. f x k) (take 0 xs)) row row
  each_none row = sets_none row

  pub each_more : (i : ℕ) (d : A) (a b c : BitRow) → i < length xs → Sets (λ k. list_any (λ x. f x k) (take i xs)) a b → Sets (f (get_or xs i d)) b c
      → Sets (λ k. list_any (λ x. f x k) (take (i + 1) xs)) a c
  each_more i d a b c below one two =
      sets_same (λ k. list_any (λ x. f x k) (take i xs) || f (get_or xs i d) k) (λ k. list_any (λ x. f x k) (take (i + 1) xs)) a c
      (λ k. sym (list_any_more (λ x. f x k) xs i d below))
      (sets_then (λ k. list_any (λ x. f x k) (take i xs)) (f (get_or xs i d)) a b c one two)

  pub each_all : (i : ℕ) (a b : BitRow) → length xs ≤ i → Sets (λ k. list_any (λ x. f x k) (take i xs)) a b → Sets (λ k. list_any (λ x. f x k) xs) a b
  each_all i a b past h =
      sets_same (λ k. list_any (λ x. f x k) (take i xs)) (λ k. list_any (λ x. f x k) xs) a b (λ k. ap (λ l. list_any (λ x. f x k) l) (take_all i xs past)) h
