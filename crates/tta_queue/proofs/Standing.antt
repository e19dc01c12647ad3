-- Words in the memory of a queue, where one more comes and where the first goes.
use Rattle.std.proofs.Common.{◌≡◌, ◌≢◌, ℕ, suc, ◌+◌, ◌%◌, ◌/◌, ◌^◌, ◌<◌, ◌≤◌, ◌==◌, Bool, true, false, not, ◌&&◌, nat_lt, List, [], ◌∷◌, ◌++◌, length, drop, refl, sym, ap, ◌∙◌, arith, length-append, length-set, get_or-set_same, get_or-set_other, mod-eq_of_lt}
use Rattle.std.specs.Prelude.{if◌then◌else◌, slice_index, slice_set}
use Rattle.std.proofs.lemmas.List.{get_or-append-add, get_or_append_left}
use Rattle.std.proofs.lemmas.Bool.{ltb-true, ltb-false, eqb-true, eq-eqb, false≢true}
use Rattle.std.proofs.lemmas.Nat.{pow_pos, mod_below}
use Rattle.tta_queue.specs.Laws.{Stand}
use Rattle.tta_queue.proofs.Round.{mod_add, places_differ, low_bits}

-- the first goes
pub one_goes : (k head tail : ℕ) (memory words : List ℕ) → not (length words == 0) ≡ true → Stand k head tail memory words
    → Stand k ((head + 1) % 2 ^ (1 + k)) tail memory (drop 1 words)
one_goes k head tail memory [] some stand = absurd (false≢true some)
one_goes k head tail memory (x ∷ rest) some stand = record {
  first = stand.first + 1;
  starts = ap (λ n. (n + 1) % 2 ^ (1 + k)) stand.starts ∙ mod_add stand.first 1 (2 ^ (1 + k)) (pow_pos (1 + k));
  ends = stand.ends ∙ ap (λ n. n % 2 ^ (1 + k)) (one_on stand.first (length rest));
  fits = let le : suc (length rest) ≤ 2 ^ k = stand.fits in omega (arith, le);
  size = stand.size;
  places = λ i less. ap (λ n. slice_index memory (n % 2 ^ k)) (sym (one_on stand.first i)) ∙ stand.places (suc i) (omega (arith, less));
} where
  one_on : (a b : ℕ) → a + suc b ≡ (a + 1) + b
  one_on a b = omega arith

-- one more comes
pub one_comes : (k head tail word : ℕ) (memory words : List ℕ) → length words < 2 ^ k → Stand k head tail memory words
    → Stand k head ((tail + 1) % 2 ^ (1 + k)) (slice_set memory (tail / 2 ^ 0 % 2 ^ k) word) (words ++ word ∷ [])
one_comes k head tail word memory words room stand = record {
  first = stand.first;
  starts = stand.starts;
  ends =
      ap (λ n. (n + 1) % 2 ^ (1 + k)) stand.ends ∙ mod_add (stand.first + length words) 1 (2 ^ (1 + k)) (pow_pos (1 + k))
      ∙ ap (λ n. n % 2 ^ (1 + k)) (let l = longer in omega (arith, l));
  fits = omega (arith, longer, room);
  size = length-set memory place word ∙ stand.size;
  places = λ i less. by i less (nat_lt i (length words)) refl;
} where
  place : ℕ
  place = tail / 2 ^ 0 % 2 ^ k

  longer : length (words ++ word ∷ []) ≡ length words + 1
  longer = length-append words (word ∷ [])

  place_is : place ≡ (stand.first + length words) % 2 ^ k
  place_is = ap (λ n. n / 2 ^ 0 % 2 ^ k) stand.ends ∙ low_bits (stand.first + length words) k

  within : place < length memory
  within = let less : (stand.first + length words) % 2 ^ k < 2 ^ k =
      mod_below (stand.first + length words) (2 ^ k) (pow_pos k) in omega (arith, less, place_is, stand.size)

  by : (i : ℕ) → i < length (words ++ word ∷ []) → (b : Bool) → nat_lt i (length words) ≡ b
      → slice_index (slice_set memory place word) ((stand.first + i) % 2 ^ k) ≡ slice_index (words ++ word ∷ []) i
  by i less true is =
      let old : i < length words = ltb-true i (length words) is in
      let apart : (stand.first + i) % 2 ^ k ≢ place =
      λ same. places_differ stand.first i (length words) (2 ^ k) old room (same ∙ place_is) in
      get_or-set_other memory place ((stand.first + i) % 2 ^ k) word 0 apart ∙ stand.places i old
      ∙ sym (get_or_append_left words (word ∷ []) 0 i old)
  by i less false is =
      let new : i ≡ length words + 0 = (let no = ltb-false i (length words) is in let l = longer in omega (arith, no, l, less)) in
      let here : (stand.first + i) % 2 ^ k ≡ place = ap (λ n. (stand.first + n) % 2 ^ k) (new ∙ add_none (length words)) ∙ sym place_is in
      ap (slice_index (slice_set memory place word)) here ∙ get_or-set_same memory place word 0 within
      ∙ sym (ap (slice_index (words ++ word ∷ [])) new ∙ get_or-append-add words (word ∷ []) 0 0)
    where
      add_none : (n : ℕ) → n + 0 ≡ n
      add_none n = omega arith

-- words stand so where what holds them is the same
pub stands_alike : {k head head' tail tail' : ℕ} {memory memory' words : List ℕ} → head ≡ head' → tail ≡ tail' → memory ≡ memory'
    → Stand k head' tail' memory' words → Stand k head tail memory words
stands_alike {k} heads tails memories stand = record {
  first = stand.first;
  starts = heads ∙ stand.starts;
  ends = tails ∙ stand.ends;
  fits = stand.fits;
  size = ap length memories ∙ stand.size;
  places = λ i less. ap (λ (ms : List ℕ). slice_index ms ((stand.first + i) % 2 ^ k)) memories ∙ stand.places i less;
}

-- no words
pub none_stand : (k : ℕ) (memory : List ℕ) → length memory ≡ 2 ^ k → Stand k 0 0 memory []
none_stand k memory size = record {
  first = 0;
  starts = sym (mod-eq_of_lt (pow_pos (1 + k)));
  ends = sym (mod-eq_of_lt (pow_pos (1 + k)));
  fits = omega arith;
  size = size;
  places = λ i less. absurd (omega (arith, less));
}

-- The word that is the first after a clock: the one that comes, where it goes to the place of the first, and else the one that stands there
-- before it comes.
pub first_after : (k head tail word : ℕ) (memory words : List ℕ) (comes : Bool) → (comes ≡ true → length words < 2 ^ k)
    → Stand k head tail memory words → (w : ℕ) (rest : List ℕ) → words ++ (if comes then word ∷ [] else []) ≡ w ∷ rest
    → (if comes && (tail / 2 ^ 0 % 2 ^ k == head / 2 ^ 0 % 2 ^ k) then word else slice_index memory (head / 2 ^ 0 % 2 ^ k)) ≡ w
first_after k head tail word memory [] true room stand w rest is =
    let same : tail ≡ head = stand.ends ∙ ap (λ n. n % 2 ^ (1 + k)) (none_on stand.first) ∙ sym stand.starts in
    let here : (tail / 2 ^ 0 % 2 ^ k == head / 2 ^ 0 % 2 ^ k) ≡ true =
    eq-eqb (tail / 2 ^ 0 % 2 ^ k) (head / 2 ^ 0 % 2 ^ k) (ap (λ n. n / 2 ^ 0 % 2 ^ k) same) in
    ap (λ b. if b then word else slice_index memory (head / 2 ^ 0 % 2 ^ k)) here ∙ cc
  where
    none_on : (n : ℕ) → n + 0 ≡ n
    none_on n = omega arith
first_after k head tail word memory [] false room stand w rest is = absurd cc
first_after k head tail word memory (x ∷ xs) comes room stand w rest is = by comes refl (tail / 2 ^ 0 % 2 ^ k == head / 2 ^ 0 % 2 ^ k) refl where
  here : slice_index memory (head / 2 ^ 0 % 2 ^ k) ≡ w
  here =
      ap (λ n. slice_index memory (n / 2 ^ 0 % 2 ^ k)) stand.starts
      ∙ ap (slice_index memory) (low_bits stand.first k ∙ ap (λ n. n % 2 ^ k) (none_more stand.first)) ∙ stand.places 0 (omega arith) ∙ cc
    where
      none_more : (n : ℕ) → n ≡ n + 0
      none_more n = omega arith

  apart : length (x ∷ xs) < 2 ^ k → tail / 2 ^ 0 % 2 ^ k ≢ head / 2 ^ 0 % 2 ^ k
  apart less same = places_differ stand.first 0 (length (x ∷ xs)) (2 ^ k) (omega arith) less
      (ap (λ n. n % 2 ^ k) (none_on stand.first) ∙ sym (low_bits stand.first k) ∙ ap (λ n. n / 2 ^ 0 % 2 ^ k) (sym stand.starts) ∙ sym same
      ∙ ap (λ n. n / 2 ^ 0 % 2 ^ k) stand.ends ∙ low_bits (stand.first + length (x ∷ xs)) k)
    where
      none_on : (n : ℕ) → n + 0 ≡ n
      none_on n = omega arith

  by : (c : Bool) → comes ≡ c → (b : Bool) → (tail / 2 ^ 0 % 2 ^ k == head / 2 ^ 0 % 2 ^ k) ≡ b
      → (if c && b then word else slice_index memory (head / 2 ^ 0 % 2 ^ k)) ≡ w
  by true comes_is true same = absurd (apart (room comes_is) (eqb-true (tail / 2 ^ 0 % 2 ^ k) (head / 2 ^ 0 % 2 ^ k) same))
  by true comes_is false same = here
  by false comes_is b same = here
