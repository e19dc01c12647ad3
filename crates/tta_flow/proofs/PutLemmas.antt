-- A variable is put into rows.
use Rattle.std.proofs.Common.{◌≡◌, ◌≢◌, ◌<◌, ◌≤◌, ◌/◌, ◌+◌, ◌-◌, ℕ, Bool, true, false, List, [], ◌∷◌, ◌++◌, length, get_or, take, Option, Some, None, refl, sym, ap, ◌∙◌, ◌⊎◌, inl, inr, arith, length-append}
use Rattle.std.specs.Prelude.{◌==◌, ◌||◌, ◌&&◌, not, slice_get, slice_set, is_some}
use Rattle.std.specs.Option.{option_map_or}
use Rattle.std.proofs.lemmas.Bool.{cases_eq, eq-eqb, ne_eqb}
use Rattle.std.proofs.lemmas.Option.{slice_get_read, slice_get_within}
use Rattle.std.proofs.lemmas.List.{length-set, take_all}
use Rattle.std.proofs.lemmas.List.Folds.{list_any_more, list_any_at}
use Rattle.std.proofs.Math.Bool.{or-false, and-true}
use Rattle.tta_list.proofs.Lists.{some_within}
use Rattle.tta_flow.specs.Cited.{Step}
use Rattle.tta_flow.specs.declared.bits.BitRow.{BitRow}
use Rattle.tta_flow.specs.declared.settle.Settling.{Settling}
use Rattle.tta_flow.specs.Bits.{has}
use Rattle.tta_flow.specs.Rows.{has_at, AreWide}
use Rattle.tta_flow.specs.Search.{is_found, count_below}
use Rattle.tta_flow.specs.Settle.{words_at, Fits, AreAlike, ahead, Puts}
use Rattle.tta_flow.specs.Steps.{follows, leads, assigns, assigns_at}
use Rattle.tta_flow.proofs.Reaching.{test_there, test_within}
use Rattle.tta_flow.proofs.RowLemmas.{no}
use Rattle.tta_flow.proofs.Searches.{count_le, count_one, found_more}
use Rattle.tta_list.proofs.Sets.{set_same as get_set_same, set_other as get_set_other}

-- ---- the room of rows

pub alike_none : (rows : List BitRow) → AreAlike rows rows
alike_none rows = record { count = refl; words = λ k. refl }

pub alike_then : (a b c : List BitRow) → AreAlike a b → AreAlike b c → AreAlike a c
alike_then a b c one two = record { count = two.count ∙ one.count; words = λ k. two.words k ∙ one.words k }

pub alike_fits : (x : ℕ) (a b : List BitRow) → AreAlike a b → Fits x a → Fits x b
alike_fits x a b h fits k below = let c = h.count in let f = fits k (omega arith) in let w = h.words k in omega arith

-- the words of a row that is there
row_words : (rows : List BitRow) (k : ℕ) (row : BitRow) → slice_get rows k ≡ Some row → words_at rows k ≡ length row.words.items
row_words rows k row is = ap (λ o. option_map_or (λ r. length r.words.items) o 0) is

pub alike_wide : (words : ℕ) (a b : List BitRow) → AreAlike a b → AreWide a words → AreWide b words
alike_wide words a b h wide k row is = by (slice_get a k) refl where
  by : (o : Option BitRow) → slice_get a k ≡ o → length row.words.items ≡ words
  by None none =
      let below = slice_get_within b k row is in
      let c = h.count in
      no (sym (some_within a k (omega arith)) ∙ ap is_some none)
  by (Some r) there = sym (row_words b k row is) ∙ h.words k ∙ row_words a k r there ∙ wide k r there

pub wide_fits : (x words : ℕ) (rows : List BitRow) → AreWide rows words → x / 64 < words → Fits x rows
wide_fits x words rows wide small k below = by (slice_get rows k) refl where
  by : (o : Option BitRow) → slice_get rows k ≡ o → x / 64 < words_at rows k
  by None none = no (sym (some_within rows k below) ∙ ap is_some none)
  by (Some r) there = let w = row_words rows k r there in let e = wide k r there in omega arith

-- there is room in a row
pub fits_row : (x k : ℕ) (rows : List BitRow) (row : BitRow) → Fits x rows → k < length rows → row ≡ get_or rows k row → x / 64 < length row.words.items
fits_row x k rows row fits below is =
    let w = row_words rows k row (slice_get_read rows (length rows) k row refl below is) in
    let f = fits k below in
    omega arith

-- ---- one row

pub has_there : (rows : List BitRow) (at k : ℕ) (row : BitRow) → at < length rows → row ≡ get_or rows at row → has_at rows at k ≡ has row k
has_there rows at k row below is = ap (λ o. option_map_or (λ (r : BitRow). has r k) o false) (slice_get_read rows (length rows) at row refl below is)

module _ (place x : ℕ) (row : BitRow) (old : Settling) (below : place < length old.rows.items) (is : row ≡ get_or old.rows.items place row) where
  row_there : slice_get old.rows.items place ≡ Some row
  row_there = slice_get_read old.rows.items (length old.rows.items) place row refl below is

  has_row : (y : ℕ) → has_at old.rows.items place y ≡ has row y
  has_row y = has_there old.rows.items place y row below is

  -- the variable is new there
  pub put_new : (filled : BitRow) (new : Settling) → has row x ≡ false → new.rows.items ≡ slice_set old.rows.items place filled → ((k : ℕ) → has filled k ≡ (has row k || x == k))
      → length filled.words.items ≡ length row.words.items → new.stack.items ≡ old.stack.items ++ place ∷ [] → Puts (λ k. place == k) x old new
  put_new filled new clear set bits room stack = record {
    alike = record { count = size; words = λ k. words k (cases_eq place k) };
    bits = λ k y. bits_is k y (cases_eq place k);
    stack = λ k. ap (λ l. is_found l k) stack ∙ found_more old.stack.items place k ∙ ap (λ b. is_found old.stack.items k || b) (waits k (cases_eq place k));
    ahead = fewer;
  } where
    size : length new.rows.items ≡ length old.rows.items
    size = ap length set ∙ length-set old.rows.items place filled

    filled_there : slice_get new.rows.items place ≡ Some filled
    filled_there = ap (λ l. slice_get l place) set ∙ get_set_same old.rows.items place filled below

    other_rows : (k : ℕ) → place ≢ k → slice_get new.rows.items k ≡ slice_get old.rows.items k
    other_rows k other = ap (λ l. slice_get l k) set ∙ get_set_other old.rows.items place k filled other

    words : (k : ℕ) → (place ≡ k) ⊎ (place ≢ k) → words_at new.rows.items k ≡ words_at old.rows.items k
    words k (inl e) =
        ap (words_at new.rows.items) (sym e) ∙ row_words new.rows.items place filled filled_there ∙ room
        ∙ sym (row_words old.rows.items place row row_there) ∙ ap (words_at old.rows.items) e
    words k (inr other) = ap (λ o. option_map_or (λ (r : BitRow). length r.words.items) o 0) (other_rows k other)

    bits_is : (k y : ℕ) → (place ≡ k) ⊎ (place ≢ k) → has_at new.rows.items k y ≡ (has_at old.rows.items k y || (place == k && x == y))
    bits_is k y (inl e) =
        ap (λ n. has_at new.rows.items n y) (sym e) ∙ ap (λ o. option_map_or (λ (r : BitRow). has r y) o false) filled_there ∙ bits y
        ∙ ap (λ b. b || x == y) (sym (has_row y) ∙ ap (λ n. has_at old.rows.items n y) e)
        ∙ sym (ap (λ b. has_at old.rows.items k y || (b && x == y)) (eq-eqb place k e))
    bits_is k y (inr other) =
        ap (λ o. option_map_or (λ (r : BitRow). has r y) o false) (other_rows k other)
        ∙ sym (ap (λ b. has_at old.rows.items k y || (b && x == y)) (ne_eqb place k other) ∙ or-false (has_at old.rows.items k y))

    waits : (k : ℕ) → (place ≡ k) ⊎ (place ≢ k) → (place == k) ≡ (place == k && not (has_at old.rows.items k x))
    waits k (inl e) =
        let none : has_at old.rows.items k x ≡ false = ap (λ n. has_at old.rows.items n x) (sym e) ∙ has_row x ∙ clear in
        sym (ap (λ b. place == k && not b) none ∙ and-true (place == k))
    waits k (inr other) = ne_eqb place k other ∙ sym (ap (λ b. b && not (has_at old.rows.items k x)) (ne_eqb place k other))

    one : (k : ℕ) → has_at new.rows.items k x ≡ (has_at old.rows.items k x || place == k)
    one k = bits_is k x (cases_eq place k)
        ∙ ap (λ b. has_at old.rows.items k x || b) (ap (λ b. place == k && b) (eq-eqb x x refl) ∙ and-true (place == k))

    fewer : ahead x new ≤ ahead x old
    fewer =
        let same = ap (λ n. (n - count_below (λ k. has_at new.rows.items k x) n) + length new.stack.items) size in
        let few = count_le (λ k. has_at new.rows.items k x) (length old.rows.items) in
        let more = count_one (λ k. has_at old.rows.items k x) (λ k. has_at new.rows.items k x) place (length old.rows.items) below (has_row x ∙ clear) one in
        let long = ap length stack ∙ length-append old.stack.items (place ∷ []) in
        omega arith

-- ---- several rows

pub puts_none : (x : ℕ) (s : Settling) → Puts (λ k. false) x s s
puts_none x s = record {
  alike = alike_none s.rows.items;
  bits = λ k y. sym (or-false (has_at s.rows.items k y));
  stack = λ k. sym (or-false (is_found s.stack.items k));
  ahead = omega arith;
}

pub puts_same : (t u : ℕ → Bool) (x : ℕ) (a b : Settling) → ((k : ℕ) → t k ≡ u k) → Puts t x a b → Puts u x a b
puts_same t u x a b same h = record {
  alike = h.alike;
  bits = λ k y. h.bits k y ∙ ap (λ r. has_at a.rows.items k y || (r && x == y)) (same k);
  stack = λ k. h.stack k ∙ ap (λ r. is_found a.stack.items k || (r && not (has_at a.rows.items k x))) (same k);
  ahead = h.ahead;
}

pub puts_then : (t u : ℕ → Bool) (x : ℕ) (a b c : Settling) → Puts t x a b → Puts u x b c → Puts (λ k. t k || u k) x a c
puts_then t u x a b c one two = record {
  alike = alike_then a.rows.items b.rows.items c.rows.items one.alike two.alike;
  bits = λ k y. two.bits k y ∙ ap (λ r. r || (u k && x == y)) (one.bits k y) ∙ both (has_at a.rows.items k y) (t k) (u k) (x == y);
  stack = λ k. two.stack k ∙ ap (λ r. r || (u k && not (has_at b.rows.items k x))) (one.stack k)
      ∙ ap (λ r. (is_found a.stack.items k || (t k && not (has_at a.rows.items k x))) || (u k && not r)) (held k)
      ∙ waits (is_found a.stack.items k) (t k) (u k) (has_at a.rows.items k x);
  ahead = let l = one.ahead in let m = two.ahead in omega arith;
} where
  held : (k : ℕ) → has_at b.rows.items k x ≡ (has_at a.rows.items k x || t k)
  held k = one.bits k x ∙ ap (λ r. has_at a.rows.items k x || r) (ap (λ r. t k && r) (eq-eqb x x refl) ∙ and-true (t k))

  both : (h t u e : Bool) → ((h || (t && e)) || (u && e)) ≡ (h || ((t || u) && e))
  both true t u e = refl
  both false true u true = refl
  both false true true false = refl
  both false true false false = refl
  both false false u e = refl

  waits : (f t u h : Bool) → ((f || (t && not h)) || (u && not (h || t))) ≡ (f || ((t || u) && not h))
  waits true t u h = refl
  waits false true true true = refl
  waits false true false true = refl
  waits false true u false = refl
  waits false false u true = refl
  waits false false u false = refl

-- a step that does not assign a variable, or does
pub kept_test : (steps : List Step) (place x : ℕ) (step : Step) (b : Bool) → place < length steps → step ≡ get_or steps place step
    → b ≡ not (assigns step x) → (k : ℕ) → (place == k && b) ≡ (place == k && not (assigns_at steps k x))
kept_test steps place x step b below is keeps k = by (cases_eq place k) where
  by : (place ≡ k) ⊎ (place ≢ k) → (place == k && b) ≡ (place == k && not (assigns_at steps k x))
  by (inl e) = ap (λ r. place == k && r)
      (keeps ∙ ap not (sym (test_there (λ s. assigns s x) steps place step below is) ∙ ap (λ n. assigns_at steps n x) e))
  by (inr other) = ap (λ r. r && b) (ne_eqb place k other) ∙ sym (ap (λ r. r && not (assigns_at steps k x)) (ne_eqb place k other))

pub kept_put : (steps : List Step) (place x : ℕ) (step : Step) (b : Bool) (old new : Settling) → place < length steps → step ≡ get_or steps place step
    → b ≡ not (assigns step x) → Puts (λ k. place == k && b) x old new → Puts (λ k. place == k && not (assigns_at steps k x)) x old new
kept_put steps place x step b old new below is keeps h =
    puts_same (λ k. place == k && b) (λ k. place == k && not (assigns_at steps k x)) x old new (kept_test steps place x step b below is keeps) h

pub put_true : (place x : ℕ) (b : Bool) (old new : Settling) → b ≡ true → Puts (λ k. place == k) x old new → Puts (λ k. place == k && b) x old new
put_true place x b old new e h =
    puts_same (λ k. place == k) (λ k. place == k && b) x old new (λ k. sym (ap (λ r. place == k && r) e ∙ and-true (place == k))) h

pub put_false : (place x : ℕ) (b : Bool) (s : Settling) → b ≡ false → Puts (λ k. place == k && b) x s s
put_false place x b s e =
    puts_same (λ k. false) (λ k. place == k && b) x s s (λ k. sym (ap (λ r. place == k && r) e ∙ nothing (place == k))) (puts_none x s) where
      nothing : (w : Bool) → (w && false) ≡ false
      nothing true = refl
      nothing false = refl

-- a step of a list of those that lead to one is there
pub listed_within : (steps : List Step) (places : List ℕ) (at i d : ℕ) → i < length places → ((k : ℕ) → is_found places k ≡ leads steps k at)
    → get_or places i d < length steps
listed_within steps places at i d below all =
    let p = get_or places i d in
    test_within (λ s. follows s p at) steps p
    (sym (all p) ∙ list_any_at (λ q. q == p) places i d below (eq-eqb p p refl))

-- the steps of a list that are kept, one by one
module _ (keep : ℕ → Bool) (x : ℕ) (places : List ℕ) where
  pub each_put : (i d : ℕ) (a b c : Settling) → i < length places → Puts (λ k. is_found (take i places) k && keep k) x a b
      → Puts (λ k. get_or places i d == k && keep k) x b c → Puts (λ k. is_found (take (i + 1) places) k && keep k) x a c
  each_put i d a b c below one two =
      puts_same (λ k. (is_found (take i places) k && keep k) || (get_or places i d == k && keep k)) (λ k. is_found (take (i + 1) places) k && keep k) x a c
      (λ k. apart (is_found (take i places) k) (get_or places i d == k) (keep k)
      ∙ ap (λ r. r && keep k) (sym (list_any_more (λ p. p == k) places i d below)))
      (puts_then (λ k. is_found (take i places) k && keep k) (λ k. get_or places i d == k && keep k) x a b c one two)
    where
      apart : (f g e : Bool) → ((f && e) || (g && e)) ≡ ((f || g) && e)
      apart true true true = refl
      apart true false true = refl
      apart true true false = refl
      apart true false false = refl
      apart false g e = refl

  pub all_put : (i : ℕ) (a b : Settling) → length places ≤ i → Puts (λ k. is_found (take i places) k && keep k) x a b
      → Puts (λ k. is_found places k && keep k) x a b
  all_put i a b past h =
      puts_same (λ k. is_found (take i places) k && keep k) (λ k. is_found places k && keep k) x a b
      (λ k. ap (λ l. is_found l k && keep k) (take_all i places past)) h
