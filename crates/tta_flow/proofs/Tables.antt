-- Places that are put into lists.
use Rattle.std.proofs.Common.{◌≡◌, ℕ, zero, suc, ◌+◌, ◌<◌, ◌≤◌, Bool, true, false, List, [], ◌∷◌, ◌++◌, length, get_or, set, take, refl, sym, ◌∙◌, ap, arith, inl, inr, ◌≢◌, ◌⊎◌}
use Rattle.smallvec.specs.SmallVec.{SmallVec}
use Rattle.std.specs.Prelude.{◌||◌, ◌&&◌, ◌==◌, nat_lt, slice_get, slice_set}
use Rattle.std.specs.Option.{option_map_or}
use Rattle.std.proofs.lemmas.Bool.{eq-eqb, ne_eqb, cases_eq, lt-ltb, le-ltb, ltb-false}
use Rattle.std.proofs.lemmas.Bool.Decides.{nat_tests}
use Rattle.std.proofs.lemmas.List.{length-set}
use Rattle.std.proofs.lemmas.Option.{slice_get_read}
use Rattle.tta_flow.proofs.Searches.{found_more}
use Rattle.std.proofs.Math.Bool.{or-false, and-true}
use Rattle.tta_flow.specs.declared.table.PlaceLists.{PlaceLists}
use Rattle.std.specs.List.{list_any}
use Rattle.std.proofs.lemmas.List.{take_all}
use Rattle.std.proofs.lemmas.List.Folds.{list_any_more}
use Rattle.tta_flow.specs.Cited.{Src}
use Rattle.tta_flow.specs.Steps.{is_var}
use Rattle.tta_flow.specs.Search.{is_found}
use Rattle.tta_flow.specs.Table.{is_listed, Adds}
use Rattle.tta_list.proofs.Tests.{or_either}

pub adds_none : (place : ℕ) (t : PlaceLists) → Adds place (λ k. false) t t
adds_none place t = record { size = refl; all = λ k p below. sym (none (is_listed t k p) (place == p)) } where
  none : (a w : Bool) → (a || (w && false)) ≡ a
  none true w = refl
  none false true = refl
  none false false = refl

pub adds_then : (place : ℕ) (t u : ℕ → Bool) (a b c : PlaceLists) → Adds place t a b → Adds place u b c → Adds place (λ k. t k || u k) a c
adds_then place t u a b c one two = record {
  size = two.size ∙ one.size;
  all = λ k p below. two.all k p (let s = one.size in omega arith) ∙ ap (λ r. r || (place == p && u k)) (one.all k p below)
      ∙ or_either (is_listed a k p) (place == p) (t k) (u k);
}

-- ---- a test of the list at a place

module _ {A : Type 0} (f : A → Bool) where
  pub all_false_push : (xs : List A) (x : A) → ((k : ℕ) → option_map_or f (slice_get xs k) false ≡ false) → f x ≡ false
      → (k : ℕ) → option_map_or f (slice_get (xs ++ x ∷ []) k) false ≡ false
  all_false_push [] x none e zero = e
  all_false_push [] x none e (suc k) = refl
  all_false_push (y ∷ ys) x none e zero = none 0
  all_false_push (y ∷ ys) x none e (suc k) = all_false_push ys x (λ j. none (suc j)) e k

  test_set_same : (xs : List A) (i : ℕ) (v : A) → i < length xs → option_map_or f (slice_get (slice_set xs i v) i) false ≡ f v
  test_set_same [] i v below = absurd (omega arith)
  test_set_same (x ∷ xs) zero v below = refl
  test_set_same (x ∷ xs) (suc i) v below = test_set_same xs i v (omega arith)

  test_set_other : (xs : List A) (i k : ℕ) (v : A) → i ≢ k → option_map_or f (slice_get (slice_set xs i v) k) false ≡ option_map_or f (slice_get xs k) false
  test_set_other [] i k v other = refl
  test_set_other (x ∷ xs) zero zero v other = absurd (other refl)
  test_set_other (x ∷ xs) zero (suc k) v other = refl
  test_set_other (x ∷ xs) (suc i) zero v other = refl
  test_set_other (x ∷ xs) (suc i) (suc k) v other = test_set_other xs i k v (λ e. other (ap suc e))

-- a table of empty lists with one empty list more
pub table_push : (lists : List (SmallVec ℕ)) (l : SmallVec ℕ) → l.items ≡ []
    → ((k p : ℕ) → option_map_or (λ (m : SmallVec ℕ). is_found m.items p) (slice_get lists k) false ≡ false)
    → (k p : ℕ) → option_map_or (λ (m : SmallVec ℕ). is_found m.items p) (slice_get (lists ++ l ∷ []) k) false ≡ false
table_push lists l empty none k p = all_false_push (λ (m : SmallVec ℕ). is_found m.items p) lists l (λ j. none j p) (ap (λ xs. is_found xs p) empty) k

-- a place that is put into one list
pub adds_one : (key place : ℕ) (old new : PlaceLists) (was now : SmallVec ℕ) → key < length old.lists.items
    → was ≡ get_or old.lists.items key was → now.items ≡ was.items ++ place ∷ []
    → new.lists.items ≡ slice_set old.lists.items key now → Adds place (λ k. key == k) old new
adds_one key place old new was now below is grown set = record {
  size = ap length set ∙ length-set old.lists.items key now;
  all = λ k p b. ap (λ ls. option_map_or (λ (m : SmallVec ℕ). is_found m.items p) (slice_get ls k) false) set ∙ by k p (cases_eq key k);
} where
  f : ℕ → SmallVec ℕ → Bool
  f p m = is_found m.items p

  by : (k p : ℕ) → (key ≡ k) ⊎ (key ≢ k)
      → option_map_or (λ (m : SmallVec ℕ). is_found m.items p) (slice_get (slice_set old.lists.items key now) k) false
      ≡ (is_listed old k p || (place == p && key == k))
  by k p (inl e) =
      let here : is_listed old k p ≡ is_found was.items p =
      ap (λ i. is_listed old i p) (sym e)
      ∙ ap (λ o. option_map_or (λ (m : SmallVec ℕ). is_found m.items p) o false) (slice_get_read old.lists.items (length old.lists.items) key was refl below is) in
      ap (λ i. option_map_or (λ (m : SmallVec ℕ). is_found m.items p) (slice_get (slice_set old.lists.items key now) i) false) (sym e)
      ∙ test_set_same (λ (m : SmallVec ℕ). is_found m.items p) old.lists.items key now below
      ∙ ap (λ l. is_found l p) grown ∙ found_more was.items place p
      ∙ sym (ap (λ b. b || (place == p && key == k)) here
      ∙ ap (λ b. is_found was.items p || (place == p && b)) (eq-eqb key k e)
      ∙ ap (λ b. is_found was.items p || b) (and-true (place == p)))
  by k p (inr other) =
      test_set_other (λ (m : SmallVec ℕ). is_found m.items p) old.lists.items key k now other
      ∙ sym (ap (λ b. is_listed old k p || (place == p && b)) (ne_eqb key k other) ∙ none (is_listed old k p) (place == p)) where
        none : (a w : Bool) → (a || (w && false)) ≡ a
        none true w = refl
        none false true = refl
        none false false = refl

-- nothing is put into a list that is not there
pub adds_past : (key place : ℕ) (t : PlaceLists) → length t.lists.items ≤ key → Adds place (λ k. key == k) t t
adds_past key place t past = record {
  size = refl;
  all = λ k p below. sym (ap (λ b. is_listed t k p || (place == p && b)) (ne_eqb key k (λ e. absurd (omega arith))) ∙ none (is_listed t k p) (place == p));
} where
  none : (a w : Bool) → (a || (w && false)) ≡ a
  none true w = refl
  none false true = refl
  none false false = refl

pub adds_same : (place : ℕ) (t u : ℕ → Bool) (a b : PlaceLists) → ((k : ℕ) → t k ≡ u k) → Adds place t a b → Adds place u a b
adds_same place t u a b same h = record {
  size = h.size;
  all = λ k p below. h.all k p below ∙ ap (λ r. is_listed a k p || (place == p && r)) (same k);
}

-- ---- all places in turn

-- the lists hold a relation of the places below a number
pub record Tells (keys : ℕ) (rel : ℕ → ℕ → Bool) (n : ℕ) (t : PlaceLists) : Type 0 where
  pub size : length t.lists.items ≡ keys
  pub all : (k p : ℕ) → k < keys → is_listed t k p ≡ (nat_lt p n && rel p k)

pub tells_start : (keys : ℕ) (rel : ℕ → ℕ → Bool) (t : PlaceLists) → length t.lists.items ≡ keys → ((k p : ℕ) → is_listed t k p ≡ false) → Tells keys rel 0 t
tells_start keys rel t size none = record {
  size = size;
  all = λ k p below. none k p ∙ sym (ap (λ b. b && rel p k) (le-ltb p 0 (omega arith)));
}

pub tells_more : (keys : ℕ) (rel : ℕ → ℕ → Bool) (n : ℕ) (test : ℕ → Bool) (t new : PlaceLists) → Tells keys rel n t → ((k : ℕ) → rel n k ≡ test k)
    → Adds n test t new → Tells keys rel (n + 1) new
tells_more keys rel n test t new h here adds = record {
  size = adds.size ∙ h.size;
  all = λ k p below. adds.all k p (let s = h.size in omega arith) ∙ ap (λ b. b || (n == p && test k)) (h.all k p below) ∙ by k p (cases_eq n p);
} where
  by : (k p : ℕ) → (n ≡ p) ⊎ (n ≢ p) → ((nat_lt p n && rel p k) || (n == p && test k)) ≡ (nat_lt p (n + 1) && rel p k)
  by k p (inl e) =
      let not_yet : nat_lt p n ≡ false = le-ltb p n (omega arith) in
      let now : nat_lt p (n + 1) ≡ true = lt-ltb p (n + 1) (omega arith) in
      rw (not_yet, now, eq-eqb n p e) (sym (here k) ∙ ap (λ i. rel i k) e)
  by k p (inr other) =
      let same : nat_lt p (n + 1) ≡ nat_lt p n = grind (arith, nat_tests) in
      rw (same, ne_eqb n p other) (or-false (nat_lt p n && rel p k))

-- in the end the relation holds of no other place
pub tells_all : (keys : ℕ) (rel : ℕ → ℕ → Bool) (n : ℕ) (t : PlaceLists) → Tells keys rel n t → ((k p : ℕ) → n ≤ p → rel p k ≡ false)
    → (k p : ℕ) → k < keys → is_listed t k p ≡ rel p k
tells_all keys rel n t h past k p below = h.all k p below ∙ by (nat_lt p n) refl where
  by : (b : Bool) → nat_lt p n ≡ b → (nat_lt p n && rel p k) ≡ rel p k
  by true e = ap (λ b. b && rel p k) e
  by false e = ap (λ b. b && rel p k) e ∙ sym (past k p (ltb-false p n e))

-- ---- operands in turn

pub operands_more : (at : ℕ) (operands : List Src) (i : ℕ) (d : Src) (a b c : PlaceLists) → i < length operands
    → Adds at (λ x. list_any (λ s. is_var s x) (take i operands)) a b → Adds at (is_var (get_or operands i d)) b c
    → Adds at (λ x. list_any (λ s. is_var s x) (take (i + 1) operands)) a c
operands_more at operands i d a b c below one two =
    adds_same at (λ x. list_any (λ s. is_var s x) (take i operands) || is_var (get_or operands i d) x) (λ x. list_any (λ s. is_var s x) (take (i + 1) operands)) a c
    (λ x. sym (list_any_more (λ s. is_var s x) operands i d below))
    (adds_then at (λ x. list_any (λ s. is_var s x) (take i operands)) (is_var (get_or operands i d)) a b c one two)

pub operands_all : (at : ℕ) (operands : List Src) (i : ℕ) (a b : PlaceLists) → length operands ≤ i
    → Adds at (λ x. list_any (λ s. is_var s x) (take i operands)) a b → Adds at (λ x. list_any (λ s. is_var s x) operands) a b
operands_all at operands i a b past h =
    adds_same at (λ x. list_any (λ s. is_var s x) (take i operands)) (λ x. list_any (λ s. is_var s x) operands) a b
    (λ x. ap (λ l. list_any (λ s. is_var s x) l) (take_all i operands past)) h
