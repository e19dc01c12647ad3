-- What a search along calls has found.
use Rattle.std.proofs.Common.{◌≡◌, ℕ, suc, ◌+◌, ◌<◌, ◌≤◌, Bool, true, false, List, [], ◌∷◌, ◌++◌, length, get_or, take, set, replicate, zero, refl, sym, ◌∙◌, ap, arith, length-append, inl, inr, ◌≢◌, ◌⊎◌, append_assoc, subst}
use Rattle.std.specs.Prelude.{◌||◌, ◌&&◌, ◌==◌, nat_lt}
use Rattle.std.specs.List.{list_any}
use Rattle.std.proofs.lemmas.List.Folds.{list_any-append, list_any_more, list_any_at}
use Rattle.std.proofs.lemmas.Bool.{eqb-true, eq-eqb, or_cases}
use Rattle.std.proofs.lemmas.Bool.Decides.{eqb_tells}
use Rattle.std.proofs.Math.Dec.{eqb}
use Rattle.std.proofs.lemmas.List.{append-nil, take_all, take-append-le}
use Rattle.std.proofs.Common.{get_or-set_same, get_or-set_other, length-set}
use Rattle.std.proofs.Math.Bool.{or-true, or-false}
use Rattle.tta_list.proofs.Tests.{and_right, or_either}
use Rattle.tta_tac.specs.Cited.{Step, Proc, calls, calls_proc, Reaches, ByCall}
use Rattle.tta_tac.specs.Text.{with_main}
use Rattle.tta_tac.specs.Cycles.{is_found, unset, IsMarked, Finds}
use Rattle.tta_tac.proofs.CallLemmas.{calls_of, all_found, reaches_on}

-- ---- one mark

-- one mark more is set, and one place more is found
unset-set : (marks : List Bool) (i : ℕ) → i < length marks → get_or marks i false ≡ false → unset (set marks i true) + 1 ≡ unset marks
unset-set [] i below e = absurd (omega arith)
unset-set (m ∷ marks) zero below e = rw e (omega arith)
unset-set (m ∷ marks) (suc i) below e = let rest = unset-set marks i (omega arith) e in omega arith

found_more : (found : List ℕ) (place k : ℕ) → is_found (found ++ place ∷ []) k ≡ (is_found found k || place == k)
found_more found place k = list_any-append (λ p. p == k) found (place ∷ []) ∙ ap (λ b. is_found found k || b) (or-false (place == k))

-- a place that is not marked becomes marked and found
pub marks_one : (marks : List Bool) (found : List ℕ) (place : ℕ) → IsMarked marks found → place < length marks
    → get_or marks place false ≡ false → IsMarked (set marks place true) (found ++ place ∷ [])
marks_one marks found place h below clear = record {
  same = λ k. by k (eqb_tells place k);
  once =
      let e = unset-set marks place below clear in
      let old = h.once in
      rw (length-set, length-append) (omega arith);
} where
  by : (k : ℕ) → ((eqb place k ≡ true) × (place ≡ k)) ⊎ ((eqb place k ≡ false) × (place ≢ k))
      → get_or (set marks place true) k false ≡ is_found (found ++ place ∷ []) k
  by k (inl t) =
      let here = get_or-set_same marks place true false below in
      let now : get_or (set marks place true) k false ≡ true = cc in
      now ∙ sym (found_more found place k ∙ ap (λ b. is_found found k || b) t.0 ∙ or-true (is_found found k))
  by k (inr t) =
      let other : k ≢ place = λ e. t.1 (sym e) in
      get_or-set_other marks place k true false other ∙ h.same k
      ∙ sym (found_more found place k ∙ ap (λ b. is_found found k || b) t.0 ∙ or-false (is_found found k))

-- ---- the steps that were looked at

-- before the first look
pub finds_none : (places : ℕ) (found : List ℕ) → Finds places (λ k. false) found found
finds_none places found = record {
  all = λ k. sym (none (is_found found k) (nat_lt k places));
  more = [];
  front = sym (append-nil found);
} where
  none : (a w : Bool) → (a || (w && false)) ≡ a
  none true w = refl
  none false true = refl
  none false false = refl

-- one more look, at the next step, where there are as many places as before
pub finds_more : (places now : ℕ) (steps : List Step) (i : ℕ) (step : Step) (first before after : List ℕ)
    → now ≡ places → i < length steps → step ≡ get_or steps i step
    → Finds places (λ k. list_any (calls_proc k) (take i steps)) first before
    → Finds now (λ k. calls_proc k step) before after
    → Finds places (λ k. list_any (calls_proc k) (take (i + 1) steps)) first after
finds_more places now steps i step first before after same below at old new = record {
  all = λ k. new.all k ∙ ap (λ (n : ℕ). is_found before k || (nat_lt k n && calls_proc k step)) same
      ∙ ap (λ b. b || (nat_lt k places && calls_proc k step)) (old.all k)
      ∙ or_either (is_found first k) (nat_lt k places) (list_any (calls_proc k) (take i steps)) (calls_proc k step)
      ∙ ap (λ b. is_found first k || (nat_lt k places && b)) (sym (one_more k));
  more = old.more ++ new.more;
  front = new.front ∙ ap (λ l. l ++ new.more) old.front ∙ append_assoc first old.more new.more;
} where
  one_more : (k : ℕ) → list_any (calls_proc k) (take (i + 1) steps) ≡ (list_any (calls_proc k) (take i steps) || calls_proc k step)
  one_more k = list_any_more (calls_proc k) steps i step below
      ∙ ap (λ s. list_any (calls_proc k) (take i steps) || calls_proc k s) (sym at)

-- after the last look
pub finds_all : (places : ℕ) (steps : List Step) (i : ℕ) (first found : List ℕ) → length steps ≤ i
    → Finds places (λ k. list_any (calls_proc k) (take i steps)) first found
    → Finds places (λ k. list_any (calls_proc k) steps) first found
finds_all places steps i first found past h =
    subst (λ (ss : List Step). Finds places (λ k. list_any (calls_proc k) ss) first found) (take_all i steps past) h

-- ---- a search from one procedure

-- the procedures that were found are led to; those that the first calls are found, and those that the looked at call
pub record IsSearch (procs : List Proc) (from : ℕ) (marks : List Bool) (found : List ℕ) (next : ℕ) : Type 0 where
  pub marked : IsMarked marks found
  pub size : length marks ≡ length procs
  pub sound : (j : ℕ) → is_found found j ≡ true → Reaches (with_main procs 0) from j
  pub start : (j : ℕ) → j < length procs → calls (with_main procs 0) from j ≡ true → is_found found j ≡ true
  pub closed : (i j : ℕ) → is_found (take next found) i ≡ true → j < length procs → calls (with_main procs 0) i j ≡ true → is_found found j ≡ true
  pub within : next ≤ length found

within_of_mark : (marks : List Bool) (i : ℕ) → get_or marks i false ≡ true → i < length marks
within_of_mark [] i e = absurd cc
within_of_mark (m ∷ marks) zero e = omega arith
within_of_mark (m ∷ marks) (suc i) e = let rest = within_of_mark marks i e in omega arith

-- before the first look
pub unmarked : (n : ℕ) → IsMarked (replicate n false) []
unmarked n = record { same = clear n; once = all_unset n } where
  clear : (n k : ℕ) → get_or (replicate n false) k false ≡ false
  clear zero k = refl
  clear (suc n) zero = refl
  clear (suc n) (suc k) = clear n k

  all_unset : (n : ℕ) → unset (replicate n false) + 0 ≡ length (replicate n false)
  all_unset zero = refl
  all_unset (suc n) = let rest = all_unset n in omega arith

-- the first look, at the procedure itself
pub search_first : (procs : List Proc) (from : ℕ) (before marks : List Bool) (none found : List ℕ) (q : Proc) (steps : List Step)
    → from < length procs → q ≡ get_or procs from q → steps ≡ q.steps → none ≡ [] → length before ≡ length procs
    → length marks ≡ length before → IsMarked marks found
    → Finds (length before) (λ k. list_any (calls_proc k) steps) none found → IsSearch procs from marks found 0
search_first procs from before marks none found q steps below at all empty size same marked finds = record {
  marked = marked;
  size = same ∙ size;
  sound = λ j e. ByCall from j (calls_are j ∙ and_right (nat_lt j (length before)) _ (sym (finds_are j) ∙ e));
  start = λ j b e. finds_are j ∙ both j b (sym (calls_are j) ∙ e);
  closed = λ i j f b e. no f;
  within = omega arith;
} where
  calls_are : (j : ℕ) → calls (with_main procs 0) from j ≡ list_any (calls_proc j) steps
  calls_are j = calls_of procs from j q below at ∙ ap (λ ss. list_any (calls_proc j) ss) (sym all)

  finds_are : (j : ℕ) → is_found found j ≡ (nat_lt j (length before) && list_any (calls_proc j) steps)
  finds_are j = finds.all j ∙ ap (λ l. is_found l j || (nat_lt j (length before) && list_any (calls_proc j) steps)) empty

  both : (j : ℕ) → j < length procs → list_any (calls_proc j) steps ≡ true → (nat_lt j (length before) && list_any (calls_proc j) steps) ≡ true
  both j b e = let w : nat_lt j (length before) ≡ true = grind arith in ap (λ t. t && list_any (calls_proc j) steps) w ∙ e

  no : {A : Type 0} → false ≡ true → A
  no e = absurd cc

-- the next place that was found is that of a procedure
module _ (procs : List Proc) (from : ℕ) (marks : List Bool) (found : List ℕ) (next place : ℕ)
    (h : IsSearch procs from marks found next) (left : next < length found) (is : place ≡ get_or found next place) where
  is_there : is_found found place ≡ true
  is_there = list_any_at (λ p. p == place) found next place left (eq-eqb (get_or found next place) place (sym is))

  pub place_within : place < length procs
  place_within = let e = within_of_mark marks place (h.marked.same place ∙ is_there) in let s = h.size in omega arith

-- one more look, at the next place that was found
module _ (procs : List Proc) (from : ℕ) (marks new_marks : List Bool) (found new : List ℕ) (next place : ℕ) (q : Proc) (steps : List Step)
    (h : IsSearch procs from marks found next) (left : next < length found) (is : place ≡ get_or found next place)
    (at : q ≡ get_or procs place q) (all : steps ≡ q.steps) (size : length new_marks ≡ length marks) (marked : IsMarked new_marks new)
    (finds : Finds (length marks) (λ k. list_any (calls_proc k) steps) found new) where
  calls_are : (j : ℕ) → calls (with_main procs 0) place j ≡ list_any (calls_proc j) steps
  calls_are j = calls_of procs place j q (place_within procs from marks found next place h left is) at ∙ ap (λ ss. list_any (calls_proc j) ss) (sym all)

  stays : (j : ℕ) → is_found found j ≡ true → is_found new j ≡ true
  stays j e = finds.all j ∙ ap (λ b. b || (nat_lt j (length marks) && list_any (calls_proc j) steps)) e

  comes : (j : ℕ) → j < length procs → list_any (calls_proc j) steps ≡ true → is_found new j ≡ true
  comes j b e =
      let s = h.size in
      let in_range : nat_lt j (length marks) ≡ true = grind arith in
      finds.all j ∙ ap (λ t. is_found found j || (t && list_any (calls_proc j) steps)) in_range
      ∙ ap (λ t. is_found found j || t) e ∙ or-true (is_found found j)

  front_is : (i : ℕ) → is_found (take (next + 1) new) i ≡ (is_found (take next found) i || get_or found next place == i)
  front_is i =
      let some : next + 1 ≤ length found = omega arith in
      ap (λ l. is_found l i) (ap (λ l. take (next + 1) l) finds.front ∙ take-append-le (next + 1) found finds.more some)
      ∙ list_any_more (λ p. p == i) found next place left

  pub search_step : IsSearch procs from new_marks new (next + 1)
  search_step = record {
    marked = marked;
    size = size ∙ h.size;
    sound = λ j e. sound j (or_cases (is_found found j) _ (sym (finds.all j) ∙ e));
    start = λ j b e. stays j (h.start j b e);
    closed = λ i j f b e. closed i j (or_cases (is_found (take next found) i) _ (sym (front_is i) ∙ f)) b e;
    within = rw (finds.front, length-append) (omega arith);
  } where
    sound : (j : ℕ) → (is_found found j ≡ true) ⊎ ((nat_lt j (length marks) && list_any (calls_proc j) steps) ≡ true)
        → Reaches (with_main procs 0) from j
    sound j (inl e) = h.sound j e
    sound j (inr e) = reaches_on procs from place j (h.sound place (is_there procs from marks found next place h left is))
        (calls_are j ∙ and_right (nat_lt j (length marks)) _ e)

    closed : (i j : ℕ) → (is_found (take next found) i ≡ true) ⊎ ((get_or found next place == i) ≡ true) → j < length procs
        → calls (with_main procs 0) i j ≡ true → is_found new j ≡ true
    closed i j (inl f) b e = stays j (h.closed i j f b e)
    closed i j (inr f) b e =
        let same = is ∙ eqb-true (get_or found next place) i f in
        comes j b (sym (calls_are j) ∙ ap (λ x. calls (with_main procs 0) x j) same ∙ e)

pub search_no : (procs : List Proc) (from : ℕ) (marks : List Bool) (found : List ℕ) (next : ℕ) → IsSearch procs from marks found next
    → from < length procs → length found ≤ next → get_or marks from false ≡ false → Reaches (with_main procs 0) from from → ⊥
search_no procs from marks found next h below all clear r =
    let whole = take_all next found all in
    let there = all_found procs found (λ i j f. h.closed i j (ap (λ l. is_found l i) whole ∙ f)) from from h.start r below in
    let marked = h.marked.same from in
    cc
