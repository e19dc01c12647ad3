-- The intervals that take part, one by one and in order.
use Rattle.std.proofs.Common.{◌≡◌, ℕ, zero, suc, ◌+◌, ◌<◌, ◌≤◌, Bool, true, false, cond, List, [], ◌∷◌, ◌++◌, length, get_or, Option, Some, None, refl, sym, ◌∙◌, ap, subst, arith, ◌⊎◌, inl, inr}
use Rattle.std.specs.Prelude.{◌==◌, slice_get, option_to_list, count_by}
use Rattle.std.specs.List.{Contains}
use Rattle.std.specs.List.Sorted.{IsPermutation, IsSorted}
use Rattle.std.specs.Option.{MatchOption}
use Rattle.std.specs.Ordering.{nat_cmp, ordering_then, is_lt}
use Rattle.std.specs.declared.cmp.Ordering.{Ordering}
use Rattle.std.specs.declared.cmp.Ordering.TheVariants.{Less, Equal, Greater}
use Rattle.std.specs.Cmp.{IsTotalOrder}
use Rattle.std.proofs.lemmas.Cmp.{nat_cmp_total, on_total, then_total}
use Rattle.std.proofs.lemmas.Bool.{eqb-true, eq-eqb, ne_eqb, lt-ltb, le-ltb}
use Rattle.std.proofs.lemmas.List.{append-nil}
use Rattle.std.proofs.lemmas.List.Sums.{sum_by-cons, sum_by-append}
use Rattle.std.proofs.lemmas.List.Sorted.{ranks_by, sorted_far, Contains-permutation, IsPermutation-sym, sum_by-IsPermutation}
use Rattle.std.proofs.lemmas.List.Elements.{Contains-push, Contains-push_cases, Contains-append_left}
use Rattle.std.proofs.lemmas.Option.{slice_get_read, slice_get_within, get_or_from_slice_get}
use Rattle.tta_alloc.specs.Cited.{Proc, BitRow, has}
use Rattle.tta_alloc.specs.declared.interval.Interval.{Interval}
use Rattle.tta_alloc.specs.Intervals.{Counts, IsInterval, IsKept, TakesPart, AreTaken, IsBefore, IsSettled}
use Rattle.tta_alloc.specs.Together.{AreAmong, AreFirst, AreLast, AreKept, interval_of}
use Rattle.tta_alloc.specs.Meetings.{met}
use Rattle.tta_alloc.specs.declared.met.Seen.{Seen}
use Rattle.tta_flow.proofs.RunLemmas.{two as three}

-- ---- elements by their places

pub at_place : (xs : List Interval) (x : Interval) → Contains xs x → (k : ℕ) × (slice_get xs k ≡ Some x)
at_place xs x h = (h.0, slice_get_read xs (length xs) h.0 x refl h.1 (sym h.2))

pub from_place : (xs : List Interval) (k : ℕ) (x : Interval) → slice_get xs k ≡ Some x → Contains xs x
from_place xs k x e = (k, slice_get_within xs k x e, get_or_from_slice_get xs k x x e)

-- ---- how often a variable has an interval

add_yes : (b : Bool) (n m : ℕ) → m ≡ cond b 1 0 + n → b ≡ true → m ≡ suc n
add_yes true n m e t = omega arith
add_yes false n m e t = absurd cc

add_no : (b : Bool) (n m : ℕ) → m ≡ cond b 1 0 + n → b ≡ false → m ≡ n
add_no true n m e t = absurd cc
add_no false n m e t = omega arith

push_yes : (b : Bool) (n m : ℕ) → m ≡ n + cond b 1 0 → b ≡ true → m ≡ suc n
push_yes true n m e t = omega arith
push_yes false n m e t = absurd cc

push_no : (b : Bool) (n m : ℕ) → m ≡ n + cond b 1 0 → b ≡ false → m ≡ n
push_no true n m e t = absurd cc
push_no false n m e t = omega arith

module _ (p : Interval → Bool) where
  pub count_cons : (x : Interval) (xs : List Interval) → count_by p (x ∷ xs) ≡ cond (p x) 1 0 + count_by p xs
  count_cons x xs = sum_by-cons (λ y. cond (p y) 1 0) x xs

  count_at : (xs : List Interval) (k : ℕ) (x : Interval) → slice_get xs k ≡ Some x → p x ≡ true → 1 ≤ count_by p xs
  count_at [] k x e t = absurd cc
  count_at (y ∷ ys) zero x e t =
      let same : y ≡ x = cc in
      let c = add_yes (p y) _ _ (count_cons y ys) (ap p same ∙ t) in omega arith
  count_at (y ∷ ys) (suc k) x e t = let rest = count_at ys k x e t in let c = count_cons y ys in omega arith

  pub count_two : (xs : List Interval) (j k : ℕ) (x y : Interval) → j < k → slice_get xs j ≡ Some x → slice_get xs k ≡ Some y → p x ≡ true → p y ≡ true
      → 2 ≤ count_by p xs
  count_two [] j k x y less e f s t = absurd cc
  count_two (z ∷ zs) zero zero x y less e f s t = absurd (omega arith)
  count_two (z ∷ zs) zero (suc k) x y less e f s t =
      let same : z ≡ x = cc in
      let c = add_yes (p z) _ _ (count_cons z zs) (ap p same ∙ s) in let rest = count_at zs k y f t in omega arith
  count_two (z ∷ zs) (suc j) zero x y less e f s t = absurd (omega arith)
  count_two (z ∷ zs) (suc j) (suc k) x y less e f s t =
      let rest = count_two zs j k x y (omega arith) e f s t in let c = count_cons z zs in omega arith

  pub count_none : (xs : List Interval) → ((k : ℕ) (x : Interval) → slice_get xs k ≡ Some x → p x ≡ false) → count_by p xs ≡ 0
  count_none [] none = refl
  count_none (x ∷ xs) none =
      let rest = count_none xs (λ k y e. none (suc k) y e) in
      let c = add_no (p x) _ _ (count_cons x xs) (none 0 x refl) in omega arith

  pub count_push : (xs : List Interval) (x : Interval) → count_by p (xs ++ x ∷ []) ≡ count_by p xs + cond (p x) 1 0
  count_push xs x =
      let a = sum_by-append (λ y. cond (p y) 1 0) xs (x ∷ []) in
      a ∙ ap (λ (n : ℕ). count_by p xs + n) (count_cons x [] ∙ add_zero_to (cond (p x) 1 0))
    where
      add_zero_to : (n : ℕ) → n + 0 ≡ n
      add_zero_to n = omega arith

-- ---- one variable

pub candidate_is : (q : Proc) (kept : BitRow) (starts ends : Seen) (x : ℕ) (one : Option Interval) → x < q.vars → AreKept q kept → AreFirst q starts
    → AreLast q ends → one ≡ interval_of (has kept x) (met starts x) (met ends x) x
    → MatchOption one ((IsKept q x) ⊎ ((at : ℕ) → Counts q x at → ⊥)) (λ iv. (iv.var ≡ x) × TakesPart q iv)
candidate_is q kept starts ends x one small held first last is =
    subst (λ (o : Option Interval). MatchOption o ((IsKept q x) ⊎ ((at : ℕ) → Counts q x at → ⊥)) (λ iv. (iv.var ≡ x) × TakesPart q iv)) (sym is)
    (by (has kept x) (met starts x) (met ends x) refl (first x small) (last x small))
  where
    by : (k : Bool) (a b : Option ℕ) → has kept x ≡ k
        → MatchOption a ((at : ℕ) → Counts q x at → ⊥) (λ p. Counts q x p × ((at : ℕ) → Counts q x at → p ≤ at))
        → MatchOption b ((at : ℕ) → Counts q x at → ⊥) (λ p. Counts q x p × ((at : ℕ) → Counts q x at → at ≤ p))
        → MatchOption (interval_of k a b x) ((IsKept q x) ⊎ ((at : ℕ) → Counts q x at → ⊥)) (λ iv. (iv.var ≡ x) × TakesPart q iv)
    by true a b e f l = inl ((held x small).0 e)
    by false None b e f l = inr f
    by false (Some a) None e f l = inr l
    by false (Some a) (Some b) e f l = (
      refl,
      record {
        var = small;
        interval = record { first = f.0; last = l.0; all = λ at c. (f.1 at c, l.1 at c) };
        free = λ k. no (sym e ∙ (held x small).1 k);
      },
    ) where
      no : false ≡ true → ⊥
      no f = cc

-- ---- the variables in turn

pub among_none : (q : Proc) → AreAmong q 0 []
among_none q = record {
  sound = λ iv h. absurd (none iv h);
  below = λ iv h. absurd (none iv h);
  whole = λ iv small t. absurd (omega arith);
  once = λ x. omega arith;
  each = λ x small. absurd (omega arith);
} where
  none : (iv : Interval) → Contains [] iv → ⊥
  none iv h = let s = h.1 in omega arith

-- two ranges of one variable are one
pub same_interval : (q : Proc) (a b : Interval) → a.var ≡ b.var → TakesPart q a → TakesPart q b → a ≡ b
same_interval q a b same x y =
    let i = subst (λ (v : ℕ). IsInterval q v a.start a.end) same x.interval in
    let j = y.interval in
    let l = i.all b.start j.first in let m = j.all a.start i.first in
    let n = i.all b.end j.last in let o = j.all a.end i.last in
    let start : a.start ≡ b.start = (let c = l.0 in let d = m.0 in omega arith) in
    let end : a.end ≡ b.end = (let c = n.1 in let d = o.1 in omega arith) in
    ap (λ (s : ℕ). record { start = s; var = a.var; end = a.end }) start
    ∙ ap (λ (v : ℕ). record { start = b.start; var = v; end = a.end }) same
    ∙ ap (λ (e : ℕ). record { start = b.start; var = b.var; end = e }) end

pub among_more : (q : Proc) (n : ℕ) (taken new : List Interval) (o : Option Interval) → AreAmong q n taken
    → MatchOption o ((IsKept q n) ⊎ ((at : ℕ) → Counts q n at → ⊥)) (λ iv. (iv.var ≡ n) × TakesPart q iv)
    → new ≡ taken ++ option_to_list o → AreAmong q (n + 1) new
among_more q n taken new None h none is = subst (λ l. AreAmong q (n + 1) l) (sym (is ∙ append-nil taken)) (record {
  sound = h.sound;
  below = λ iv c. let s = h.below iv c in omega arith;
  whole = λ iv small t. elim (last iv small) [
    | inl l ↦ h.whole iv l t
    | inr e ↦ absurd (no_part iv e t none)
  ];
  once = h.once;
  each = λ x small. elim (last_var x small) [
    | inl l ↦ h.each x l
    | inr e ↦ subst (IsSettled q taken) (sym e) (settled none)
  ];
}) where
  settled : (IsKept q n) ⊎ ((at : ℕ) → Counts q n at → ⊥) → IsSettled q taken n
  settled (inl k) = inl k
  settled (inr c) = inr (inl c)

  no_part : (iv : Interval) → iv.var ≡ n → TakesPart q iv → (IsKept q n) ⊎ ((at : ℕ) → Counts q n at → ⊥) → ⊥
  no_part iv e t (inl k) = t.free (subst (IsKept q) (sym e) k)
  no_part iv e t (inr c) = c iv.start (subst (λ (v : ℕ). Counts q v iv.start) e t.interval.first)

  last_var : (x : ℕ) → x < n + 1 → (x < n) ⊎ (x ≡ n)
  last_var x small = grind arith

  last : (iv : Interval) → iv.var < n + 1 → (iv.var < n) ⊎ (iv.var ≡ n)
  last iv small = grind arith
among_more q n taken new (Some one) h here is = subst (λ l. AreAmong q (n + 1) l) (sym is) (record {
  sound = λ iv c. elim (Contains-push_cases taken one iv c) [
    | inl d ↦ h.sound iv d
    | inr e ↦ subst (TakesPart q) e here.1
  ];
  below = λ iv c. elim (Contains-push_cases taken one iv c) [
    | inl d ↦ let s = h.below iv d in omega arith
    | inr e ↦ let s = ap (λ (i : Interval). i.var) e in let v = here.0 in omega arith
  ];
  whole = λ iv small t. elim (last iv small) [
    | inl l ↦ Contains-append_left taken (one ∷ []) iv (h.whole iv l t)
    | inr e ↦ subst (Contains (taken ++ one ∷ [])) (same_interval q one iv (here.0 ∙ sym e) here.1 t) (Contains-push taken one)
  ];
  once = λ x. once x (one.var == x) refl;
  each = λ x small. elim (last_var x small) [
    | inl l ↦ longer x (h.each x l)
    | inr e ↦ inr (inr (one, (Contains-push taken one, here.0 ∙ sym e)))
  ];
}) where
  longer : (x : ℕ) → IsSettled q taken x → IsSettled q (taken ++ one ∷ []) x
  longer x (inl k) = inl k
  longer x (inr (inl c)) = inr (inl c)
  longer x (inr (inr i)) = inr (inr (i.0, (Contains-append_left taken (one ∷ []) i.0 i.1.0, i.1.1)))

  last_var : (x : ℕ) → x < n + 1 → (x < n) ⊎ (x ≡ n)
  last_var x small = grind arith

  last : (iv : Interval) → iv.var < n + 1 → (iv.var < n) ⊎ (iv.var ≡ n)
  last iv small = grind arith

  once : (x : ℕ) (b : Bool) → (one.var == x) ≡ b → count_by (λ iv. iv.var == x) (taken ++ one ∷ []) ≤ 1
  once x true e =
      let c = push_yes (one.var == x) _ _ (count_push (λ iv. iv.var == x) taken one) e in
      let v = here.0 in
      let m = eqb-true one.var x e in
      let none = count_none (λ iv. iv.var == x) taken (λ k iv f. let s = h.below iv (from_place taken k iv f) in ne_eqb iv.var x (λ w. absurd (omega arith))) in
      omega arith
  once x false e =
      let c = push_no (one.var == x) _ _ (count_push (λ iv. iv.var == x) taken one) e in
      let old = h.once x in
      omega arith

-- ---- in order

abbrev pub interval_cmp : Interval → Interval → Ordering
interval_cmp a b = ordering_then (nat_cmp a.start b.start) (ordering_then (nat_cmp a.var b.var) (nat_cmp a.end b.end))

total : IsTotalOrder interval_cmp
total = then_total (on_total (λ i. i.start) nat_cmp_total) (then_total (on_total (λ i. i.var) nat_cmp_total) (on_total (λ i. i.end) nat_cmp_total))

less_is : (a b : ℕ) → a < b → nat_cmp a b ≡ Less
less_is a b l = ap (λ (t : Bool). cond t Less (cond (a == b) Equal Greater)) (lt-ltb a b l)

equal_is : (a b : ℕ) → a ≡ b → nat_cmp a b ≡ Equal
equal_is a b e = rw (le-ltb a b (omega arith), eq-eqb a b e) refl

-- where one is not less than the other, the other is before it, or has its start and variable
not_less : (a b : Interval) → is_lt (interval_cmp b a) ≡ false → (a.start < b.start) ⊎ ((a.start ≡ b.start) × (a.var ≤ b.var))
not_less a b e = elim (three a.start b.start) [
  | inl l ↦ inl l
  | inr (inl s) ↦ inr (s, vars s (three a.var b.var))
  | inr (inr g) ↦ absurd (wrong (ap (λ o. is_lt (ordering_then o (ordering_then (nat_cmp b.var a.var) (nat_cmp b.end a.end)))) (less_is b.start a.start g)))
] where
  wrong : is_lt (interval_cmp b a) ≡ true → ⊥
  wrong t = cc

  vars : a.start ≡ b.start → (a.var < b.var) ⊎ ((a.var ≡ b.var) ⊎ (b.var < a.var)) → a.var ≤ b.var
  vars s (inl l) = omega arith
  vars s (inr (inl m)) = omega arith
  vars s (inr (inr g)) = absurd (wrong
      (ap (λ o. is_lt (ordering_then o (ordering_then (nat_cmp b.var a.var) (nat_cmp b.end a.end)))) (equal_is b.start a.start (sym s))
      ∙ ap (λ o. is_lt (ordering_then o (nat_cmp b.end a.end))) (less_is b.var a.var g)))

pub sorted_taken : (q : Proc) (taken new : List Interval) → AreAmong q q.vars taken → IsPermutation taken new → IsSorted interval_cmp new → AreTaken q new
sorted_taken q taken new h moved up = record {
  sound = λ k iv e. h.sound iv (Contains-permutation new taken iv (IsPermutation-sym taken new moved) (from_place new k iv e));
  whole = λ iv t. at_place new iv (Contains-permutation taken new iv moved (h.whole iv t.var t));
  rising = λ j k a b less e f.
      before a b j k less e f (not_less a b (subst (λ (x : Interval). is_lt (interval_cmp b x) ≡ false) (get_or_from_slice_get new j a a e)
      (subst (λ (y : Interval). is_lt (interval_cmp y (get_or new j a)) ≡ false) (get_or_from_slice_get new k b a f)
      (sorted_far (λ x y. is_lt (interval_cmp x y)) (ranks_by total (λ x. x)) new up j k a (omega arith) (slice_get_within new k b f)))));
  each = λ x small. moved_on x (h.each x small);
} where
  moved_on : (x : ℕ) → IsSettled q taken x → IsSettled q new x
  moved_on x (inl k) = inl k
  moved_on x (inr (inl c)) = inr (inl c)
  moved_on x (inr (inr i)) = inr (inr (i.0, (Contains-permutation taken new i.0 moved i.1.0, i.1.1)))

  before : (a b : Interval) (j k : ℕ) → j < k → slice_get new j ≡ Some a → slice_get new k ≡ Some b
      → (a.start < b.start) ⊎ ((a.start ≡ b.start) × (a.var ≤ b.var)) → IsBefore a b
  before a b j k less e f (inl l) = inl l
  before a b j k less e f (inr s) = inr (s.0, vars (three a.var b.var)) where
    vars : (a.var < b.var) ⊎ ((a.var ≡ b.var) ⊎ (b.var < a.var)) → a.var < b.var
    vars (inl l) = l
    vars (inr (inl m)) =
        let two = count_two (λ iv. iv.var == b.var) new j k a b less e f (eq-eqb a.var b.var m) (eq-eqb b.var b.var refl) in
        let one = h.once b.var in
        let same = sum_by-IsPermutation (λ (iv : Interval). cond (iv.var == b.var) 1 0) taken new moved in
        absurd (omega arith)
    vars (inr (inr g)) = let w = s.1 in absurd (omega arith)
