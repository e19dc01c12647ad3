-- The intervals of the procedures and of their variables, one by one.
use Rattle.std.proofs.Common.{◌≡◌, ℕ, ◌+◌, ◌<◌, ◌≤◌, Bool, true, false, List, [], ◌∷◌, ◌++◌, length, get_or, Option, Some, None, Vec, Global, refl, sym, ◌∙◌, ap, subst, arith, inl, inr, length-append}
use Rattle.std.specs.Prelude.{slice_get, is_some, nat_lt}
use Rattle.std.specs.Option.{option_map_or, MatchOption}
use Rattle.std.proofs.lemmas.Bool.{ltb-true, ltb-false}
use Rattle.std.proofs.lemmas.List.{get_or_push, get_or_append_left}
use Rattle.std.proofs.lemmas.Option.{slice_get_within}
use Rattle.tta_list.proofs.Lists.{slice_get-push, some_within}
use Rattle.tta_list.proofs.Tests.{some_same}
use Rattle.tta_alloc.specs.Cited.{Proc, Program}
use Rattle.tta_alloc.specs.declared.interval.Interval.{Interval}
use Rattle.tta_alloc.specs.declared.intervals.Intervals.{Intervals}
use Rattle.tta_alloc.specs.AllIntervals.{interval_in, AreIntervalsOf, AreIntervals, IsIntervalOf}
use Rattle.tta_alloc.specs.declared.met.Seen.{Seen}
use Rattle.tta_alloc.specs.Intervals.{Counts}
use Rattle.tta_alloc.specs.Meetings.{met}
use Rattle.tta_alloc.specs.Together.{AreFirst, AreLast, interval_of}

-- so many procedures have the intervals of their variables
pub record AreEach (p : Program) (n : ℕ) (all : List (Vec (Option Interval) Global)) : Type 0 where
  pub count : length all ≡ n
  pub each : (k : ℕ) (v : Vec (Option Interval) Global) (q : Proc) → slice_get all k ≡ Some v → slice_get p.procs k ≡ Some q → AreIntervalsOf q v.items

pub each_none : (p : Program) → AreEach p 0 []
each_none p = record { count = refl; each = λ k v q e f. absurd cc }

pub each_more : (p : Program) (n : ℕ) (all new : List (Vec (Option Interval) Global)) (v : Vec (Option Interval) Global) (q : Proc)
    → slice_get p.procs n ≡ Some q → AreEach p n all → AreIntervalsOf q v.items → new ≡ all ++ v ∷ [] → AreEach p (n + 1) new
each_more p n all new v q there h are grown = record {
  count = ap length grown ∙ (let e = length-append all (v ∷ []) in let c = h.count in omega arith);
  each = λ k w r e f. elim (slice_get-push all v k w (ap (λ (l : List (Vec (Option Interval) Global)). slice_get l k) (sym grown) ∙ e)) [
    | inl old ↦ h.each k w r old f
    | inr last ↦
        let same : q ≡ r = some_same (sym there ∙ ap (slice_get p.procs) (sym (last.0 ∙ h.count)) ∙ f) in
        subst (λ (u : Vec (Option Interval) Global). AreIntervalsOf r u.items) last.1 (subst (λ (s : Proc). AreIntervalsOf s v.items) same are)
  ];
}

pub each_all : (p : Program) (procs : List Proc) (n : ℕ) (r : Intervals) → procs ≡ p.procs → length procs ≤ n → AreEach p n r.procs.items → AreIntervals p r
unfolding interval_in
each_all p procs n r same past h = record { each = each } where
  each : (owner x : ℕ) (q : Proc) → slice_get p.procs owner ≡ Some q → x < q.vars
      → IsIntervalOf q x (option_map_or (λ (l : Vec (Option Interval) Global). get_or l.items x None) (slice_get r.procs.items owner) None)
  each owner x q there small = by (slice_get r.procs.items owner) refl where
    below : owner < length procs
    below = slice_get_within procs owner q (ap (λ (l : List Proc). slice_get l owner) same ∙ there)

    by : (o : Option (Vec (Option Interval) Global)) → slice_get r.procs.items owner ≡ o
        → IsIntervalOf q x (option_map_or (λ (l : Vec (Option Interval) Global). get_or l.items x None) o None)
    by None e = let c = h.count in let b = below in let t = some_within r.procs.items owner (omega arith) in absurd (no (sym (ap is_some e) ∙ t)) where
      no : false ≡ true → ⊥
      no f = cc
    by (Some v) e = (h.each owner v q e there).each x small

-- ---- one variable after another

-- the variables below a number have their intervals
pub record AreBelow (q : Proc) (n : ℕ) (all : List (Option Interval)) : Type 0 where
  pub count : length all ≡ n
  pub each : (x : ℕ) → x < n → IsIntervalOf q x (get_or all x None)

pub below_none : (q : Proc) → AreBelow q 0 []
below_none q = record { count = refl; each = λ x small. absurd (omega arith) }

pub below_more : (q : Proc) (n : ℕ) (all new : List (Option Interval)) (o : Option Interval) → AreBelow q n all → IsIntervalOf q n o
    → new ≡ all ++ o ∷ [] → AreBelow q (n + 1) new
below_more q n all new o h is grown = record {
  count = ap length grown ∙ (let e = length-append all (o ∷ []) in let c = h.count in omega arith);
  each = λ x small. by x (nat_lt x n) refl small;
} where
  by : (x : ℕ) (b : Bool) → nat_lt x n ≡ b → x < n + 1 → IsIntervalOf q x (get_or new x None)
  by x true less small =
      let below = ltb-true x n less in
      subst (IsIntervalOf q x)
      (sym (ap (λ (l : List (Option Interval)). get_or l x None) grown ∙ get_or_append_left all (o ∷ []) None x (let c = h.count in omega arith)))
      (h.each x below)
  by x false past small =
      let le : n ≤ x = ltb-false x n past in
      let same : n ≡ x = omega arith in
      let last : get_or new x None ≡ o =
      ap (λ (l : List (Option Interval)). get_or l x None) grown ∙ get_or_push all o None x (h.count ∙ same) in
      subst (IsIntervalOf q x) (sym last) (subst (λ (k : ℕ). IsIntervalOf q k o) same is)

-- the first position and the last make the interval
pub interval_is : (q : Proc) (starts ends : Seen) (x : ℕ) → x < q.vars → AreFirst q starts → AreLast q ends
    → IsIntervalOf q x (interval_of false (met starts x) (met ends x) x)
interval_is q starts ends x small first last = by (met starts x) (met ends x) (first x small) (last x small) where
  by : (a b : Option ℕ) → MatchOption a ((at : ℕ) → Counts q x at → ⊥) (λ p. Counts q x p × ((at : ℕ) → Counts q x at → p ≤ at))
      → MatchOption b ((at : ℕ) → Counts q x at → ⊥) (λ p. Counts q x p × ((at : ℕ) → Counts q x at → at ≤ p))
      → IsIntervalOf q x (interval_of false a b x)
  by None b f l = f
  by (Some a) None f l = l
  by (Some a) (Some b) f l = (refl, record { first = f.0; last = l.0; all = λ at c. (f.1 at c, l.1 at c) })
