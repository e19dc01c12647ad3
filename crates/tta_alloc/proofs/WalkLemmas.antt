-- Walks through the positions of a procedure.
use Rattle.std.proofs.Common.{◌≡◌, ◌≢◌, ℕ, zero, suc, ◌+◌, ◌-◌, ◌<◌, ◌≤◌, ◌/◌, Bool, true, false, List, length, Option, Some, None, refl, sym, ◌∙◌, ap, subst, arith, ◌⊎◌, inl, inr, if◌then◌else◌}
use Rattle.std.specs.Prelude.{◌||◌, nat_lt}
use Rattle.std.specs.Option.{MatchOption}
use Rattle.std.proofs.lemmas.Bool.{cases_eq, eq-eqb, ne_eqb, or_cases, ltb-true, lt-ltb, and_from}
use Rattle.std.proofs.Math.Bool.{or-true}
use Rattle.tta_list.proofs.Tests.{and_left, and_right}
use Rattle.tta_alloc.specs.Cited.{Step, BitRow, has, assigns_at, Reached, Begin, Onward, IsClosed, LiveBefore, ReadHere, ReadLater, LiveAfter, live_before, is_found}
use Rattle.tta_alloc.specs.declared.body.Body.{Body}
use Rattle.tta_alloc.specs.declared.met.Seen.{Seen}
use Rattle.tta_alloc.specs.Bodies.{IsKnown, at_entry, at_step, counted, Fills}
use Rattle.tta_alloc.specs.Intervals.{Counts, IsParam, IsLiveAtEntry, IsRead, IsAssigned, IsLiveBefore, IsLiveAfter}
use Rattle.tta_alloc.specs.IsAnalysed.{IsAnalysed}
use Rattle.tta_alloc.specs.Meetings.{met, or_met, IsSound, Meets}

steps_within : (steps : List Step) → IsClosed steps → (k : ℕ) → Reached steps k → k < length steps
steps_within steps closed _ Begin = closed.some
steps_within steps closed _ (Onward i j r e) = closed.within i j e

positive : (n : ℕ) → n ≢ 0 → (n - 1) + 1 ≡ n
positive zero other = absurd (other refl)
positive (suc n) other = omega arith

pub reached_small : (b : Body) → IsKnown b → (k : ℕ) → Reached b.q.now.steps k → k < length b.q.now.steps
reached_small b h k r = steps_within b.q.now.steps h.closed k r

-- what is known, by a row of the steps in place of their list
pub known_body : (b : Body) (reached : List ℕ) → IsAnalysed b.q.now b.owner reached b.live.now
    → ((k : ℕ) → k < length b.q.now.steps → has b.reached.now k ≡ is_found reached k) → IsKnown b
known_body b reached h row = record {
  closed = h.closed;
  few = h.few;
  sound = λ i small e. h.sound i (sym (row i small) ∙ e);
  whole = λ i r. row i (steps_within b.q.now.steps h.closed i r) ∙ h.whole i r;
  before = h.before;
}

module _ (b : Body) (h : IsKnown b) (x : ℕ) (small : x < b.q.now.vars) where
  -- ---- which positions count

  -- a variable that is live after a step is live before it or assigned there
  live_through : (i : ℕ) (t : Bool) → assigns_at b.q.now.steps i x ≡ t → LiveAfter b.q.now.steps x i
      → (live_before b.live.now b.owner i x || t) ≡ true
  live_through i true e a = or-true (live_before b.live.now b.owner i x)
  live_through i false e a =
      ap (λ r. r || false) ((h.before i x small).1 (ReadLater i a.next e a.leads a.live))

  at_live : (i : ℕ) → Reached b.q.now.steps i → LiveBefore b.q.now.steps x i → at_step b i x ≡ true
  at_live i r l = and_from _ _ (h.whole i r) (ap (λ t. t || assigns_at b.q.now.steps i x) ((h.before i x small).1 l))

  step_counted : (i : ℕ) → at_step b i x ≡ true → counted b (i + 1) x ≡ true
  step_counted i e =
      ap (λ t. if t then at_entry b x else at_step b ((i + 1) - 1) x) (ne_eqb (i + 1) 0 (λ s. absurd (omega arith)))
      ∙ ap (λ (n : ℕ). at_step b n x) (omega arith) ∙ e

  pub counted_whole : (at : ℕ) → Counts b.q.now x at → counted b at x ≡ true
  counted_whole _ (IsParam p) = ap (λ t. t || live_before b.live.now b.owner 0 x) (lt-ltb x b.q.now.params p)
  counted_whole _ (IsLiveAtEntry l) = ap (λ t. nat_lt x b.q.now.params || t) ((h.before 0 x small).1 l) ∙ or-true (nat_lt x b.q.now.params)
  counted_whole _ (IsRead i r e) = step_counted i (at_live i r (ReadHere i e))
  counted_whole _ (IsAssigned i r e) =
      step_counted i (and_from _ _ (h.whole i r) (ap (λ t. live_before b.live.now b.owner i x || t) e ∙ or-true (live_before b.live.now b.owner i x)))
  counted_whole _ (IsLiveBefore i r l) = step_counted i (at_live i r l)
  counted_whole _ (IsLiveAfter i r a) = step_counted i (and_from _ _ (h.whole i r) (live_through i (assigns_at b.q.now.steps i x) refl a))

  entry_counts : at_entry b x ≡ true → Counts b.q.now x 0
  entry_counts e = elim (or_cases (nat_lt x b.q.now.params) (live_before b.live.now b.owner 0 x) e) [
    | inl p ↦ IsParam (ltb-true x b.q.now.params p)
    | inr l ↦ IsLiveAtEntry ((h.before 0 x small).0 l)
  ]

  step_counts : (i : ℕ) → i < length b.q.now.steps → at_step b i x ≡ true → Counts b.q.now x (i + 1)
  step_counts i there e = elim (or_cases (live_before b.live.now b.owner i x) (assigns_at b.q.now.steps i x) (and_right (has b.reached.now i) _ e)) [
    | inl l ↦ IsLiveBefore i (h.sound i there (and_left (has b.reached.now i) _ e)) ((h.before i x small).0 l)
    | inr a ↦ IsAssigned i (h.sound i there (and_left (has b.reached.now i) _ e)) a
  ]

  pub counted_sound : (at : ℕ) → at ≤ length b.q.now.steps → counted b at x ≡ true → Counts b.q.now x at
  counted_sound at there e = by (cases_eq at 0) where
    by : (at ≡ 0) ⊎ (at ≢ 0) → Counts b.q.now x at
    by (inl s) =
        subst (Counts b.q.now x) (sym s)
        (entry_counts (ap (λ t. if t then at_entry b x else at_step b (at - 1) x) (sym (eq-eqb at 0 s)) ∙ e))
    by (inr n) =
        let same : (at - 1) + 1 ≡ at = positive at n in
        subst (Counts b.q.now x) same (step_counts (at - 1) (omega arith)
        (ap (λ t. if t then at_entry b x else at_step b (at - 1) x) (sym (ne_eqb at 0 n)) ∙ e))

-- no position after the last step counts
pub counts_within : (b : Body) → IsKnown b → (x at : ℕ) → Counts b.q.now x at → at ≤ length b.q.now.steps
counts_within b h x _ (IsParam p) = omega arith
counts_within b h x _ (IsLiveAtEntry l) = omega arith
counts_within b h x _ (IsRead i r e) = let s = reached_small b h i r in omega arith
counts_within b h x _ (IsAssigned i r e) = let s = reached_small b h i r in omega arith
counts_within b h x _ (IsLiveBefore i r l) = let s = reached_small b h i r in omega arith
counts_within b h x _ (IsLiveAfter i r a) = let s = reached_small b h i r in omega arith

-- ---- the walk

-- Of the positions that a walk has come to none is of a kind; or one is, which stands in order to each of the kind.
abbrev pub Found : (P Done : ℕ → Type 0) (R : ℕ → ℕ → Type 0) → Option ℕ → Type 0
Found P Done R o = MatchOption o ((k : ℕ) → Done k → P k → ⊥) (λ p. P p × ((k : ℕ) → P k → R p k))

pub found_more : (P Done Next : ℕ → Type 0) (R : ℕ → ℕ → Type 0) (at : ℕ) (holds : Bool) (o : Option ℕ)
    → (holds ≡ true → P at) → (P at → holds ≡ true) → ((k : ℕ) → Next k → (Done k) ⊎ (k ≡ at)) → ((k : ℕ) → (Done k) ⊎ (R at k))
    → Found P Done R o → Found P Next R (or_met o holds at)
found_more P Done Next R at holds (Some p) to from last order h = h
found_more P Done Next R at true None to from last order h = (
  to refl,
  λ k p. elim (order k) [
    | inl d ↦ absurd (h k d p)
    | inr r ↦ r
  ],
)
found_more P Done Next R at false None to from last order h = λ k n p. elim (last k n) [
  | inl d ↦ h k d p
  | inr e ↦ let f = from (subst P e p) in cc
]

pub record IsWalk (b : Body) (Done : ℕ → Type 0) (R : ℕ → ℕ → Type 0) (m : Seen) (row : BitRow) : Type 0 where
  pub size : length m.places.items ≡ b.q.now.vars
  pub sound : IsSound m
  pub room : length row.words.items ≡ b.q.now.vars / 64 + 1
  pub found : (x : ℕ) → x < b.q.now.vars → Found (Counts b.q.now x) Done R (met m x)

pub walk_none : (b : Body) (Done : ℕ → Type 0) (R : ℕ → ℕ → Type 0) (m : Seen) (row : BitRow) → length m.places.items ≡ b.q.now.vars → IsSound m
    → length row.words.items ≡ b.q.now.vars / 64 + 1 → ((x : ℕ) → x < b.q.now.vars → met m x ≡ None)
    → ((x k : ℕ) → Done k → Counts b.q.now x k → ⊥) → IsWalk b Done R m row
walk_none b Done R m row size sound room none past = record {
  size = size;
  sound = sound;
  room = room;
  found = λ x small. subst (Found (Counts b.q.now x) Done R) (sym (none x small)) (past x);
}

pub walk_more : (b : Body) → IsKnown b → (Done Next : ℕ → Type 0) (R : ℕ → ℕ → Type 0) (place : ℕ) (old new : Seen) (before row : BitRow)
    → place ≤ length b.q.now.steps → ((k : ℕ) → Next k → (Done k) ⊎ (k ≡ place)) → ((k : ℕ) → (Done k) ⊎ (R place k))
    → IsWalk b Done R old before → Fills (counted b place) before row → Meets (has row) place old new → IsWalk b Next R new row
walk_more b h Done Next R place old new before row there last order w fills meets = record {
  size = meets.size ∙ w.size;
  sound = meets.sound;
  room = fills.room ∙ w.room;
  found = λ x small.
      subst (Found (Counts b.q.now x) Next R) (sym (meets.all x (let s = w.size in omega arith)))
      (found_more (Counts b.q.now x) Done Next R place (has row x) (met old x)
      (λ e. counted_sound b h x small place there (sym (is x small) ∙ e)) (λ c. is x small ∙ counted_whole b h x small place c) last order (w.found x small));
} where
  is : (x : ℕ) → x < b.q.now.vars → has row x ≡ counted b place x
  is x small = fills.bits x (let r = w.room in omega arith)

pub walk_all : (b : Body) (Done : ℕ → Type 0) (R : ℕ → ℕ → Type 0) (m : Seen) (row : BitRow) → ((x k : ℕ) → Counts b.q.now x k → Done k) → IsWalk b Done R m row
    → (x : ℕ) → x < b.q.now.vars → MatchOption (met m x) ((k : ℕ) → Counts b.q.now x k → ⊥) (λ p. Counts b.q.now x p × ((k : ℕ) → Counts b.q.now x k → R p k))
walk_all b Done R m row all w x small = by (met m x) (w.found x small) where
  by : (o : Option ℕ) → Found (Counts b.q.now x) Done R o
      → MatchOption o ((k : ℕ) → Counts b.q.now x k → ⊥) (λ p. Counts b.q.now x p × ((k : ℕ) → Counts b.q.now x k → R p k))
  by None f = λ k c. f k (all x k c) c
  by (Some p) f = f

-- ---- places in order

pub below_or : (n k : ℕ) → (k < n) ⊎ (n ≤ k)
below_or zero k = inr (omega arith)
below_or (suc n) zero = inl (omega arith)
below_or (suc n) (suc k) = elim (below_or n k) [
  | inl l ↦ inl (omega arith)
  | inr l ↦ inr (omega arith)
]

-- the place that is come to next, going up and going down
pub next_up : (n k : ℕ) → k < n + 1 → (k < n) ⊎ (k ≡ n)
next_up n k low = elim (below_or n k) [
  | inl l ↦ inl l
  | inr l ↦ inr (omega arith)
]

pub next_down : (n k : ℕ) → 0 < n → n - 1 ≤ k → (n ≤ k) ⊎ (k ≡ n - 1)
next_down n k some low = elim (below_or n k) [
  | inl l ↦ inr (omega arith)
  | inr l ↦ inl l
]

-- a place is come to before one, or stands after it
pub down_or : (n k : ℕ) → 0 < n → (n ≤ k) ⊎ (k ≤ n - 1)
down_or n k some = elim (below_or n k) [
  | inl l ↦ inr (omega arith)
  | inr l ↦ inl l
]
