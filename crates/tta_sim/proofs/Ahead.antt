-- Results that are started in a cycle, before the next one comes.
use Rattle.std.proofs.Common.{◌≡◌, ◌≢◌, ◌<◌, ◌≤◌, ◌+◌, ◌==◌, ◌&&◌, ℕ, zero, suc, true, false, List, [], ◌∷◌, ◌++◌, length, map, Option, None, Some, refl, ap, sym, ◌∙◌, subst, arith}
use Rattle.std.specs.Prelude.{is_some, if◌then◌else◌}
use Rattle.std.specs.Option.{option_or}
use Rattle.std.specs.List.{list_any}
use Rattle.std.proofs.lemmas.Bool.{and_parts, or_parts}
use Rattle.std.proofs.lemmas.List.Folds.{find-append}
use Rattle.tta_list.proofs.Tests.{equal_is, none_from_is_some}
use Rattle.tta_flight.proofs.Come.{none_come, come_rest}
use Rattle.tta_sim.specs.Cited.{Result', StayBeside, Rings, shown_in, due_in, later_in, is_among, AreAllOver, HasCome, HaveCome, IsStarted, due_at, is_due, word_due}
use Rattle.tta_sim.specs.declared.dues.Due.{Due}
use Rattle.tta_sim.specs.Results.{Results, AreThere, shown_by, due_by}
use Rattle.tta_sim.specs.Dues.{started_at, IsFittingDue, CanAllBegin}
use Rattle.tta_sim.specs.InPlace.{delay_now, CanStart, AreStarted}
use Rattle.tta_sim.proofs.Beginning.{AreBegun}

or_none : {A : Type 0} (o : Option A) → option_or o None ≡ o
or_none None = refl
or_none (Some x) = refl

-- ---- how long a result is kept back

once : (latency : ℕ) → (latency == 1) ≡ true → delay_now latency ≡ 0
once latency is = ap (λ b. if b then 0 else latency) is

not_once : (latency : ℕ) → (latency == 1) ≡ false → delay_now latency ≡ latency
not_once latency is = ap (λ b. if b then 0 else latency) is

never_next : (latency : ℕ) → 1 ≢ delay_now latency
never_next latency = elim (latency == 1) as (λ b. (latency == 1) ≡ b → 1 ≢ (if b then 0 else latency)) [
  | true ↦ λ is same. omega (arith, same)
  | false ↦ λ is same. grind (arith, is, same)
] refl

pub at_one : (now latency : ℕ) → (now + latency == now + 1) ≡ (latency == 1)
at_one now latency = grind arith

at_same : (now a b : ℕ) → (now + a == now + b) ≡ (a == b)
at_same now a b = grind arith

many : (latency : ℕ) → 0 < latency → (latency == 1) ≡ false → 1 < latency
many latency some is = grind (arith, some, is)

-- ---- none

over_later : (u d : ℕ) (a b : Rings) → AreAllOver a b → 0 < d → due_in b u d ≡ due_in a u d
over_later u zero a b over some = absurd (omega (arith, some))
over_later u (suc p) a b over some = over.later u p

-- what was due at this moment is over, and none is started
pub none_started : (now : ℕ) (r : Results) (rings : Rings) → AreAllOver r.rings rings → AreStarted now r [] rings
none_started now r rings over = record {
  kept = record { units = over.units; longest = over.longest };
  shown = λ unit less. over.shown (r.base + unit);
  at_once = λ unit less. over.now (r.base + unit);
  next = λ unit less. over_later (r.base + unit) 1 r.rings rings over (omega arith);
  later = λ unit delay less many. over_later (r.base + unit) delay r.rings rings over (omega (arith, many));
}

-- ---- one more

module _ (now : ℕ) (r : Results) (there : AreThere r) (done : List Result') (d : Due) (fits : IsFittingDue r d) (old new : Rings) (was : AreStarted now r done old)
    (is : IsStarted (r.base + d.unit) (delay_now d.latency) d.value old new) (none : (due : ℕ) → due_at d.unit due done ≡ None) where
  abbrev more : List Result'
  more = done ++ started_at now d ∷ []

  -- what is due of the unit is this one alone
  own : (due : ℕ) → due_at d.unit due more ≡ (if now + d.latency == due then Some (started_at now d) else None)
  own due =
      find-append (is_due d.unit due) done (started_at now d ∷ []) ∙ ap (λ o. option_or o (due_at d.unit due (started_at now d ∷ []))) (none due)
      ∙ ap (λ b. if b && now + d.latency == due then Some (started_at now d) else None) (same_unit d.unit)
    where
      same_unit : (n : ℕ) → (n == n) ≡ true
      same_unit n = grind arith

  -- another unit is as before
  module _ (unit : ℕ) (less : unit < r.units) (other : (d.unit == unit) ≡ false) where
    apart : r.base + unit ≢ r.base + d.unit
    apart = λ same. grind (arith, same, other)

    others : (due : ℕ) → due_at unit due more ≡ due_at unit due done
    others due =
        find-append (is_due unit due) done (started_at now d ∷ [])
        ∙ ap (λ b. option_or (due_at unit due done) (if b && now + d.latency == due then Some (started_at now d) else None)) other
        ∙ or_none (due_at unit due done)

    other_due : (delay : ℕ) → due_in new (r.base + unit) delay ≡ due_in old (r.base + unit) delay
    other_due delay = is.unit_apart (r.base + unit) delay (omega (arith, less, there.there, was.kept.units)) apart

    other_shown : shown_in new (r.base + unit) ≡ shown_in old (r.base + unit)
    other_shown =
        is.shown (r.base + unit) ∙ ap (λ b. if b && delay_now d.latency == 0 then Some d.value else shown_in old (r.base + unit)) (differs (r.base + unit) (r.base + d.unit) apart)
      where
        differs : (a b : ℕ) → a ≢ b → (a == b) ≡ false
        differs a b other = grind (arith, other)

  here_shown : shown_in new (r.base + d.unit) ≡ option_or (word_due (due_at d.unit (now + 1) more)) (shown_by r d.unit)
  here_shown =
      is.shown (r.base + d.unit) ∙ ap (λ b. if b && delay_now d.latency == 0 then Some d.value else shown_in old (r.base + d.unit)) (same_unit (r.base + d.unit))
      ∙ elim (d.latency == 1) as (λ b. (d.latency == 1) ≡ b → (if delay_now d.latency == 0 then Some d.value else shown_in old (r.base + d.unit))
      ≡ option_or (word_due (if b then Some (started_at now d) else None)) (shown_by r d.unit)) [
        | true ↦ λ is. ap (λ n. if n == 0 then Some d.value else shown_in old (r.base + d.unit)) (once d.latency is)
        | false ↦ λ is.
            let late : (delay_now d.latency == 0) ≡ false = ap (λ n. n == 0) (not_once d.latency is) ∙ some d.latency fits.later in
            ap (λ b. if b then Some d.value else shown_in old (r.base + d.unit)) late
            ∙ was.shown d.unit fits.unit ∙ ap (λ o. option_or (word_due o) (shown_by r d.unit)) (none (now + 1))
      ] refl
      ∙ sym (ap (λ o. option_or (word_due o) (shown_by r d.unit)) (own (now + 1) ∙ ap (λ b. if b then Some (started_at now d) else None) (at_one now d.latency)))
    where
      same_unit : (n : ℕ) → (n == n) ≡ true
      same_unit n = grind arith

      some : (n : ℕ) → 0 < n → (n == 0) ≡ false
      some n more = grind (arith, more)

  here_at_once : due_in new (r.base + d.unit) 0 ≡ word_due (due_at d.unit (now + 1) more)
  here_at_once =
      elim (d.latency == 1) as (λ b. (d.latency == 1) ≡ b → due_in new (r.base + d.unit) 0 ≡ word_due (if b then Some (started_at now d) else None)) [
        | true ↦ λ at. subst (λ n. due_in new (r.base + d.unit) n ≡ Some d.value) (once d.latency at) is.here
        | false ↦ λ at.
            is.delay_apart 0 (λ same. omega (arith, same, not_once d.latency at, fits.later)) ∙ was.at_once d.unit fits.unit ∙ ap word_due (none (now + 1))
      ] refl
      ∙ sym (ap word_due (own (now + 1) ∙ ap (λ b. if b then Some (started_at now d) else None) (at_one now d.latency)))

  here_later : (delay : ℕ) → 1 < delay → due_in new (r.base + d.unit) delay ≡ option_or (word_due (due_at d.unit (now + delay) more)) (due_by r d.unit delay)
  here_later delay late =
      elim (d.latency == delay) as (λ b. (d.latency == delay) ≡ b → due_in new (r.base + d.unit) delay ≡ option_or (word_due (if b then Some (started_at now d) else None)) (due_by r d.unit delay)) [
        | true ↦ λ at. subst (λ n. due_in new (r.base + d.unit) n ≡ Some d.value) (not_once d.latency (more_than d.latency delay at late) ∙ equal_is d.latency delay at) is.here
        | false ↦ λ at.
            is.delay_apart delay (apart_from d.latency delay at late) ∙ was.later d.unit delay fits.unit late ∙ ap (λ o. option_or (word_due o) (due_by r d.unit delay)) (none (now + delay))
      ] refl
      ∙ sym (ap (λ o. option_or (word_due o) (due_by r d.unit delay)) (own (now + delay) ∙ ap (λ b. if b then Some (started_at now d) else None) (at_same now d.latency delay)))
    where
      more_than : (n k : ℕ) → (n == k) ≡ true → 1 < k → (n == 1) ≡ false
      more_than n k at late = grind (arith, at, late)

      apart_from : (n k : ℕ) → (n == k) ≡ false → 1 < k → k ≢ delay_now n
      apart_from n k at late = λ same. elim (n == 1) as (λ b. (n == 1) ≡ b → ⊥) [
        | true ↦ λ one. omega (arith, same, once n one, late)
        | false ↦ λ other. let is : n ≡ k = sym (same ∙ not_once n other) in grind (arith, at, is)
      ] refl

  -- one more was started, where none of its unit was
  pub one_started : AreStarted now r more new
  one_started = record {
    kept = record { units = is.units ∙ was.kept.units; longest = λ unit. is.longest unit ∙ was.kept.longest unit };
    shown = λ unit less. by_unit unit (λ u. shown_in new (r.base + u) ≡ option_or (word_due (due_at u (now + 1) more)) (shown_by r u)) here_shown (λ other.
        other_shown unit less other ∙ was.shown unit less ∙ ap (λ o. option_or (word_due o) (shown_by r unit)) (sym (others unit less other (now + 1))));
    at_once = λ unit less. by_unit unit (λ u. due_in new (r.base + u) 0 ≡ word_due (due_at u (now + 1) more)) here_at_once (λ other.
        other_due unit less other 0 ∙ was.at_once unit less ∙ ap word_due (sym (others unit less other (now + 1))));
    next = λ unit less. by_unit unit (λ u. due_in new (r.base + u) 1 ≡ due_by r u 1) (is.delay_apart 1 (never_next d.latency) ∙ was.next d.unit fits.unit) (λ other.
        other_due unit less other 1 ∙ was.next unit less);
    later = λ unit delay less late. by_unit unit (λ u. due_in new (r.base + u) delay ≡ option_or (word_due (due_at u (now + delay) more)) (due_by r u delay)) (here_later delay late) (λ other.
        other_due unit less other delay ∙ was.later unit delay less late ∙ ap (λ o. option_or (word_due o) (due_by r unit delay)) (sym (others unit less other (now + delay))));
  } where
    by_unit : (unit : ℕ) (P : ℕ → Type 0) → P d.unit → ((d.unit == unit) ≡ false → P unit) → P unit
    by_unit unit P here apart = elim (d.unit == unit) as (λ b. (d.unit == unit) ≡ b → P unit) [
      | true ↦ λ is. subst P (equal_is d.unit unit is) here
      | false ↦ λ other. apart other
    ] refl

-- a result can be started where none of its unit was
pub can_start : (now : ℕ) (r : Results) → AreThere r → (done : List Result') (d : Due) → IsFittingDue r d → (old : Rings) → AreStarted now r done old
    → ((due : ℕ) → due_at d.unit due done ≡ None) → due_by r d.unit d.latency ≡ None → CanStart r.base old d
can_start now r there done d fits old was none free = record {
  few = omega (arith, fits.unit, there.few);
  there = omega (arith, fits.unit, there.there, was.kept.units);
  soon = omega (arith, no_longer d.latency, fits.soon, was.kept.longest (r.base + d.unit));
  free = elim (d.latency == 1) as (λ b. (d.latency == 1) ≡ b → due_in old (r.base + d.unit) (delay_now d.latency) ≡ None) [
    | true ↦ λ is. ap (due_in old (r.base + d.unit)) (once d.latency is) ∙ was.at_once d.unit fits.unit ∙ ap word_due (none (now + 1))
    | false ↦ λ is.
        ap (due_in old (r.base + d.unit)) (not_once d.latency is) ∙ was.later d.unit d.latency fits.unit (many d.latency fits.later is)
        ∙ ap (λ o. option_or (word_due o) (due_by r d.unit d.latency)) (none (now + d.latency)) ∙ free
  ] refl;
} where
  no_longer : (latency : ℕ) → delay_now latency ≤ latency
  no_longer latency = elim (latency == 1) as (λ b. (if b then 0 else latency) ≤ latency) [
    | true ↦ omega arith
    | false ↦ omega arith
  ]

-- ---- the next cycle

-- where nothing is to come, all that is to come is one cycle nearer as it is
pub still_come : (rings : Rings) → ((unit past : ℕ) → unit < length rings.rings → later_in rings unit past ≡ None) → HaveCome (length rings.rings) rings rings
still_come rings none = come_rest 0 rings rings (none_come rings) (λ u past least had. none u past had)

-- nothing else is due at the time of a result that can begin
free_at : (now unit delay : ℕ) (r : Results) (dues : List Due) → list_any (λ d. is_some (due_by r d.unit d.latency)) dues ≡ false
    → is_some (due_at unit (now + delay) (map (started_at now) dues)) ≡ true → due_by r unit delay ≡ None
free_at now unit delay r [] free some = cc
free_at now unit delay r (d ∷ dues) free some =
    let parts = or_parts (is_some (due_by r d.unit d.latency)) (list_any (λ d. is_some (due_by r d.unit d.latency)) dues) free in
    elim (d.unit == unit && now + d.latency == now + delay) as (λ b. (d.unit == unit && now + d.latency == now + delay) ≡ b
    → is_some (if b then Some (started_at now d) else due_at unit (now + delay) (map (started_at now) dues)) ≡ true → due_by r unit delay ≡ None) [
      | true ↦ λ both some.
          let here = and_parts (d.unit == unit) (now + d.latency == now + delay) both in
          let at : (d.latency == delay) ≡ true = sym (at_same now d.latency delay) ∙ here.1 in
          subst (λ u. due_by r u delay ≡ None) (equal_is d.unit unit here.0)
          (subst (λ n. due_by r d.unit n ≡ None) (equal_is d.latency delay at) (none_from_is_some (due_by r d.unit d.latency) parts.0))
      | false ↦ λ other some. free_at now unit delay r dues parts.1 some
    ] refl some

is_some_due : (o : Option Result') → is_some (word_due o) ≡ is_some o
is_some_due None = refl
is_some_due (Some q) = refl

swap : (a b c : Option ℕ) → (is_some b ≡ true → a ≡ None) → option_or a (option_or b c) ≡ option_or b (option_or a c)
swap None b c apart = refl
swap (Some x) None c apart = refl
swap (Some x) (Some y) c apart = absurd (gone (apart refl)) where
  gone : Some x ≡ None → ⊥
  gone is = cc

-- the results that were started begin once the next cycle comes
pub all_begin : (now : ℕ) (r : Results) (dues : List Due) (old new : Rings) → AreThere r → CanAllBegin r dues → AreStarted now r (map (started_at now) dues) old
    → HaveCome (length old.rings) old new → StayBeside r.base r.units r.rings new → AreBegun now r (map (started_at now) dues) new
all_begin now r dues old new there can was come beside = record {
  kept = record { units = come.units ∙ was.kept.units; longest = λ unit. come.longest unit ∙ was.kept.longest unit };
  shown = λ unit less.
      let here = each unit less in
      here.shown ∙ ap (λ o. option_or o (shown_in old (r.base + unit))) (was.next unit less)
      ∙ ap (option_or (due_by r unit 1)) (was.shown unit less)
      ∙ swap (due_by r unit 1) (word_due (due_at unit (now + 1) (map (started_at now) dues))) (shown_by r unit) (apart unit 1);
  due = λ unit delay less. by unit less delay;
  beside = beside;
} where
  each : (unit : ℕ) → unit < r.units → HasCome (r.base + unit) old new
  each unit less =
      let had : r.base + unit < length old.rings = omega (arith, less, there.there, was.kept.units) in
      come.come (r.base + unit) had had

  apart : (unit delay : ℕ) → is_some (word_due (due_at unit (now + delay) (map (started_at now) dues))) ≡ true → due_by r unit delay ≡ None
  apart unit delay some = free_at now unit delay r dues can.free (sym (is_some_due (due_at unit (now + delay) (map (started_at now) dues))) ∙ some)

  by : (unit : ℕ) → unit < r.units → (delay : ℕ)
      → due_in new (r.base + unit) delay ≡ option_or (word_due (due_at unit (now + 1 + delay) (map (started_at now) dues))) (due_in r.rings (r.base + unit) (delay + 1))
  by unit less zero =
      let sum : now + 1 ≡ now + 1 + 0 = omega arith in
      let b = word_due (due_at unit (now + 1) (map (started_at now) dues)) in
      (each unit less).now ∙ ap (λ o. option_or o (due_in old (r.base + unit) 0)) (was.next unit less) ∙ ap (option_or (due_by r unit 1)) (was.at_once unit less)
      ∙ ap (option_or (due_by r unit 1)) (sym (or_none b)) ∙ swap (due_by r unit 1) b None (apart unit 1) ∙ ap (option_or b) (or_none (due_by r unit 1))
      ∙ ap (λ n. option_or (word_due (due_at unit n (map (started_at now) dues))) (due_by r unit 1)) sum
  by unit less (suc p) =
      let delay : ℕ = suc (p + 1) in
      let sum : now + delay ≡ now + 1 + suc p = omega arith in
      let past : delay ≡ suc p + 1 = omega arith in
      (each unit less).later p ∙ was.later unit delay less (omega arith)
      ∙ ap (λ n. option_or (word_due (due_at unit n (map (started_at now) dues))) (due_by r unit delay)) sum
      ∙ ap (λ n. option_or (word_due (due_at unit (now + 1 + suc p) (map (started_at now) dues))) (due_by r unit n)) past

-- a region of one machine's units has no others
pub none_beside : (base units : ℕ) (old new : Rings) → base ≡ 0 → length old.rings ≡ units → StayBeside base units old new
none_beside base units old new first all = record {
  shown = λ u had other. absurd (here u had other);
  due = λ u d had other. absurd (here u had other);
} where
  here : (u : ℕ) → u < length old.rings → is_among base units u ≡ false → ⊥
  here u had other = grind (arith, first, all, had, other)
