-- Results that begin one by one.
use Rattle.std.proofs.Common.{◌≡◌, ◌≢◌, ◌<◌, ◌≤◌, ◌+◌, ◌-◌, ◌==◌, ◌&&◌, ℕ, zero, suc, Bool, true, false, List, [], ◌∷◌, ◌++◌, length, map, take, get_or, Option, None, Some, refl, ap, sym, ◌∙◌, subst, arith}
use Rattle.std.specs.Prelude.{is_some, nat_lt, nat_le, if◌then◌else◌}
use Rattle.std.specs.Option.{option_or}
use Rattle.std.specs.List.{list_any, AllByRecursion}
use Rattle.std.proofs.lemmas.Bool.{and_parts, ne_eqb}
use Rattle.std.proofs.lemmas.List.{map-append, take_more}
use Rattle.std.proofs.lemmas.List.Folds.{find-append}
use Rattle.tta_sim.specs.Cited.{are_different, Result', StayBeside, Rings, shown_in, due_in, is_among, IsAdvanced, due_at, is_due, word_due}
use Rattle.tta_sim.specs.declared.results.Part.{Part}
use Rattle.tta_sim.specs.declared.dues.Due.{Due}
use Rattle.tta_sim.specs.Results.{Results, AreThere, AreKept, results_at, due_by}
use Rattle.tta_sim.specs.Dues.{started_at, IsFittingDue, CanAllBegin, CanBegin, HasBegun}
use Rattle.tta_sim.specs.Ready.{Begin, KeepsOthers}
use Rattle.tta_sim.proofs.Showing.{results_more}
use Rattle.tta_flight.proofs.Parts.{among as among_units}
use Rattle.tta_list.proofs.Tests.{equal_is as equal, none_from_is_some}

-- ---- lists

-- a test that none passes
pub none_at : {A : Type 0} (p : A → Bool) (xs : List A) (k : ℕ) (d : A) → list_any p xs ≡ false → k < length xs → p (get_or xs k d) ≡ false
none_at p [] k d none within = absurd (omega (arith, within))
none_at p (x ∷ xs) zero d none within = grind (arith, none)
none_at p (x ∷ xs) (suc k) d none within = none_at p xs k d (grind (arith, none)) (omega (arith, within))

-- elements before one differ from it
pub apart_at : {A : Type 0} (same : A → A → Bool) (xs : List A) (k : ℕ) (d : A) → are_different same xs ≡ true → k < length xs
    → AllByRecursion (λ a. same a (get_or xs k d) ≡ false) (take k xs)
apart_at same xs zero d apart within = tt
apart_at same [] (suc k) d apart within = tt
apart_at same (x ∷ xs) (suc k) d apart within =
    (none_at (same x) xs k d (grind (arith, apart)) (omega (arith, within)), apart_at same xs k d (grind (arith, apart)) (omega (arith, within)))

-- what all have
pub all_at : {A : Type 0} (P : A → Type 0) (xs : List A) (k : ℕ) (d : A) → AllByRecursion P xs → k < length xs → P (get_or xs k d)
all_at P [] k d all within = absurd (omega (arith, within))
all_at P (x ∷ xs) zero d all within = all.0
all_at P (x ∷ xs) (suc k) d all within = all_at P xs k d all.1 (omega (arith, within))

-- ---- one after another

-- What is known when these results have begun in some units of a region, and the next cycle has come: each port shows what is due in
-- it, or what it showed, and nothing else is due.
pub record AreBegun (now : ℕ) (r : Results) (new : List Result') (rings : Rings) : Type 0 where
  pub kept : AreKept r.rings rings
  pub shown : (unit : ℕ) → unit < r.units → shown_in rings (r.base + unit)
      ≡ option_or (word_due (due_at unit (now + 1) new)) (option_or (due_in r.rings (r.base + unit) 1) (shown_in r.rings (r.base + unit)))
  pub due : (unit delay : ℕ) → unit < r.units
      → due_in rings (r.base + unit) delay ≡ option_or (word_due (due_at unit (now + 1 + delay) new)) (due_in r.rings (r.base + unit) (delay + 1))
  pub beside : StayBeside r.base r.units r.rings rings

-- none has begun when the next cycle comes
pub none_begun : (now : ℕ) (r : Results) (rings : Rings) → AreThere r → IsAdvanced r.base r.units r.rings rings → StayBeside r.base r.units r.rings rings
    → AreBegun now r [] rings
none_begun now r rings there is beside = record {
  kept = record { units = is.units; longest = is.longest };
  shown = λ unit less.
      is.shown (r.base + unit) (omega (arith, less, there.there))
      ∙ ap (λ b. if b then option_or (due_in r.rings (r.base + unit) 1) (shown_in r.rings (r.base + unit)) else shown_in r.rings (r.base + unit)) (among_units r.base r.units unit less);
  due = λ unit delay less.
      is.due (r.base + unit) delay (omega (arith, less, there.there))
      ∙ ap (λ b. if b then due_in r.rings (r.base + unit) (delay + 1) else due_in r.rings (r.base + unit) delay) (among_units r.base r.units unit less);
  beside = beside;
}

-- all elements are among so many
pub take_past : {A : Type 0} (xs : List A) (k : ℕ) → length xs ≤ k → take k xs ≡ xs
take_past [] zero past = refl
take_past [] (suc k) past = refl
take_past (x ∷ xs) zero past = absurd (omega (arith, past))
take_past (x ∷ xs) (suc k) past = ap (λ ys. x ∷ ys) (take_past xs k (omega (arith, past)))

or_none : {A : Type 0} (o : Option A) → option_or o None ≡ o
or_none None = refl
or_none (Some x) = refl

differ : (a b n : ℕ) → (a == b) ≡ false → n + b ≢ n + a
differ a b n other = λ same.
    let is : a ≡ b = omega (arith, same) in
    grind (arith, other, is)

not_among : (base count u n : ℕ) → u < count → is_among base count n ≡ false → n ≢ base + u
not_among base count u n less beside = λ same.
    let least : nat_le base n ≡ true = grind (arith, same) in
    let most : nat_lt n (base + count) ≡ true = grind (arith, same, less) in
    grind (arith, least, most, beside)

-- a result after `latency` cycles is due so long after the next one
delay_of : (latency delay now : ℕ) → (now + latency == now + 1 + delay) ≡ true → latency - 1 ≡ delay
delay_of latency delay now is = grind (arith, is)

other_delay : (latency delay now : ℕ) → 0 < latency → (now + latency == now + 1 + delay) ≡ false → delay ≢ latency - 1
other_delay latency delay now later other = λ same. grind (arith, later, other, same)

same_port : (base a b : ℕ) → (base + b == base + a) ≡ (a == b)
same_port base a b = elim (a == b) as (λ x. (a == b) ≡ x → (base + b == base + a) ≡ x) [
  | true ↦ λ is. grind (arith, is)
  | false ↦ λ is. grind (arith, is)
] refl

at_once : (latency now : ℕ) → 0 < latency → (latency - 1 == 0) ≡ (now + latency == now + 1)
at_once latency now later = elim (now + latency == now + 1) as (λ x. (now + latency == now + 1) ≡ x → (latency - 1 == 0) ≡ x) [
  | true ↦ λ is. grind (arith, is)
  | false ↦ λ is. grind (arith, is, later)
] refl

module _ (now : ℕ) (r : Results) (there : AreThere r) (done : List Result') (d : Due) (fits : IsFittingDue r d) (old new : Rings) (was : AreBegun now r done old)
    (is : HasBegun r.base d old new) where
  -- what is due of another unit, or at another time, stays
  other_due : (unit delay : ℕ) → unit < r.units → (d.unit == unit && now + d.latency == now + 1 + delay) ≡ false
      → due_in new (r.base + unit) delay ≡ due_in old (r.base + unit) delay
  other_due unit delay less other = by (d.unit == unit) refl where
    by : (b : Bool) → (d.unit == unit) ≡ b → due_in new (r.base + unit) delay ≡ due_in old (r.base + unit) delay
    by true here =
        let same : d.unit ≡ unit = equal d.unit unit here in
        let apart : (now + d.latency == now + 1 + delay) ≡ false = sym (ap (λ b. b && now + d.latency == now + 1 + delay) here) ∙ other in
        subst (λ n. due_in new (r.base + n) delay ≡ due_in old (r.base + n) delay) same (is.delay_apart delay (other_delay d.latency delay now fits.later apart))
    by false here = is.unit_apart (r.base + unit) delay (omega (arith, less, there.there, was.kept.units)) (differ d.unit unit r.base here)

  -- one more has begun, where none of its unit has
  pub one_more : due_at d.unit (now + d.latency) done ≡ None → AreBegun now r (done ++ started_at now d ∷ []) new
  one_more none = record {
    kept = record { units = is.units ∙ was.kept.units; longest = λ unit. is.longest unit ∙ was.kept.longest unit };
    shown = λ unit less.
        is.shown (r.base + unit)
        ∙ ap (λ b. if b && d.latency - 1 == 0 then Some d.value else shown_in old (r.base + unit)) (same_port r.base d.unit unit)
        ∙ ap (λ b. if d.unit == unit && b then Some d.value else shown_in old (r.base + unit)) (at_once d.latency now fits.later)
        ∙ shows unit less (d.unit == unit && now + d.latency == now + 1) refl
        ∙ ap (λ o. option_or (word_due o) (option_or (due_in r.rings (r.base + unit) 1) (shown_in r.rings (r.base + unit))))
        (sym (find-append (is_due unit (now + 1)) done (started_at now d ∷ [])));
    due = λ unit delay less.
        by unit delay less (d.unit == unit && now + d.latency == now + 1 + delay) refl
        ∙ ap (λ o. option_or (word_due o) (due_in r.rings (r.base + unit) (delay + 1))) (sym (find-append (is_due unit (now + 1 + delay)) done (started_at now d ∷ [])));
    beside = record {
      shown = λ unit had other.
          let apart : (unit == r.base + d.unit) ≡ false = ne_eqb unit (r.base + d.unit) (not_among r.base r.units d.unit unit fits.unit other) in
          is.shown unit ∙ ap (λ b. if b && d.latency - 1 == 0 then Some d.value else shown_in old unit) apart ∙ was.beside.shown unit had other;
      due = λ unit delay had other.
          is.unit_apart unit delay (omega (arith, had, was.kept.units)) (not_among r.base r.units d.unit unit fits.unit other) ∙ was.beside.due unit delay had other;
    };
  } where
    -- no result of the unit has begun that is due then
    first : (unit due : ℕ) → (d.unit == unit) ≡ true → (now + d.latency == due) ≡ true → due_at unit due done ≡ None
    first unit due here then_due =
        subst (λ n. due_at n due done ≡ None) (equal d.unit unit here) (subst (λ k. due_at d.unit k done ≡ None) (equal (now + d.latency) due then_due) none)

    shows : (unit : ℕ) → unit < r.units → (b : Bool) → (d.unit == unit && now + d.latency == now + 1) ≡ b
        → (if b then Some d.value else shown_in old (r.base + unit))
        ≡ option_or (word_due (option_or (due_at unit (now + 1) done) (if b then Some (started_at now d) else None)))
        (option_or (due_in r.rings (r.base + unit) 1) (shown_in r.rings (r.base + unit)))
    shows unit less true both =
        let parts = and_parts (d.unit == unit) (now + d.latency == now + 1) both in
        sym (ap (λ o. option_or (word_due (option_or o (Some (started_at now d)))) (option_or (due_in r.rings (r.base + unit) 1) (shown_in r.rings (r.base + unit))))
        (first unit (now + 1) parts.0 parts.1))
    shows unit less false other =
        was.shown unit less
        ∙ ap (λ o. option_or (word_due o) (option_or (due_in r.rings (r.base + unit) 1) (shown_in r.rings (r.base + unit)))) (sym (or_none (due_at unit (now + 1) done)))

    by : (unit delay : ℕ) → unit < r.units → (b : Bool) → (d.unit == unit && now + d.latency == now + 1 + delay) ≡ b
        → due_in new (r.base + unit) delay
        ≡ option_or (word_due (option_or (due_at unit (now + 1 + delay) done) (if b then Some (started_at now d) else None))) (due_in r.rings (r.base + unit) (delay + 1))
    by unit delay less true both =
        let parts = and_parts (d.unit == unit) (now + d.latency == now + 1 + delay) both in
        let here : due_in new (r.base + unit) delay ≡ Some d.value =
        subst (λ n. due_in new (r.base + n) delay ≡ Some d.value) (equal d.unit unit parts.0)
        (subst (λ k. due_in new (r.base + d.unit) k ≡ Some d.value) (delay_of d.latency delay now parts.1) is.here) in
        here ∙ sym (ap (λ o. option_or (word_due (option_or o (Some (started_at now d)))) (due_in r.rings (r.base + unit) (delay + 1))) (first unit (now + 1 + delay) parts.0 parts.1))
    by unit delay less false other =
        other_due unit delay less other ∙ was.due unit delay less
        ∙ ap (λ o. option_or (word_due o) (due_in r.rings (r.base + unit) (delay + 1))) (sym (or_none (due_at unit (now + 1 + delay) done)))

-- other units' results are none of this one's
pub no_result : (now unit due : ℕ) (dues : List Due) → AllByRecursion (λ a. (a.unit == unit) ≡ false) dues → due_at unit due (map (started_at now) dues) ≡ None
no_result now unit due [] others = refl
no_result now unit due (d ∷ dues) others = let rest = no_result now unit due dues others.1 in grind (arith, rest, others.0)

module _ (now : ℕ) (r : Results) (there : AreThere r) (dues : List Due) (can : CanAllBegin r dues) (k : ℕ) (z d : Due) (within : k < length dues) (at : d ≡ get_or dues k z)
    (old : Rings) (was : AreBegun now r (map (started_at now) (take k dues)) old) where
  fits : IsFittingDue r d
  fits = subst (IsFittingDue r) (sym at) (all_at (IsFittingDue r) dues k z can.fitting within)

  alone : due_at d.unit (now + d.latency) (map (started_at now) (take k dues)) ≡ None
  alone =
      no_result now d.unit (now + d.latency) (take k dues)
      (subst (λ x. AllByRecursion (λ a. (a.unit == x.unit) ≡ false) (take k dues)) (sym at) (apart_at (λ a b. a.unit == b.unit) dues k z can.apart within))

  -- the next result can begin
  pub can_next : CanBegin r.base old d
  can_next =
      let free : is_some (due_by r d.unit d.latency) ≡ false =
      ap (λ x. is_some (due_by r x.unit x.latency)) at ∙ none_at (λ x. is_some (due_by r x.unit x.latency)) dues k z can.free within in
      record {
        few = omega (arith, fits.unit, there.few);
        there = omega (arith, fits.unit, there.there, was.kept.units);
        later = fits.later;
        soon = omega (arith, fits.soon, was.kept.longest (r.base + d.unit));
        free =
            let last : d.latency - 1 + 1 ≡ d.latency = omega (arith, fits.later) in
            let then_due : now + 1 + (d.latency - 1) ≡ now + d.latency = omega (arith, fits.later) in
            was.due d.unit (d.latency - 1) fits.unit
            ∙ ap (λ n. option_or (word_due (due_at d.unit n (map (started_at now) (take k dues)))) (due_in r.rings (r.base + d.unit) (d.latency - 1 + 1))) then_due
            ∙ ap (λ o. option_or (word_due o) (due_in r.rings (r.base + d.unit) (d.latency - 1 + 1))) alone
            ∙ ap (λ n. due_in r.rings (r.base + d.unit) n) last ∙ none_from_is_some (due_by r d.unit d.latency) free;
      }

  -- one more has begun
  pub begun_next : (new : Rings) → HasBegun r.base d old new → AreBegun now r (map (started_at now) (take (k + 1) dues)) new
  begun_next new is =
      let more : map (started_at now) (take k dues) ++ started_at now d ∷ [] ≡ map (started_at now) (take (k + 1) dues) =
      ap (λ x. map (started_at now) (take k dues) ++ started_at now x ∷ []) at
      ∙ sym (map-append (started_at now) (take k dues) (get_or dues k z ∷ [])) ∙ ap (map (started_at now)) (sym (take_more dues k z within)) in
      subst (λ xs. AreBegun now r xs new) more (one_more now r there (map (started_at now) (take k dues)) d fits old new was is alone)

-- ---- all at once

-- a result shows in a later cycle
begun_later : (now : ℕ) (r : Results) (dues : List Due) → AllByRecursion (IsFittingDue r) dues → AllByRecursion (λ q. now < q.due) (map (started_at now) dues)
begun_later now r [] fit = tt
begun_later now r (d ∷ dues) fit = (omega (arith, fit.0.later), begun_later now r dues fit.1)

-- the results of all operations come beside the others
pub all_begun : (now : ℕ) (r : Results) (dues : List Due) (rings : Rings) → CanAllBegin r dues → AreBegun now r (map (started_at now) dues) rings
    → Begin (map (started_at now) dues) now r (record r { rings = rings })
all_begun now r dues rings can are = λ started same.
    results_more started (map (started_at now) dues) now r rings same (begun_later now r dues can.fitting) are.shown are.due

-- other machines' units stay
pub others_begun : (now : ℕ) (part : Part) (old : Rings) (new : List Result') (rings : Rings) → AreBegun now (results_at part old) new rings → KeepsOthers part old rings
others_begun now part old new rings are = record { kept = are.kept; beside = are.beside }
