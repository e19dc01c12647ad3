-- The results that a cycle begins.
use Rattle.std.proofs.Common.{◌≡◌, ℕ, ◌+◌, ◌<◌, ◌==◌, Bool, true, false, not, ◌&&◌, ◌||◌, List, [], ◌∷◌, Option, Some, None, refl, sym, ap, ◌∙◌, arith}
use Rattle.std.specs.Prelude.{if◌then◌else◌, slice_index, option_and_then, fold}
use Rattle.std.specs.Option.{option_or}
use Rattle.std.specs.List.{list_any, filter_map, cons_option, AllByRecursion}
use Rattle.std.proofs.lemmas.Option.{none-some, same_Some}
use Rattle.std.proofs.lemmas.Bool.{and_parts, or_parts, eq-eqb, ne_eqb, eqb-true, false≢true, not-true}
use Rattle.tta_hardware.specs.Cited.{Units, are_different, Start, has_result, result_word, takes, State, Result', later, due_at, word_due}
use Rattle.tta_code.specs.Cycle.{result_of}
use Rattle.tta_hardware.specs.Stands.{start_in}

-- ---- the results that begin

-- the word of one of two results
pub word_either : (a b : Option Result') → word_due (option_or a b) ≡ option_or (word_due a) (word_due b)
word_either None b = refl
word_either (Some r) b = refl

module _ (u : Units) (s : State) (due : ℕ) where
  -- the result of an operation of a unit that is due at a time
  abbrev pub begun_at : Start → Option Result'
  begun_at t =
      if has_result t.does.op && s.cycle + t.does.latency == due
      then Some (record {
        unit = t.unit;
        due = s.cycle + t.does.latency;
        value =
            result_word u s.memory s.frame (slice_index s.rest 0) t t.does.op;
      })
      else None

  none_due : (unit : ℕ) (ts : List Start) → list_any (λ t. t.unit == unit) ts ≡ false → due_at unit due (filter_map (result_of u s) ts)
      ≡ None
  none_due unit [] none = refl
  none_due unit (t ∷ ts) none =
      let parts = or_parts (t.unit == unit) (list_any (λ t. t.unit == unit) ts) none in
      by (has_result t.does.op) refl parts.0 (none_due unit ts parts.1)
    where
      by : (b : Bool) → has_result t.does.op ≡ b → (t.unit == unit) ≡ false → due_at unit due (filter_map (result_of u s) ts) ≡ None
          → due_at unit due (filter_map (result_of u s) (t ∷ ts)) ≡ None
      by true is other rest = rw (is, other) rest
      by false is other rest = rw is rest

  -- two units that are one
  turned : (unit : ℕ) (t : Start) (ts : List Start) → (t.unit == unit) ≡ true → list_any (λ b. t.unit == b.unit) ts ≡ false
      → list_any (λ b. b.unit == unit) ts ≡ false
  turned unit t [] here none = refl
  turned unit t (b ∷ ts) here none =
      let parts = or_parts (t.unit == b.unit) (list_any (λ b. t.unit == b.unit) ts) none in
      let same : t.unit ≡ unit = eqb-true t.unit unit here in
      let other : (b.unit == unit) ≡ false = other_way t.unit b.unit unit same parts.0 in
      ap (λ x. x || list_any (λ b. b.unit == unit) ts) other ∙ turned unit t ts here parts.1
    where
      other_way : (a b c : ℕ) → a ≡ c → (a == b) ≡ false → (b == c) ≡ false
      other_way a b c same apart = ne_eqb b c (λ e. absurd (false≢true (sym apart ∙ eq-eqb a b (same ∙ sym e))))

  -- the result that is due of a unit is that of its operation
  pub begun_due : (unit : ℕ) (ts : List Start) → are_different (λ a b. a.unit == b.unit) ts ≡ true
      → due_at unit due (filter_map (result_of u s) ts) ≡ option_and_then begun_at (start_in unit ts)
  begun_due unit [] apart = refl
  begun_due unit (t ∷ ts) apart =
      let parts = and_parts (not (list_any (λ b. t.unit == b.unit) ts)) (are_different (λ a b. a.unit == b.unit) ts) apart in
      by (t.unit == unit) refl (has_result t.does.op) refl (begun_due unit ts parts.1)
      (λ here. none_due unit ts (turned unit t ts here (not-true (list_any (λ b. t.unit == b.unit) ts) parts.0)))
    where
      value_of : ℕ
      value_of = result_word u s.memory s.frame (slice_index s.rest 0) t t.does.op

      at : (d : Bool) → due_at unit due (filter_map (result_of u s) ts) ≡ None
          → (if d then Some (record { unit = t.unit; due = s.cycle + t.does.latency; value = value_of })
          else due_at unit due (filter_map (result_of u s) ts))
          ≡ (if d then Some (record { unit = t.unit; due = s.cycle + t.does.latency; value = value_of }) else None)
      at true alone = refl
      at false alone = alone

      told : (b : Bool) → has_result t.does.op ≡ b
          → begun_at t
          ≡ (if b && s.cycle + t.does.latency == due then Some (record { unit = t.unit; due = s.cycle + t.does.latency; value = value_of })
          else None)
      told b is =
          ap (λ c. if c && s.cycle + t.does.latency == due
          then Some (record { unit = t.unit; due = s.cycle + t.does.latency; value = value_of }) else None) is

      by : (b : Bool) → (t.unit == unit) ≡ b → (c : Bool) → has_result t.does.op ≡ c
          → due_at unit due (filter_map (result_of u s) ts) ≡ option_and_then begun_at (start_in unit ts)
          → ((t.unit == unit) ≡ true → due_at unit due (filter_map (result_of u s) ts) ≡ None)
          → due_at unit due (filter_map (result_of u s) (t ∷ ts)) ≡ option_and_then begun_at (start_in unit (t ∷ ts))
      by true here true has rest alone = rw (has, here) (at (s.cycle + t.does.latency == due) (alone here) ∙ sym (told true has))
      by true here false has rest alone = rw (has, here) (alone here ∙ sym (told false has))
      by false here true has rest alone = rw (has, here) rest
      by false here false has rest alone = rw (has, here) rest

-- they show later than now
pub begun_later : (u : Units) (s : State) (ts : List Start) → AllByRecursion (λ t. has_result t.does.op ≡ true → 0 < t.does.latency) ts
    → AllByRecursion (λ r. s.cycle < r.due) (filter_map (result_of u s) ts)
begun_later u s [] all = tt
begun_later u s (t ∷ ts) all = by (has_result t.does.op) refl (begun_later u s ts all.1) where
  by : (b : Bool) → has_result t.does.op ≡ b → AllByRecursion (λ r. s.cycle < r.due) (filter_map (result_of u s) ts)
      → AllByRecursion (λ r. s.cycle < r.due) (cons_option (if b
      then Some (record {
        unit = t.unit;
        due = s.cycle + t.does.latency;
        value =
            result_word u s.memory s.frame (slice_index s.rest 0) t t.does.op;
      })
      else None) (filter_map (result_of u s) ts))
  by true has rest = let l = all.0 has in (omega (arith, l), rest)
  by false has rest = rest

-- the operation of a unit is one of those that start
pub takes_some : (unit : ℕ) (t : Start) (ts : List Start) → start_in unit ts ≡ Some t → takes t ≡ true → list_any takes ts ≡ true
takes_some unit t [] is it = absurd (none-some t is)
takes_some unit t (x ∷ ts) is it = by (x.unit == unit) is (λ then_is. takes_some unit t ts then_is it) where
  either : (b : Bool) → (b || true) ≡ true
  either true = refl
  either false = refl

  by : (b : Bool) → (if b then Some x else start_in unit ts) ≡ Some t → (start_in unit ts ≡ Some t → list_any takes ts ≡ true)
      → (takes x || list_any takes ts) ≡ true
  by true is rest = let same : x ≡ t = same_Some x t is in ap (λ y. takes y || list_any takes ts) same ∙ ap (λ b. b || list_any takes ts) it
  by false is rest = ap (λ b. takes x || b) (rest is) ∙ either (takes x)

-- results that are due later do not show
pub latest-later : (unit now : ℕ) (best : Option Result') (rs : List Result') → AllByRecursion (λ r. now < r.due) rs
    → fold (later unit now) best rs ≡ best
latest-later unit now best [] all = refl
latest-later unit now best (r ∷ rs) all =
    let skipped : later unit now best r ≡ best = skips best all.0 in
    ap (λ b. fold (later unit now) b rs) skipped ∙ latest-later unit now best rs all.1
  where
    skips : (best : Option Result') → now < r.due → later unit now best r ≡ best
    skips best less = grind arith
