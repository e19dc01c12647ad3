-- The results that operations show.
use Rattle.std.proofs.Common.{◌≡◌, ◌<◌, ◌≤◌, ◌+◌, ◌==◌, ◌&&◌, ◌||◌, not, ℕ, Bool, true, false, List, [], ◌∷◌, ◌++◌, length, map, take, get_or, Option, None, Some, refl, ap, sym, ◌∙◌, arith, IsTrue}
use Rattle.std.specs.Prelude.{is_some, nat_lt, nat_le, option_to_list, if◌then◌else◌}
use Rattle.std.specs.List.{filter_map, cons_option, list_any, AllByRecursion}
use Rattle.std.proofs.lemmas.Bool.{and_parts, and_from, or_parts, or_from, not-true, ltb-true}
use Rattle.std.proofs.lemmas.List.Elements.{filter_map-append}
use Rattle.tta_sim.specs.Cited.{Units, are_different, Start, has_result, result_word}
use Rattle.tta_sim.specs.declared.dues.Due.{Due}
use Rattle.tta_sim.specs.Results.{Results, longest_by, due_by}
use Rattle.tta_sim.specs.Starts.{begun, due_of, clashes_with, is_fitting, AreFitting}
use Rattle.tta_sim.specs.Dues.{due_with, shows, started_at, IsFittingDue, CanAllBegin}
use Rattle.tta_sim.proofs.Lists.{filter_map-more, length-filter_map, length-so_far}

-- an operation that shows a result fits where the result does
fits_due : (r : Results) (t : Start) (value : ℕ) → IsTrue (is_fitting r t) → has_result t.does.op ≡ true → IsFittingDue r (due_with t value)
fits_due r t value fits has =
    let parts = and_parts (nat_lt t.unit r.units) (not (has_result t.does.op) || (nat_lt 0 t.does.latency && nat_le t.does.latency (longest_by r t.unit))) fits in
    let both : (nat_lt 0 t.does.latency && nat_le t.does.latency (longest_by r t.unit)) ≡ true =
    sym (ap (λ b. not b || (nat_lt 0 t.does.latency && nat_le t.does.latency (longest_by r t.unit))) has) ∙ parts.1 in
    let delays = and_parts (nat_lt 0 t.does.latency) (nat_le t.does.latency (longest_by r t.unit)) both in
    record { unit = ltb-true t.unit r.units parts.0; later = at_least t.does.latency delays.0; soon = at_most t.does.latency (longest_by r t.unit) delays.1 }
  where
    at_least : (n : ℕ) → nat_lt 0 n ≡ true → 0 < n
    at_least n is = grind (arith, is)

    at_most : (n k : ℕ) → nat_le n k ≡ true → n ≤ k
    at_most n k is = grind (arith, is)

module _ (u : Units) (memory frame : List ℕ) (next : ℕ) where
  -- the results of some operations
  abbrev dues : List Start → List Due
  dues ts = filter_map (shows u memory frame next) ts

  -- the word that an operation shows
  abbrev word : Start → ℕ
  word t = result_word u memory frame next t t.does.op

  -- started in a cycle, they are the results that these operations begin
  pub dues_begun : (now : ℕ) (ts : List Start) → map (started_at now) (dues ts) ≡ filter_map (begun u now memory frame next) ts
  dues_begun now [] = refl
  dues_begun now (t ∷ ts) =
      let rest = dues_begun now ts in
      elim (has_result t.does.op) as (λ b. map (started_at now) (cons_option (if b then Some (due_with t (word t)) else None) (dues ts))
      ≡ cons_option (if b then Some (due_of now t (word t)) else None) (filter_map (begun u now memory frame next) ts)) [
        | true ↦ ap (λ qs. due_of now t (word t) ∷ qs) rest
        | false ↦ rest
      ]

  all_fit : (r : Results) (ts : List Start) → AllByRecursion (λ t. IsTrue (is_fitting r t)) ts → AllByRecursion (IsFittingDue r) (dues ts)
  all_fit r [] fit = tt
  all_fit r (t ∷ ts) fit = by (has_result t.does.op) refl (all_fit r ts fit.1) where
    by : (b : Bool) → has_result t.does.op ≡ b → AllByRecursion (IsFittingDue r) (dues ts)
        → AllByRecursion (IsFittingDue r) (cons_option (if b then Some (due_with t (word t)) else None) (dues ts))
    by true has rest = (fits_due r t (word t) fit.0 has, rest)
    by false has rest = rest

  none_of : (unit : ℕ) (ts : List Start) → list_any (λ t. unit == t.unit) ts ≡ false → list_any (λ d. unit == d.unit) (dues ts) ≡ false
  none_of unit [] none = refl
  none_of unit (t ∷ ts) none =
      let parts = or_parts (unit == t.unit) (list_any (λ t. unit == t.unit) ts) none in
      let rest = none_of unit ts parts.1 in
      elim (has_result t.does.op) as (λ b. list_any (λ d. unit == d.unit) (cons_option (if b then Some (due_with t (word t)) else None) (dues ts)) ≡ false) [
        | true ↦ or_from (unit == t.unit) (list_any (λ d. unit == d.unit) (dues ts)) parts.0 rest
        | false ↦ rest
      ]

  all_apart : (ts : List Start) → are_different (λ a b. a.unit == b.unit) ts ≡ true → are_different (λ a b. a.unit == b.unit) (dues ts) ≡ true
  all_apart [] apart = refl
  all_apart (t ∷ ts) apart =
      let parts = and_parts (not (list_any (λ b. t.unit == b.unit) ts)) (are_different (λ a b. a.unit == b.unit) ts) apart in
      let others = none_of t.unit ts (not-true (list_any (λ b. t.unit == b.unit) ts) parts.0) in
      let rest = all_apart ts parts.1 in
      elim (has_result t.does.op) as (λ b. are_different (λ a b. a.unit == b.unit) (cons_option (if b then Some (due_with t (word t)) else None) (dues ts)) ≡ true) [
        | true ↦ and_from (not (list_any (λ d. t.unit == d.unit) (dues ts))) (are_different (λ a b. a.unit == b.unit) (dues ts)) (ap not others) rest
        | false ↦ rest
      ]

  all_free : (r : Results) (ts : List Start) → list_any (clashes_with r) ts ≡ false → list_any (λ d. is_some (due_by r d.unit d.latency)) (dues ts) ≡ false
  all_free r [] free = refl
  all_free r (t ∷ ts) free = by (has_result t.does.op) parts.0 (all_free r ts parts.1) where
    parts : (clashes_with r t ≡ false) × (list_any (clashes_with r) ts ≡ false)
    parts = or_parts (clashes_with r t) (list_any (clashes_with r) ts) free

    by : (b : Bool) → (b && is_some (due_by r t.unit t.does.latency)) ≡ false → list_any (λ d. is_some (due_by r d.unit d.latency)) (dues ts) ≡ false
        → list_any (λ d. is_some (due_by r d.unit d.latency)) (cons_option (if b then Some (due_with t (word t)) else None) (dues ts)) ≡ false
    by true here rest = or_from (is_some (due_by r t.unit t.does.latency)) (list_any (λ d. is_some (due_by r d.unit d.latency)) (dues ts)) here rest
    by false here rest = rest

  -- the results of operations that fit, none of which clashes, can begin at once
  pub dues_can : (r : Results) (ts : List Start) → AreFitting r ts → list_any (clashes_with r) ts ≡ false → CanAllBegin r (dues ts)
  dues_can r ts fit free = record { fitting = all_fit r ts fit.fitting; apart = all_apart ts fit.apart; free = all_free r ts free }

-- ---- lists that grow by what two functions give of each element

module _ {A B C : Type 0} (f : B → Option C) (g : A → Option B) (xs : List A) (i : ℕ) where
  pub both-more : (z : A) (old new : List C) → i < length xs → old ≡ filter_map f (filter_map g (take i xs))
      → new ≡ old ++ filter_map f (option_to_list (g (get_or xs i z))) → new ≡ filter_map f (filter_map g (take (i + 1) xs))
  both-more z old new within before added =
      let inner = filter_map g (take i xs) in
      let more = option_to_list (g (get_or xs i z)) in
      added ∙ ap (λ ys. ys ++ filter_map f more) before ∙ sym (filter_map-append f inner more)
      ∙ ap (filter_map f) (filter_map-more g xs i z inner (inner ++ more) within refl refl)

  pub length-both : (ys : List C) → i < length xs → ys ≡ filter_map f (filter_map g (take i xs)) → length ys ≤ i
  length-both ys within are =
      let few = length-so_far g xs i (filter_map g (take i xs)) within refl in
      omega (arith, ap length are, length-filter_map f (filter_map g (take i xs)), few)
