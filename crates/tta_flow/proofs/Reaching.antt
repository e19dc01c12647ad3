-- Steps by their places, and the search for those that paths lead to.
use Rattle.std.proofs.Common.{◌≡◌, ℕ, ◌+◌, ◌<◌, ◌≤◌, Bool, true, false, List, length, get_or, Option, Some, None, refl, sym, ap, subst, arith}
use Rattle.std.specs.Prelude.{◌==◌, slice_get}
use Rattle.std.specs.Option.{option_map_or}
use Rattle.std.proofs.lemmas.Bool.{eqb-true}
use Rattle.std.proofs.lemmas.Option.{slice_get_read, slice_get_past, slice_get_within}
use Rattle.tta_flow.specs.Cited.{Step}
use Rattle.tta_flow.specs.declared.search.Search.{Search}
use Rattle.tta_flow.specs.Bits.{has}
use Rattle.tta_flow.specs.Steps.{leads, follows}
use Rattle.tta_flow.specs.Paths.{Reached, Begin, Onward, IsClosed}
use Rattle.tta_flow.specs.Search.{Finds, Spread, AtSeed, Along}
use Rattle.tta_flow.proofs.Searches.{IsSpread, spread_step, spread_sound, spread_whole, finds_same}

-- ---- a test of the step at a place

module _ (f : Step → Bool) (steps : List Step) (at : ℕ) where
  pub test_there : (step : Step) → at < length steps → step ≡ get_or steps at step → option_map_or f (slice_get steps at) false ≡ f step
  test_there step below is = ap (λ o. option_map_or f o false) (slice_get_read steps (length steps) at step refl below is)

  pub test_past : length steps ≤ at → option_map_or f (slice_get steps at) false ≡ false
  test_past past = ap (λ o. option_map_or f o false) (slice_get_past steps at past)

  -- only a step that is there passes
  pub test_within : option_map_or f (slice_get steps at) false ≡ true → at < length steps
  test_within e = by (slice_get steps at) refl e where
    by : (o : Option Step) → slice_get steps at ≡ o → option_map_or f o false ≡ true → at < length steps
    by None is e = absurd cc
    by (Some s) is e = slice_get_within steps at s is

-- ---- the search

pub reach_sound : (steps : List Step) (j : ℕ) → Spread (λ k. 0 == k) (leads steps) j → Reached steps j
reach_sound steps j (AtSeed _ e) = subst (λ (n : ℕ). Reached steps n) (eqb-true 0 j e) Begin
reach_sound steps j (Along i _ r e) = Onward i j (reach_sound steps i r) e

pub reach_whole : (steps : List Step) (j : ℕ) → Reached steps j → Spread (λ k. 0 == k) (leads steps) j
reach_whole steps _ Begin = AtSeed 0 refl
reach_whole steps _ (Onward i j r e) = Along i j (reach_whole steps i r) e

-- one step more is looked at
pub reach_step : (steps : List Step) (s new : Search) (next at : ℕ) (step : Step) → s.places ≡ length steps → IsSpread (λ k. 0 == k) (leads steps) s next
    → next < length s.queue.items → at ≡ get_or s.queue.items next at → at < length steps → step ≡ get_or steps at step
    → Finds (follows step at) s new → IsSpread (λ k. 0 == k) (leads steps) new (next + 1)
reach_step steps s new next at step places h left is below there finds =
    spread_step (λ k. 0 == k) (leads steps) s next at h left is new
    (finds_same (follows step at) (leads steps at) s new (λ k small. sym (test_there (λ t. follows t at k) steps at step below there)) finds)

-- the marks in the end
module _ (steps : List Step) (closed : IsClosed steps) (s : Search) (next : ℕ) (places : s.places ≡ length steps)
    (h : IsSpread (λ k. 0 == k) (leads steps) s next) (all : length s.queue.items ≤ next) where
  pub reached_sound : (k : ℕ) → has s.marks k ≡ true → Reached steps k
  reached_sound k e = reach_sound steps k (spread_sound (λ j. 0 == j) (leads steps) s next h all k e)

  pub reached_whole : (k : ℕ) → Reached steps k → has s.marks k ≡ true
  reached_whole k r =
      spread_whole (λ j. 0 == j) (leads steps) s next h all
      (λ j e. let z = eqb-true 0 j e in let some = closed.some in omega arith)
      (λ i j e. let w = closed.within i j e in omega arith)
      k (reach_whole steps k r)
