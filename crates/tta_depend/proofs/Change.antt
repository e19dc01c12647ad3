-- Rows before and after touches change them, and in a new round.
use Rattle.std.proofs.Common.{◌≡◌, ◌≢◌, ℕ, zero, suc, ◌+◌, ◌<◌, ◌≤◌, Bool, true, false, List, [], ◌∷◌, refl, sym, ap, ◌∙◌, arith, length, map, get_or, set, replicate, length-set}
use Rattle.std.specs.Prelude.{max, ◌==◌, if◌then◌else◌}
use Rattle.std.specs.List.{list_all}
use Rattle.std.proofs.lemmas.Bool.{and_parts, leb-true}
use Rattle.std.proofs.lemmas.Bool.Decides.{nat_tests}
use Rattle.std.proofs.lemmas.List.{get_or-set_other}
use Rattle.std.proofs.lemmas.Grind.{get_or-set_at}
use Rattle.tta_list.proofs.Lists.{list_all_changed, list_all_weaker}
use Rattle.tta_depend.specs.Cited.{Spot, same_spot, Touch}
use Rattle.tta_depend.specs.declared.touches.Touched.{Touched}
use Rattle.tta_depend.specs.declared.rows.Row.{Row}
use Rattle.tta_depend.specs.Touched.{spot_number, touched}
use Rattle.tta_depend.specs.Rows.{unused, current, row_at, against, change, is_past, AreRows}
use Rattle.tta_depend.specs.Stands.{is_spot, greatest_at}
use Rattle.tta_depend.proofs.Asked.{over_touches}
use Rattle.tta_depend.proofs.Spots.{spot_most, one_spot}

-- ---- reading

-- what rows have for spots
pub against_is : (f : Row → ℕ) (round : ℕ) (rows : List Row) (T : Spot → ℕ) → ((s : Spot) → is_spot s ≡ true → f (row_at round rows (spot_number s)) ≡ T s) → (ts : List Touch)
    → list_all (λ t. is_spot t.0) ts ≡ true → against f round rows (map touched ts) ≡ over_touches T ts
against_is f round rows T h [] all = refl
against_is f round rows T h (t ∷ ts) all =
    let two = and_parts (is_spot t.0) (list_all (λ (u : Touch). is_spot u.0) ts) all in
    let a = h t.0 two.0 in
    let ih = against_is f round rows T h ts two.1 in
    omega arith

-- ---- changing

-- a row of this round is read as it is
pub as_written : (round : ℕ) (r : Row) → r.round ≡ round → current round r ≡ r
as_written round r e = let same : (r.round == round) ≡ true = grind (arith, nat_tests) in rw same refl

max_assoc : (a b c : ℕ) → max (max a b) c ≡ max a (max b c)
max_assoc a b c = omega arith

no_more : (n : ℕ) → n ≡ max n 0
no_more n = omega arith

-- A change of rows raises a number of each spot's row to the greatest that the touches of the spot ask, if it does so for one
-- touch.
pub changed : (f : Row → ℕ) (round : ℕ) (step : Touched → Row → Row) (asked : Touch → ℕ)
    → ((t : Touch) (r : Row) → f (current round (step (touched t) r)) ≡ max (f (current round r)) (asked t))
    → (ts : List Touch) (rows : List Row) (s : Spot) → is_spot s ≡ true → list_all (λ t. is_spot t.0) ts ≡ true → length rows ≡ 673
    → f (row_at round (change step (map touched ts) rows) (spot_number s)) ≡ max (f (row_at round rows (spot_number s))) (greatest_at asked ts s)
changed f round step asked raises [] rows s h all size = omega arith
changed f round step asked raises (t ∷ ts) rows s h all size =
    let two = and_parts (is_spot t.0) (list_all (λ (u : Touch). is_spot u.0) ts) all in
    changed f round step asked raises ts (set rows (spot_number t.0) v) s h two.1 (length-set rows (spot_number t.0) v ∙ size)
    ∙ ap (λ n. max n (greatest_at asked ts s)) (on (same_spot t.0 s) (one_spot t.0 s two.0 h) (spot_most t.0 two.0))
    ∙ max_assoc (f (row_at round rows (spot_number s))) (if same_spot t.0 s then asked t else 0) (greatest_at asked ts s) where
      v : Row
      v = step (touched t) (get_or rows (spot_number t.0) unused)

      on : (b : Bool) → (spot_number t.0 == spot_number s) ≡ b → spot_number t.0 < 673
          → f (row_at round (set rows (spot_number t.0) v) (spot_number s)) ≡ max (f (row_at round rows (spot_number s))) (if b then asked t else 0)
      on true e lt =
          let same : spot_number s ≡ spot_number t.0 = grind (arith, nat_tests) in
          ap (λ r. f (current round r)) (get_or-set_at rows (spot_number t.0) (spot_number s) v unused same (omega arith))
          ∙ raises t (get_or rows (spot_number t.0) unused) ∙ ap (λ k. max (f (row_at round rows k)) (asked t)) (sym same)
      on false e lt =
          let other : spot_number s ≢ spot_number t.0 = λ q. grind (arith, nat_tests) in
          ap (λ r. f (current round r)) (get_or-set_other rows (spot_number t.0) (spot_number s) v unused other) ∙ no_more (f (row_at round rows (spot_number s)))

-- rows that are changed in a round are rows of the round
pub rows_changed : (round : ℕ) (step : Touched → Row → Row) → ((t : Touched) (r : Row) → (step t r).round ≡ round) → (ts : List Touched) (rows : List Row)
    → AreRows round rows → AreRows round (change step ts rows)
rows_changed round step same [] rows are = are
rows_changed round step same (t ∷ ts) rows are = rows_changed round step same ts (set rows t.spot v) (record {
  size = length-set rows t.spot v ∙ are.size;
  past = list_all_changed (is_past round) rows t.spot v are.past (let e = same t (get_or rows t.spot unused) in grind (arith, nat_tests));
}) where
  v : Row
  v = step t (get_or rows t.spot unused)

-- ---- a new round

pub replicate_at : (n k : ℕ) (r : Row) → get_or (replicate n r) k r ≡ r
replicate_at zero k r = refl
replicate_at (suc n) zero r = refl
replicate_at (suc n) (suc k) r = replicate_at n k r

all_replicate : (p : Row → Bool) (n : ℕ) (r : Row) → p r ≡ true → list_all p (replicate n r) ≡ true
all_replicate p zero r h = refl
all_replicate p (suc n) r h = rw h (all_replicate p n r h)

pub rows_unused : (n : ℕ) → n ≡ 673 → AreRows 0 (replicate n unused)
rows_unused n size = record { size = length_replicate n ∙ size; past = all_replicate (is_past 0) n unused refl } where
  length_replicate : (n : ℕ) → length (replicate n unused) ≡ n
  length_replicate zero = refl
  length_replicate (suc n) = ap suc (length_replicate n)

past_at : (round : ℕ) (rows : List Row) (k : ℕ) → list_all (is_past round) rows ≡ true → (get_or rows k unused).round ≤ round
past_at round [] k h = omega arith
past_at round (r ∷ rows) zero h = leb-true r.round round (and_parts (is_past round r) (list_all (is_past round) rows) h).0
past_at round (r ∷ rows) (suc k) h = past_at round rows k (and_parts (is_past round r) (list_all (is_past round) rows) h).1

-- a row of an earlier round says nothing
stale : (round : ℕ) (r : Row) → r.round < round → current round r ≡ record { shown = 0; free = 0; round = round }
stale round r lt = let other : (r.round == round) ≡ false = grind (arith, nat_tests) in rw other refl

pub next_empty : (round : ℕ) (rows : List Row) → AreRows round rows → (k : ℕ) → row_at (round + 1) rows k ≡ current (round + 1) unused
next_empty round rows are k =
    let le = past_at round rows k are.past in
    stale (round + 1) (get_or rows k unused) (omega arith) ∙ sym (stale (round + 1) unused (omega arith))

pub next_rows : (round : ℕ) (rows : List Row) → AreRows round rows → AreRows (round + 1) rows
next_rows round rows are = record {
  size = are.size;
  past = list_all_weaker (is_past round) (is_past (round + 1)) rows (λ r h. grind (arith, nat_tests)) are.past;
}
