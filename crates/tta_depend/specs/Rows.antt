-- The rows of a table with an entry a spot, and how touches change them.
use Rattle.std.specs.Prelude.{◌≡◌, ℕ, ◌+◌, ◌-◌, ◌==◌, Bool, true, nat_le, max, if◌then◌else◌, List, [], ◌∷◌, length, slice_set, slice_index_or}
use Rattle.std.specs.List.{list_all}
use Rattle.tta_depend.specs.declared.touches.Touched.{Touched}
use Rattle.tta_depend.specs.declared.rows.Row.{Row}

-- ---- reading

-- a row that nothing has touched
abbrev pub unused : Row
unused = record { shown = 0; free = 0; round = 0 }

-- what a row says in a round: nothing, where an earlier round wrote it
abbrev pub current : (round : ℕ) → Row → Row
current round r = if r.round == round then r else record { shown = 0; free = 0; round = round }

-- the row of a number, as a round sees it
abbrev pub row_at : (round : ℕ) → List Row → ℕ → Row
row_at round rows k = current round (slice_index_or rows k unused)

-- the greatest that the rows of some touches allow, each less the time of its touch
abbrev pub against : (Row → ℕ) → (round : ℕ) → List Row → List Touched → ℕ
against f round rows [] = 0
against f round rows (t ∷ ts) = max (f (row_at round rows t.spot) - t.after) (against f round rows ts)

-- ---- writing

-- a row with a write that shows some time after a cycle, and the next write shows later
abbrev pub with_written : (round cycle : ℕ) → Touched → Row → Row
with_written round cycle t r = record {
  shown = max (current round r).shown (cycle + t.after);
  free = max (current round r).free (cycle + t.after + 1);
  round = round;
}

-- a row with a read some time after a cycle, and the next write shows later
abbrev pub with_read : (round cycle : ℕ) → Touched → Row → Row
with_read round cycle t r = record {
  shown = (current round r).shown;
  free = max (current round r).free (cycle + t.after + 1);
  round = round;
}

-- rows whose entries some touches change, one after another
abbrev pub change : (Touched → Row → Row) → List Touched → List Row → List Row
change f [] rows = rows
change f (t ∷ ts) rows = change f ts (slice_set rows t.spot (f t (slice_index_or rows t.spot unused)))

-- ---- the table

-- whether a row was written in this round or before
abbrev pub is_past : (round : ℕ) → Row → Bool
is_past round r = nat_le r.round round

-- a row for each spot, none of a later round
pub record AreRows (round : ℕ) (rows : List Row) : Type 0 where
  pub size : length rows ≡ 673
  pub past : list_all (is_past round) rows ≡ true
