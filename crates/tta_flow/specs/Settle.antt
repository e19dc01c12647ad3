-- Variables that are carried backward, along the edges, from the steps before which they are live.
use Rattle.std.specs.Prelude.{◌≡◌, ℕ, ◌+◌, ◌-◌, ◌<◌, ◌≤◌, ◌/◌, ◌==◌, Bool, true, false, not, ◌&&◌, ◌||◌, List, [], length, slice_get, ◌⊎◌}
use Rattle.std.specs.Option.{option_map_or}
use Rattle.tta_flow.specs.Cited.{Step}
use Rattle.tta_flow.specs.declared.bits.BitRow.{BitRow}
use Rattle.tta_flow.specs.declared.settle.Settling.{Settling}
use Rattle.tta_flow.specs.Paths.{LiveBefore}
use Rattle.tta_flow.specs.Rows.{has_at}
use Rattle.tta_flow.specs.Search.{is_found, count_below}
use Rattle.tta_flow.specs.Steps.{assigns_at, leads}

-- how many words the row of a step has
abbrev pub words_at : List BitRow → ℕ → ℕ
words_at rows k = option_map_or (λ row. length row.words.items) (slice_get rows k) 0

-- each row has room for a variable
abbrev pub Fits : (x : ℕ) → List BitRow → Type 0
Fits x rows = (k : ℕ) → k < length rows → x / 64 < words_at rows k

-- there are as many rows as before, and each has the same room
pub record AreAlike (old new : List BitRow) : Type 0 where
  pub count : length new ≡ length old
  pub words : (k : ℕ) → words_at new k ≡ words_at old k

-- how many steps a variable can still be carried from: those that wait, and those whose rows do not have it yet
abbrev pub ahead : (x : ℕ) → Settling → ℕ
ahead x s = (length s.rows.items - count_below (λ k. has_at s.rows.items k x) (length s.rows.items)) + length s.stack.items

-- A variable was put into the rows of the steps that pass a test; those of them that did not have it wait.
pub record Puts (test : ℕ → Bool) (x : ℕ) (old new : Settling) : Type 0 where
  pub alike : AreAlike old.rows.items new.rows.items
  pub bits : (k y : ℕ) → has_at new.rows.items k y ≡ (has_at old.rows.items k y || (test k && x == y))
  pub stack : (k : ℕ) → is_found new.stack.items k ≡ (is_found old.stack.items k || (test k && not (has_at old.rows.items k x)))
  pub ahead : ahead x new ≤ ahead x old

-- whether a step leads to another and does not assign a variable
abbrev pub passes : List Step → (at x step : ℕ) → Bool
passes steps at x step = leads steps step at && not (assigns_at steps step x)

-- there is a row for each step, and no step waits
pub record IsCalm (steps : List Step) (s : Settling) : Type 0 where
  pub count : length s.rows.items ≡ length steps
  pub empty : s.stack.items ≡ []

-- Rows have grown by variables that pass a test: only by such as are live, and where one is new, the steps that lead there and
-- do not assign it have it too.
pub record Spreads (steps : List Step) (test : ℕ → Bool) (old new : Settling) : Type 0 where
  pub calm : IsCalm steps new
  pub alike : AreAlike old.rows.items new.rows.items
  pub others : (k x : ℕ) → test x ≡ false → has_at new.rows.items k x ≡ has_at old.rows.items k x
  pub kept : (k x : ℕ) → has_at old.rows.items k x ≡ true → has_at new.rows.items k x ≡ true
  pub sound : (k x : ℕ) → has_at new.rows.items k x ≡ true → (has_at old.rows.items k x ≡ true) ⊎ (LiveBefore steps x k)
  pub onward : (i k x : ℕ) → has_at old.rows.items k x ≡ false → has_at new.rows.items k x ≡ true → passes steps k x i ≡ true
      → has_at new.rows.items i x ≡ true
