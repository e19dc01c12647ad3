-- For each step the variables that are live before it, while they are found.
use Rattle.std.specs.Prelude.{◌≡◌, ℕ, ◌+◌, ◌<◌, ◌/◌, Bool, true, false, not, ◌&&◌, ◌||◌, List, Some, length, slice_get, ◌⊎◌, ◌≢◌}
use Rattle.std.specs.Option.{option_map_or}
use Rattle.tta_flow.specs.Cited.{Step}
use Rattle.tta_flow.specs.declared.bits.BitRow.{BitRow}
use Rattle.tta_flow.specs.declared.rows.Work.{Work}
use Rattle.tta_flow.specs.declared.table.PlaceLists.{PlaceLists}
use Rattle.tta_flow.specs.Bits.{has}
use Rattle.tta_flow.specs.Paths.{LiveBefore}
use Rattle.tta_flow.specs.Steps.{reads, assigns, falls_through, target, leads}
use Rattle.tta_flow.specs.Table.{is_listed}

-- ---- what rows hold

-- whether the row of a step has a variable
abbrev pub has_at : List BitRow → (step x : ℕ) → Bool
has_at rows step x = option_map_or (λ row. has row x) (slice_get rows step) false

-- whether a variable is in the row of a step that can follow
abbrev pub leaves : List BitRow → Step → (at x : ℕ) → Bool
leaves rows step at x = (falls_through step && has_at rows (at + 1) x) || option_map_or (λ to. has_at rows to x) (target step) false

-- whether a step wants a variable live before it: it reads it, or the variable is in a row of what can follow and the
-- step does not assign it
abbrev pub wanted : List BitRow → Step → (at x : ℕ) → Bool
wanted rows step at x = (leaves rows step at x && not (assigns step x)) || reads step x

-- ---- while the rows grow

-- all rows have room for as many words
abbrev pub AreWide : List BitRow → (words : ℕ) → Type 0
AreWide rows words = (k : ℕ) (row : BitRow) → slice_get rows k ≡ Some row → length row.words.items ≡ words

-- the row of a step has what the step wants
abbrev pub IsSettled : List Step → (vars : ℕ) → List BitRow → ℕ → Type 0
IsSettled steps vars rows i =
    (x : ℕ) → x < vars → option_map_or (λ step. wanted rows step i x) (slice_get steps i) false ≡ true → has_at rows i x ≡ true

-- the lists of a table say which steps each step can follow
pub record TellsBefore (steps : List Step) (before : PlaceLists) : Type 0 where
  pub size : length before.lists.items ≡ length steps
  pub all : (k p : ℕ) → k < length steps → is_listed before k p ≡ leads steps p k

-- The rows have only variables that are live; and each step has to be looked at again, or has in its row what it wants.
pub record IsWork (steps : List Step) (vars : ℕ) (work : Work) : Type 0 where
  pub count : length work.rows.items ≡ length steps
  pub wide : AreWide work.rows.items (vars / 64 + 1)
  pub room : length work.room.words.items ≡ vars / 64 + 1
  pub flags : length work.due.words.items ≡ length steps / 64 + 1
  pub sound : (i x : ℕ) → has_at work.rows.items i x ≡ true → LiveBefore steps x i
  pub left : (i : ℕ) → i < length steps → (has work.due i ≡ true) ⊎ (IsSettled steps vars work.rows.items i)

-- One step was looked at: where its row has not grown, it is done and no other step has to be looked at because of it.
pub record Visits (steps : List Step) (vars at : ℕ) (grown : Bool) (old new : Work) : Type 0 where
  pub work : IsWork steps vars new
  pub calm : grown ≡ false → (i : ℕ) → has new.due i ≡ true → (has old.due i ≡ true) × (i ≢ at)

-- All steps were looked at: where no row has grown, all are done.
pub record Rounds (steps : List Step) (vars : ℕ) (grown : Bool) (new : Work) : Type 0 where
  pub work : IsWork steps vars new
  pub calm : grown ≡ false → (i : ℕ) → i < length steps → has new.due i ≡ false
