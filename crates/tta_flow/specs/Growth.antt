-- Rows that grow.
use Rattle.std.specs.Prelude.{◌≡◌, ℕ, ◌+◌, ◌-◌, ◌<◌, ◌/◌, ◌^◌, Bool, true, false, ◌||◌, List, [], ◌∷◌, length}
use Rattle.tta_flow.specs.declared.bits.BitRow.{BitRow}
use Rattle.tta_flow.specs.Bits.{has}

-- how much less than ones alone the words of a row are worth, added up
abbrev pub spare_words : List ℕ → ℕ
spare_words [] = 0
spare_words (w ∷ words) = (2 ^ 64 - w) + spare_words words

-- A row has the same room as before; it is the same where no bit is new, and has less to spare where one is.
pub record Grows (grown : Bool) (old new : BitRow) : Type 0 where
  pub room : length new.words.items ≡ length old.words.items
  pub same : grown ≡ false → new.words.items ≡ old.words.items
  pub less : grown ≡ true → spare_words new.words.items < spare_words old.words.items

-- a row has the same room as before, and as far as that goes the numbers besides that pass a test
pub record Sets (test : ℕ → Bool) (old new : BitRow) : Type 0 where
  pub room : length new.words.items ≡ length old.words.items
  pub bits : (k : ℕ) → k / 64 < length old.words.items → has new k ≡ (has old k || test k)
