-- Variables that are met, each at the position where it was met first.
use Rattle.std.specs.Prelude.{◌≡◌, ℕ, ◌+◌, ◌^◌, ◌<◌, ◌/◌, nat_le, nat_lt, Bool, true, false, ◌&&◌, Option, Some, None, is_some, length, get_or}
use Rattle.tta_alloc.specs.Cited.{has}
use Rattle.tta_alloc.specs.declared.met.Seen.{Seen}

-- the position at which a variable was met first, if it was met
abbrev pub met : Seen → ℕ → Option ℕ
met m x = get_or m.places.items x None

-- what was met before, or else a position where a test holds
abbrev pub or_met : Option ℕ → (holds : Bool) → (at : ℕ) → Option ℕ
or_met (Some place) holds at = Some place
or_met None true at = Some at
or_met None false at = None

-- whether a number stands from one bound on and below another
abbrev pub within : (low high k : ℕ) → Bool
within low high k = nat_le low k && nat_lt k high

-- the row has room for all variables, and only those that were met
pub record IsSound (m : Seen) : Type 0 where
  pub small : length m.places.items < 2 ^ 32
  pub room : length m.seen.words.items ≡ length m.places.items / 64 + 1
  pub seen : (x : ℕ) → x < length m.places.items → has m.seen x ≡ true → is_some (met m x) ≡ true

-- at a position the variables were met that pass a test
pub record Meets (test : ℕ → Bool) (at : ℕ) (old new : Seen) : Type 0 where
  pub sound : IsSound new
  pub size : length new.places.items ≡ length old.places.items
  pub all : (x : ℕ) → x < length old.places.items → met new x ≡ or_met (met old x) (test x) at
