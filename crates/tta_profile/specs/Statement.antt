-- What a profile of a run is.
use Rattle.std.specs.Prelude.{◌≡◌, ℕ, List, []}
use Rattle.tta_profile.specs.Cited.{Units, Machine, Code, State, next}
use Rattle.tta_profile.specs.Counts.{Counts, AreCounts}
use Rattle.tta_profile.specs.Outside.{AreOutside}
use Rattle.tta_profile.specs.Report.{IsReport}

-- A text is the profile of the first n cycles of code from a state: it tells of counts, and these are those of the cycles; where nothing
-- was written before, as at the start of a run, this is so of accesses outside the spaces too.
pub record IsProfile (u : Units) (m : Machine) (code : Code) (s : State) (n : ℕ) (text : List ℕ) : Type 0 where
  pub counts : Counts
  pub counted : AreCounts (next u m code) code.words s n counts
  pub outside : s.written ≡ [] → AreOutside (next u m code) m code.words s n counts
  pub told : IsReport u m code.words counts text
