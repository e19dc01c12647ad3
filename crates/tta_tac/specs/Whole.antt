-- What becomes of the lines of a text.
use Rattle.std.specs.Prelude.{◌≡◌, ℕ, List, None}
use Rattle.tta_tac.specs.Cited.{Units}
use Rattle.tta_tac.specs.Draft.{Draft}
use Rattle.tta_tac.specs.Kept.{IsKept}
use Rattle.tta_tac.specs.Reported.{IsDraftOf}

-- all lines of a text were taken, its procedures have ended, and the rules of drafts hold
pub record TakesAll (u : Units) (text : List ℕ) (d : Draft) : Type 0 where
  pub taken : IsDraftOf d u text
  pub kept : IsKept d
  pub ended : d.begun ≡ None
