-- What a profile of a run of compiled code is, by the blocks of its program.
use Rattle.std.specs.Prelude.{◌≡◌, ℕ, List, []}
use Rattle.tta_ops.specs.Units.{Units}
use Rattle.tta_arch.specs.Machine.{Machine}
use Rattle.tta_program.specs.Program.{Program}
use Rattle.tta_code.specs.Cycle.{State, next}
use Rattle.tta_profile.specs.Counts.{Counts, AreCounts}
use Rattle.tta_profile.specs.Outside.{AreOutside}
use Rattle.tta_stages.specs.declared.stages.Stages.{Stages}
use Rattle.tta_link.specs.Linked.{starts_from}
use Rattle.tta_block_profile.specs.Report.{IsBlockReport}

-- A text is the profile by blocks of the first n cycles of a program's code from a state: it tells of counts, and these are those
-- of the cycles; where nothing was written before, as at the start of a run, this is so of accesses outside the spaces too.
pub record IsBlockProfile (u : Units) (m : Machine) (p : Program) (stages : Stages) (s : State) (n : ℕ) (text : List ℕ) : Type 0 where
  pub counts : Counts
  pub counted : AreCounts (next u m stages.code) stages.code.words s n counts
  pub outside : s.written ≡ [] → AreOutside (next u m stages.code) m stages.code.words s n counts
  pub told : IsBlockReport m p stages (starts_from 0 stages.planned.placed.items) counts text
