-- How the list that is placed for a block came of the selected one.
use Rattle.std.specs.Prelude.{◌≡◌, ℕ, List, length, map, Option, Some, IfSome, slice_get, unwrap_or}
use Rattle.std.specs.Option.{option_map_or}
use Rattle.tta_build.specs.Cited.{Machine, BlockList, IsEquivalent, IsPassed}
use Rattle.tta_build.specs.declared.trail.Ordered.{Ordered}
use Rattle.tta_build.specs.declared.trail.Round.{Round}
use Rattle.tta_build.specs.declared.trail.Rounds.{Rounds}
use Rattle.tta_build.specs.declared.trail.Start.{Start}
use Rattle.tta_build.specs.declared.trail.Derivation.{Derivation}

-- ---- where it begins

-- The list in which loads are served may be placed for the selected one, and that with its operations on other units for the
-- list before it.
pub record IsStart (m : Machine) (selected : BlockList) (s : Start) : Type 0 where
  pub served : IfSome s.served (λ l. IsEquivalent m selected l)
  pub bound : IfSome s.bound (λ l. IsEquivalent m (unwrap_or s.served selected) l)

-- the list with which the first round begins
abbrev pub start_of : (selected : BlockList) → Start → BlockList
start_of selected s = unwrap_or s.bound (unwrap_or s.served selected)

-- ---- a round

-- a list in another order, or as it is
abbrev pub order_of : BlockList → Option Ordered → BlockList
order_of list ordered = option_map_or (λ o. o.list) ordered list

-- A round from a list: another order, if there is one, its operations on other units, if any is, and the passes after that.
pub record IsRound (m : Machine) (list : BlockList) (r : Round) : Type 0 where
  pub ordered : IfSome r.ordered (λ o. IsEquivalent m list o.list)
  pub bound : IfSome r.bound (λ l. IsEquivalent m (order_of list r.ordered) l)
  pub passed : IsPassed m (unwrap_or r.bound (order_of list r.ordered)) r.passed

-- the list after the last of two rounds, or after the one
abbrev pub rounds_last : Rounds → BlockList
rounds_last r = option_map_or (λ n. n.passed.lively) r.second r.first.passed.lively

-- one round from a list, and perhaps another from what the first makes of it
pub record AreRounds (m : Machine) (list : BlockList) (r : Rounds) : Type 0 where
  pub first : IsRound m list r.first
  pub second : IfSome r.second (λ n. IsRound m r.first.passed.lively n)

-- ---- the trail of a block

-- the list that is placed
abbrev pub last_of : Derivation → BlockList
last_of t = rounds_last t.rounds

-- rounds from a start
pub record IsTrail (m : Machine) (selected : BlockList) (t : Derivation) : Type 0 where
  pub start : IsStart m selected t.start
  pub rounds : AreRounds m (start_of selected t.start) t.rounds

-- some trails of a block
abbrev pub AreTrailsOf : Machine → (selected : BlockList) → List Derivation → Type 0
AreTrailsOf m selected ts = (k : ℕ) (t : Derivation) → slice_get ts k ≡ Some t → IsTrail m selected t

-- one trail for each selected list
pub record AreTrails (m : Machine) (selected : List BlockList) (ts : List Derivation) : Type 0 where
  pub count : length ts ≡ length selected
  pub each : (k : ℕ) (b : BlockList) (t : Derivation) → slice_get selected k ≡ Some b → slice_get ts k ≡ Some t → IsTrail m b t

-- the lists that are placed
abbrev pub lasts_of : List Derivation → List BlockList
lasts_of ts = map last_of ts
