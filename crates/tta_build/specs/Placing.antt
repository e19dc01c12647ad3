-- Which candidates of a block are made, which of their placements stays, and the lists and placements of all blocks.
use Rattle.std.specs.Prelude.{◌≡◌, List, IfSome}
use Rattle.tta_build.specs.Cited.{Machine, BlockList, Respects, IsFirstFit, HasRoom, IsEquivalent, AreFirstFits}
use Rattle.tta_build.specs.declared.trail.Derivation.{Derivation}
use Rattle.tta_build.specs.declared.candidates.Bound.{Bound}
use Rattle.tta_build.specs.declared.candidates.Choices.{Choices}
use Rattle.tta_build.specs.declared.second_round.RoundFit.{RoundFit}
use Rattle.tta_build.specs.declared.best_candidate.Chosen.{Chosen}
use Rattle.tta_build.specs.declared.best_candidate.Placements.{Placements}
use Rattle.tta_build.specs.declared.best_candidate.Planned.{Planned}
use Rattle.tta_build.specs.Candidates.{IsChosen, AreChosen}
use Rattle.tta_build.specs.Derivation.{IsRound, AreRounds, IsTrail, AreTrails, last_of, lasts_of}

-- ---- candidates

-- some rounds of a list
pub record AreChoices (m : Machine) (list : BlockList) (r : Choices) : Type 0 where
  pub best : AreRounds m list r.best
  pub by_items : IfSome r.by_items (λ x. AreRounds m list x)

-- a list with its operations on other units may be placed for a list, and these are rounds of it
pub record IsBound (m : Machine) (list : BlockList) (r : Bound) : Type 0 where
  pub stands : IsEquivalent m list r.list
  pub choices : AreChoices m r.list r.choices

-- ---- the placement of a block

-- a trail is kept with a first fit, which has room, of the list to which it leads
pub record IsFitOf (m : Machine) (t : Derivation) (r : Chosen) : Type 0 where
  pub is : r.trail ≡ t
  pub first : IsFirstFit m (last_of t).items r.placed
  pub respects : Respects m (last_of t).items r.placed
  pub room : HasRoom m (last_of t).items r.placed

-- a round of a list is kept with a first fit, which has room, of the list after it
pub record IsRoundFit (m : Machine) (list : BlockList) (r : RoundFit) : Type 0 where
  pub round : IsRound m list r.round
  pub first : IsFirstFit m r.round.passed.lively.items r.placed
  pub respects : Respects m r.round.passed.lively.items r.placed
  pub room : HasRoom m r.round.passed.lively.items r.placed

-- The placement of a block is the shortest of its candidates, and a first fit of the list to which its trail leads.
pub record IsBest (m : Machine) (b : BlockList) (r : Chosen) : Type 0 where
  pub chosen : IsChosen m b r.placed
  pub trail : IsTrail m b r.trail
  pub fit : IsFirstFit m (last_of r.trail).items r.placed

-- ---- all blocks

-- A trail and a placement of each of these lists: the placement is the shortest of its candidates, and a first fit of the list
-- to which the trail leads.
pub record ArePlacements (m : Machine) (lists : List BlockList) (r : Placements) : Type 0 where
  pub trails : AreTrails m lists r.trails.items
  pub first : AreFirstFits m (lasts_of r.trails.items) r.placed.items
  pub chosen : AreChosen m lists r.placed.items

-- The same beside the lists, as they are selected.
pub record ArePlanned (m : Machine) (lists : List BlockList) (r : Planned) : Type 0 where
  pub selected : r.selected.items ≡ lists
  pub trails : AreTrails m lists r.trails.items
  pub first : AreFirstFits m (lasts_of r.trails.items) r.placed.items
  pub chosen : AreChosen m lists r.placed.items
