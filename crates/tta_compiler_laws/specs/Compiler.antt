-- The lists of a program, as the parts of the compiler make them one after another.
use Rattle.std.specs.Prelude.{◌≡◌, ◌≤◌, true, List, length}
use Rattle.tta_compiler_laws.specs.Cited.{Units, Machine, IsMachine, StandsOver, Choice, IsChoice, Program, IsProgram, frame_need, BlockList, AllPairs, optimise_items, IsEquivalent, LoweringInput, lowered, selected}
use Rattle.tta_compiler_laws.specs.Needs.{are_offered}

-- A machine with its choice, and a program that it can be given: each operation that the program needs is offered by a
-- usable unit, and there is room for the frames.
pub record IsPair (u : Units) (m : Machine) (c : Choice) (p : Program) : Type 0 where
  pub machine : IsMachine m
  pub over : StandsOver u m
  pub choice : IsChoice m c
  pub program : IsProgram p
  pub offered : are_offered u m c p ≡ true
  pub room : frame_need p ≤ m.frame_words

-- ---- the lists

-- each list may be placed for one of others, in order
abbrev pub AreStandIns : Machine → List BlockList → List BlockList → Type 0
AreStandIns m lists others = AllPairs (IsEquivalent m) lists others

-- a block's list after the passes
abbrev pub optimised : Machine → BlockList → BlockList
optimised m b = record { items = optimise_items m b.live_out b.items; live_out = b.live_out }

module _ (u : Units) (m : Machine) (c : Choice) (p : Program) (known : LoweringInput) where
  -- the lists as they are selected
  abbrev pub raw : List BlockList
  raw = selected m c u (lowered p known (length c.homes))
