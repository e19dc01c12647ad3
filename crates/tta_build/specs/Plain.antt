-- The plain code of a program. What `build` makes is never longer.
use Rattle.std.specs.Prelude.{◌≡◌, ◌≤◌, true, false, List, [], ◌∷◌, map, length}
use Rattle.tta_build.specs.Cited.{Units, Machine, Choice, IsChoice, Program, Block, Live, IsFlow, IsLive, Homes, AreInTurn, known_by, BlockList, Placed, IsFirstFit, optimised, raw, is_direct, list_of_direct, AreFirstFits}

-- Placements of a program are plain for what is chosen on a machine: home registers are given in turn, register code is
-- lowered by these homes, lists are selected from it, each list goes through the passes, and each is placed by first fit.
pub record IsPlain (u : Units) (m : Machine) (c : Choice) (p : Program) (plain : List Placed) : Type 0 where
  pub blocks : List Block
  pub live : Live
  pub kept : Homes
  pub flow : IsFlow p blocks
  pub lives : IsLive p live
  pub turns : AreInTurn p (length c.homes) kept
  pub first : AreFirstFits m (map (optimised m) (raw u m c p (known_by p blocks live kept))) plain

-- Placements are the plain code of a pair: of a direct pair its one list is placed by first fit; of any other pair the
-- placements are plain for what is chosen on the machine.
pub data IsPlainCode (u : Units) (m : Machine) (p : Program) (plain : List Placed) : Type 0 where
  OfDirect : is_direct m p ≡ true → AreFirstFits m (list_of_direct m p ∷ []) plain → IsPlainCode u m p plain
  OfOther : is_direct m p ≡ false → (c : Choice) → IsChoice m c → IsPlain u m c p plain → IsPlainCode u m p plain

-- A placement of a block is no longer than a plain one: a first fit of the block's list after the passes.
pub record IsNoLonger (m : Machine) (b : BlockList) (p : Placed) : Type 0 where
  pub plain : Placed
  pub first : IsFirstFit m (optimised m b).items plain
  pub no_longer : p.length ≤ plain.length
