-- Code that is packed: placed lists that do no more than a program asks for, and in which nothing is left to do.
use Rattle.std.specs.Prelude.{◌≡◌, ℕ, List, [], length, Some, slice_get}
use Rattle.std.specs.Option.{option_map_or}
use Rattle.tta_compiler_laws.specs.Cited.{Units, Machine, Choice, hub_of, homes_of, Program, Block, Live, IsFlow, IsLive, Homes, SlotsAsScanned, known_by, Code, BlockList, Placed, IsLinked, total_length, Means}
use Rattle.tta_compiler_laws.specs.Linking.{AreFirstFits}
use Rattle.tta_compiler_laws.specs.Planned.{ArePlanned, HasForms}

-- the home registers of a machine: those of its hub; none where it has no hub
abbrev pub homes_on : Machine → List (ℕ × ℕ)
homes_on m = option_map_or (homes_of m) (hub_of m) []

-- Lists are planned for a program on a machine: there is one for each part of the program, in order, which does no more
-- than the part asks for where variables have their slots by the linear scan, and the others home registers that keep the
-- home law; each is in all forms; and together they mean the program. Blocks, liveness and homes are the program's.
pub record IsPlan (u : Units) (m : Machine) (p : Program) (lists : List BlockList) : Type 0 where
  pub choice : Choice
  pub blocks : List Block
  pub live : Live
  pub kept : Homes
  pub homes : choice.homes ≡ homes_on m
  pub flow : IsFlow p blocks
  pub lives : IsLive p live
  pub allotted : SlotsAsScanned p (length choice.homes) kept
  pub planned : ArePlanned u m choice p (known_by p blocks live kept) lists
  pub forms : (k : ℕ) (l : BlockList) → slice_get lists k ≡ Some l → HasForms m l
  pub means : Means u m p lists

-- Code is packed for a program: planned lists have first fits that, one after another and with each address the begin of its
-- block, are the code.
pub record IsPacked (u : Units) (m : Machine) (p : Program) (code : Code) : Type 0 where
  pub lists : List BlockList
  pub placements : List Placed
  pub plan : IsPlan u m p lists
  pub first : AreFirstFits m lists placements
  pub linked : IsLinked m code placements

-- so many words are the length of packed code: planned lists have first fits of these many cycles
pub record IsLength (u : Units) (m : Machine) (p : Program) (words : ℕ) : Type 0 where
  pub lists : List BlockList
  pub placements : List Placed
  pub plan : IsPlan u m p lists
  pub first : AreFirstFits m lists placements
  pub cycles : words ≡ total_length placements
