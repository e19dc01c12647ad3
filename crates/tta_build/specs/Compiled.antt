-- What is compiled of a pair: the placements of which its code consists, and how many words they take.
use Rattle.std.specs.Prelude.{◌≡◌, ◌≤◌, true, false, ℕ, List, [], ◌∷◌, length}
use Rattle.tta_build.specs.Cited.{Units, Machine, Choice, IsChoice, Program, frame_need, Block, Live, IsFlow, IsLive, Homes, SlotsAsScanned, known_by, BlockList, Placed, total_length, raw, is_direct, list_of_direct, AreFirstFits}
use Rattle.tta_build.specs.declared.register.RegisterOrder.{RegisterOrder}
use Rattle.tta_build.specs.RegisterOrder.{AreGivenBy}
use Rattle.tta_build.specs.Candidates.{AreChosen}
use Rattle.tta_build.specs.Plain.{IsPlain, IsPlainCode}

-- ---- its parts

-- The lists that are selected for a program, by blocks, liveness and homes that are the program's; the frames have room.
pub record AreSelected (u : Units) (m : Machine) (c : Choice) (p : Program) (lists : List BlockList) : Type 0 where
  pub blocks : List Block
  pub live : Live
  pub kept : Homes
  pub flow : IsFlow p blocks
  pub lives : IsLive p live
  pub allotted : SlotsAsScanned p (length c.homes) kept
  pub room : frame_need p ≤ m.frame_words
  pub are : lists ≡ raw u m c p (known_by p blocks live kept)

-- Placements are together no longer than plain ones.
pub record AreNoLonger (u : Units) (m : Machine) (c : Choice) (p : Program) (placements : List Placed) : Type 0 where
  pub plain : List Placed
  pub is : IsPlain u m c p plain
  pub no_longer : total_length placements ≤ total_length plain

-- The lists that are selected for a program, whose home registers are given in this way.
pub record AreSelectedBy (sharing : RegisterOrder) (u : Units) (m : Machine) (c : Choice) (p : Program) (lists : List BlockList) : Type 0 where
  pub of : AreSelected u m c p lists
  pub given : AreGivenBy sharing p (length c.homes) of.kept

-- Placements that are chosen for such lists: for each the shortest of its candidates, of which the first is the list after
-- the passes.
pub record AreChosenBy (sharing : RegisterOrder) (u : Units) (m : Machine) (c : Choice) (p : Program) (placements : List Placed) : Type 0 where
  pub lists : List BlockList
  pub selected : AreSelectedBy sharing u m c p lists
  pub chosen : AreChosen m lists placements

-- Placements are chosen for a program: home registers are given in one of the two ways, and they are together no longer
-- than plain ones.
pub record AreChosenFor (u : Units) (m : Machine) (c : Choice) (p : Program) (placements : List Placed) : Type 0 where
  pub sharing : RegisterOrder
  pub by : AreChosenBy sharing u m c p placements
  pub short : AreNoLonger u m c p placements

-- ---- the answer

-- Placements are compiled of a pair: of a direct pair its one list is placed by first fit; of any other pair they are chosen
-- for the program and what is chosen on the machine.
pub data AreCompiled (u : Units) (m : Machine) (p : Program) (placements : List Placed) : Type 0 where
  OfOneList : is_direct m p ≡ true → AreFirstFits m (list_of_direct m p ∷ []) placements → AreCompiled u m p placements
  OfLists : is_direct m p ≡ false → (c : Choice) → IsChoice m c → AreChosenFor u m c p placements → AreCompiled u m p placements

-- What is compiled of a pair takes so many words.
pub record CompilesTo (u : Units) (m : Machine) (p : Program) (words : ℕ) : Type 0 where
  pub placements : List Placed
  pub are : AreCompiled u m p placements
  pub takes : words ≡ total_length placements

-- So many words are no more than the plain code of a pair takes.
pub record IsWithinPlain (u : Units) (m : Machine) (p : Program) (words : ℕ) : Type 0 where
  pub plain : List Placed
  pub is : IsPlainCode u m p plain
  pub within : words ≤ total_length plain

-- what is compiled of a pair is no longer than plain code of it
abbrev pub CompiledIsShort : Type 0
CompiledIsShort = (u : Units) (m : Machine) (p : Program) (words : ℕ) → CompilesTo u m p words → IsWithinPlain u m p words
