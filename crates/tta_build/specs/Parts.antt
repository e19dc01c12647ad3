-- What the parts of `build` give one another.
use Rattle.std.specs.Prelude.{◌≡◌, ◌<◌, ◌≤◌, ◌^◌, ℕ, List, [], ◌∷◌, length, Some, slice_get}
use Rattle.tta_build.specs.Cited.{Units, Machine, Choice, over, Program, data_of, Rir, Block, Live, IsFlow, IsLive, Homes, SlotsAsScanned, BlockList, Placed, total_length, Code, Datum, laid_by, IsLegalCode, Agrees, AreStandIns, list_of_direct, HasForms, AreFirstFits, room_on, AreRoomy, IsPacked, IsLength}
use Rattle.tta_lower.specs.Statement.{IsCodeOf}
use Rattle.tta_build.specs.declared.error.BuildError.{BuildError}
use Rattle.tta_build.specs.declared.error.BuildError.TheVariants.{CodeFull, NoMemory}
use Rattle.tta_build.specs.Candidates.{AreChosen}
use Rattle.tta_build.specs.Compiled.{AreSelected, CompilesTo}
use Rattle.tta_build.specs.Statement.{IsAccepted}

-- The lists that are selected for a program, with these homes of its variables.
pub record AreSelectedWith (kept : Homes) (u : Units) (m : Machine) (c : Choice) (p : Program) (lists : List BlockList) : Type 0 where
  pub of : AreSelected u m c p lists
  pub homes : of.kept ≡ kept

-- Placements that are chosen for such lists.
pub record AreChosenWith (kept : Homes) (u : Units) (m : Machine) (c : Choice) (p : Program) (placements : List Placed) : Type 0 where
  pub lists : List BlockList
  pub selected : AreSelectedWith kept u m c p lists
  pub chosen : AreChosen m lists placements

-- The lists that are placed for a program: each may be placed for the selected one, and is in all forms.
pub record AreListsOf (u : Units) (m : Machine) (c : Choice) (p : Program) (lists : List BlockList) : Type 0 where
  pub selected : List BlockList
  pub of : AreSelected u m c p selected
  pub stand : AreStandIns m selected lists
  pub forms : (k : ℕ) (l : BlockList) → slice_get lists k ≡ Some l → HasForms m l

-- First fits of such lists, which have room.
pub record ArePlacedFor (u : Units) (m : Machine) (c : Choice) (p : Program) (placements : List Placed) : Type 0 where
  pub lists : List BlockList
  pub are : AreListsOf u m c p lists
  pub first : AreFirstFits m lists placements
  pub roomy : AreRoomy m lists placements

-- Register code of a program, by blocks, liveness and homes that are the program's, for so many home registers.
pub record IsLowered (p : Program) (homes frame_words : ℕ) (r : Rir) : Type 0 where
  pub blocks : List Block
  pub live : Live
  pub kept : Homes
  pub flow : IsFlow p blocks
  pub lives : IsLive p live
  pub allotted : SlotsAsScanned p homes kept
  pub code : IsCodeOf p blocks live kept frame_words r

-- The one list of a direct pair, where blocks, liveness and homes of the program are known.
pub record AreDirect (m : Machine) (p : Program) (lists : List BlockList) : Type 0 where
  pub blocks : List Block
  pub live : Live
  pub kept : Homes
  pub flow : IsFlow p blocks
  pub lives : IsLive p live
  pub allotted : SlotsAsScanned p 0 kept
  pub are : lists ≡ list_of_direct m p ∷ []

-- Code for a pair that is accepted: the machine can carry it out, it is packed and has no more words than the pair's room, it
-- has the words that are compiled of the pair, and it does what the program does beside any data that lay over each memory
-- what the program's data lay.
pub record IsCodeFor (u : Units) (m : Machine) (p : Program) (code : Code) : Type 0 where
  pub accepted : IsAccepted u m p
  pub legal : IsLegalCode m code
  pub packed : IsPacked u m p code
  pub room : length code.words ≤ room_on m p
  pub compiled : CompilesTo u m p (length code.words)
  pub agrees : (init : List Datum) → ((memory : List ℕ) → over (laid_by init) memory ≡ over (data_of p) memory)
      → Agrees u m p (record { code = code; init = init })

-- Packed code of a pair that is accepted has more instructions than the machine has addresses, and no more than its room.
pub record IsOverlong (u : Units) (m : Machine) (p : Program) (words have : ℕ) : Type 0 where
  pub accepted : IsAccepted u m p
  pub addresses : have ≡ 2 ^ m.control.address
  pub more : have < words
  pub room : words ≤ room_on m p
  pub length : IsLength u m p words

-- why the lists of a pair have no code: it is too long; being out of memory needs no cause
abbrev pub IsCodeCause : Units → Machine → Program → BuildError → Type 0
IsCodeCause u m p (CodeFull words have) = IsOverlong u m p words have
IsCodeCause u m p NoMemory = Unit {0}
IsCodeCause u m p e = ⊥

-- Why placed lists were not linked: they take more words than the machine has addresses, and the error has these two
-- numbers; being out of memory needs no cause.
abbrev pub IsLinkCause : Machine → List Placed → BuildError → Type 0
IsLinkCause m placements (CodeFull words have) = (words ≡ total_length placements) × (have ≡ 2 ^ m.control.address) × (have < words)
IsLinkCause m placements NoMemory = Unit {0}
IsLinkCause m placements e = ⊥
