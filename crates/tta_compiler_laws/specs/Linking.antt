-- Placements of a program's lists can be linked, and their code agrees with the program.
use Rattle.std.specs.Prelude.{◌≡◌, ℕ, List, length, Some, slice_get}
use Rattle.tta_compiler_laws.specs.Cited.{Units, Machine, Choice, over, Program, data_of, IsLegalCode, Whole, data_in, Agrees, BlockList, Placed, Respects, IsFirstFit, LoweringInput, IsLinked, AreBlocks, IsKnown}
use Rattle.tta_compiler_laws.specs.Compiler.{IsPair, AreStandIns, raw}

-- one placement for each list, which respects it
pub record AreRespected (m : Machine) (lists : List BlockList) (ps : List Placed) : Type 0 where
  pub count : length ps ≡ length lists
  pub respects : (k : ℕ) (b : BlockList) (p : Placed) → slice_get lists k ≡ Some b → slice_get ps k ≡ Some p → Respects m b.items p

-- one placement for each list, which is a first fit of it
pub record AreFirstFits (m : Machine) (lists : List BlockList) (ps : List Placed) : Type 0 where
  pub count : length ps ≡ length lists
  pub first : (k : ℕ) (b : BlockList) (p : Placed) → slice_get lists k ≡ Some b → slice_get ps k ≡ Some p → IsFirstFit m b.items p

-- the linker takes placements that respect lists that may be placed for the selected ones
abbrev pub ListsLink : Type 0
ListsLink =
    (u : Units) (m : Machine) (c : Choice) (p : Program) (known : LoweringInput)
    (lists : List BlockList) (ps : List Placed) → IsPair u m c p → IsKnown p (length c.homes) known
    → AreStandIns m (raw u m c p known) lists → AreRespected m lists ps → AreBlocks m ps

-- and the code that it makes of them agrees with the program, where the data are the program's
abbrev pub ListsAgree : Type 0
ListsAgree =
    (u : Units) (m : Machine) (c : Choice) (p : Program) (known : LoweringInput)
    (lists : List BlockList) (ps : List Placed) (whole : Whole) → IsPair u m c p → IsKnown p (length c.homes) known
    → AreStandIns m (raw u m c p known) lists → AreRespected m lists ps → IsLinked m whole.code ps → IsLegalCode m whole.code
    → ((memory : List ℕ) → over (data_in whole) memory ≡ over (data_of p) memory) → Agrees u m p whole
