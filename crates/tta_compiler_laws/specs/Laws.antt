-- What the lists of a program mean, and which lists may be placed for them.
use Rattle.std.specs.Prelude.{List, length}
use Rattle.tta_compiler_laws.specs.Cited.{Units, Machine, Choice, Program, BlockList, AllPairs, StandsFor, LoweringInput, Means, IsKnown, IsEquivalent}
use Rattle.tta_compiler_laws.specs.Compiler.{IsPair, AreStandIns, raw, optimised}
use Rattle.tta_compiler_laws.specs.Planned.{HasForms}

-- lists that stand for the selected ones mean the program
abbrev pub ListsMean : Type 0
ListsMean =
    (u : Units) (m : Machine) (c : Choice) (p : Program) (known : LoweringInput) (lists : List BlockList) → IsPair u m c p → IsKnown p (length c.homes) known
    → AllPairs (StandsFor m) (raw u m c p known) lists → Means u m p lists

-- the selected lists may be placed for themselves
abbrev pub SelectedStand : Type 0
SelectedStand = (m : Machine) (lists : List BlockList) → AreStandIns m lists lists

-- What the passes make of a list that may be placed for another may be placed for that too, and is in all forms. So other
-- passes may come before them.
abbrev pub OptimisedStand : Type 0
OptimisedStand = (m : Machine) (b other : BlockList) → IsEquivalent m b other → IsEquivalent m b (optimised m other) × HasForms m (optimised m other)
