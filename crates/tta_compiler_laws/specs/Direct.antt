-- Direct pairs: programs of constants on machines that bring these constants to the output.
use Rattle.std.specs.Prelude.{◌≡◌, ℕ, ◌==◌, Bool, true, false, ◌&&◌, List, [], ◌∷◌, length, Option, Some, None, slice_get}
use Rattle.std.specs.Option.{option_map_or}
use Rattle.std.specs.List.{list_all}
use Rattle.tta_compiler_laws.specs.Cited.{Units, Machine, IsMachine, Step, Proc, over, Program, data_of, IsProgram, only_constants, puts, one_block, IsLegalCode, Whole, data_in, Agrees, Placed, BlockList, is_list, Block, Live, IsFlow, IsLive, Homes, SlotsAsScanned, lowered, known_by, out_of, brings, direct_list, IsLinked, AreBlocks, Means}
use Rattle.tta_program.specs.declared.operand.Src.TheVariants.{Word}
use Rattle.tta_program.specs.declared.step.Step.TheVariants.{Put, Halt}
use Rattle.tta_compiler_laws.specs.Linking.{AreRespected}

-- ---- the test

-- the constant that a step outputs, if it outputs one
abbrev pub constant_of : Step → Option ℕ
constant_of (Put (Word w)) = Some w
constant_of step = None

-- whether a step outputs a constant, or halts
abbrev pub is_constant_or_halt : Step → Bool
is_constant_or_halt (Put (Word w)) = true
is_constant_or_halt Halt = true
is_constant_or_halt step = false

-- whether the constant of a step, if it outputs one, is brought to the output
abbrev pub is_brought : Machine → Step → Bool
is_brought m step = option_map_or (brings m) (constant_of step) true

-- whether the steps of a procedure before `end` only output constants and halt, and each constant is brought to the output,
-- those among them to which no path comes
abbrev pub is_direct_proc : Machine → Proc → Bool
is_direct_proc m q = only_constants q.steps && list_all (is_brought m) q.steps

-- Whether a machine and a program are a direct pair: the program is `main` alone, its steps before `end` only output
-- constants and halt, and each constant is brought to the output. A bus always leads to control. A program without
-- constants is direct on every machine.
abbrev pub is_direct : Machine → Program → Bool
is_direct m p = length p.procs == 1 && list_all (is_direct_proc m) p.procs

-- ---- the list of a direct pair

-- the constants that a run of `main` outputs
abbrev pub constants_of : Program → List ℕ
constants_of p = option_map_or (λ q. puts q.steps) (slice_get p.procs p.main) []

-- the list of a direct pair
abbrev pub list_of_direct : Machine → Program → BlockList
list_of_direct m p = direct_list (out_of m) (constants_of p)

-- the register code of such a program is one block that outputs the constants and halts
abbrev pub DirectLowers : Type 0
DirectLowers =
    (m : Machine) (p : Program) → IsProgram p → is_direct m p ≡ true → (homes : ℕ) (blocks : List Block) (l : Live) (h : Homes) → IsFlow p blocks → IsLive p l → SlotsAsScanned p homes h
    → lowered p (known_by p blocks l h) homes ≡ record { blocks = one_block (constants_of p) ∷ [] }

-- the machine can carry out the list
abbrev pub DirectIsList : Type 0
DirectIsList = (m : Machine) (p : Program) → IsMachine m → IsProgram p → is_direct m p ≡ true → is_list m (list_of_direct m p).items ≡ true

-- the list means the program
abbrev pub DirectMeans : Type 0
DirectMeans =
    (u : Units) (m : Machine) (p : Program) → IsMachine m → IsProgram p → is_direct m p ≡ true → (blocks : List Block) (l : Live) (h : Homes) → IsFlow p blocks → IsLive p l → SlotsAsScanned p 0 h
    → Means u m p (list_of_direct m p ∷ [])

-- the linker takes its placement
abbrev pub DirectLinks : Type 0
DirectLinks = (m : Machine) (p : Program) (ps : List Placed) → AreRespected m (list_of_direct m p ∷ []) ps → AreBlocks m ps

-- and the code that it makes agrees with the program, where the data are the program's
abbrev pub DirectAgrees : Type 0
DirectAgrees =
    (u : Units) (m : Machine) (p : Program) → IsMachine m → IsProgram p → is_direct m p ≡ true → (blocks : List Block) (l : Live) (h : Homes) → IsFlow p blocks → IsLive p l → SlotsAsScanned p 0 h
    → (ps : List Placed) (whole : Whole) → AreRespected m (list_of_direct m p ∷ []) ps → IsLinked m whole.code ps → IsLegalCode m whole.code
    → ((memory : List ℕ) → over (data_in whole) memory ≡ over (data_of p) memory) → Agrees u m p whole
