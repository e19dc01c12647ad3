-- The laws: a block does in its cycles what its list does; and code that is linked from the placed lists of a program agrees
-- with the program.
use Rattle.std.specs.Prelude.{◌≡◌, ℕ, ◌+◌, ◌<◌, ◌^◌, List}
use Rattle.std.specs.List.{AllByRecursion}
use Rattle.tta_sched_laws.specs.Cited.{Units, Machine, IsMachine, over, Program, data_of, Code, IsLegalCode, Whole, data_in, State, Agrees, BlockList, Placed, Next, Held, IsLinked}
use Rattle.tta_code.specs.Cycle.{Running}
use Rattle.tta_sched_laws.specs.Means.{Means}
use Rattle.tta_sched_laws.specs.Overlap.{AreLegal, IsPlaced, MeansWithMore, Holds, Overlaps, ArePlaced}

-- A list was placed by its bounds and stands in legal code from an address on. The machine is there with what the list
-- begins with, and the list has a meaning whatever follows its input. Then the block does what the list does.
abbrev pub BlocksOverlap : Type 0
BlocksOverlap =
    (u : Units) (m : Machine) → IsMachine m → (code : Code) → AreLegal m code → (addr : List ℕ) (back : ℕ) (b : BlockList) (p : Placed) (s : State) (h : Held)
    → IsPlaced m code addr s.pc b p → MeansWithMore u m addr back b h → h.exit ≡ Next → back ≡ s.pc + p.length → s.outcome ≡ Running → Holds s h
    → Overlaps u m code addr back b p h s

-- What the parts of a compiler give: legal code with room, linked from placed lists that do what the program does, and data
-- that lay the words of the program.
pub record IsBuilt (u : Units) (m : Machine) (p : Program) (whole : Whole) (lists : List BlockList) (ps : List Placed) : Type 0 where
  pub legal : IsLegalCode m whole.code
  pub placed : ArePlaced m lists ps
  pub linked : IsLinked m whole.code ps
  pub means : Means u m p lists
  pub laid : (memory : List ℕ) → over (data_in whole) memory ≡ over (data_of p) memory
  pub words : AllByRecursion (λ d. d.1 < 2 ^ 32) (data_of p)

-- such code agrees with the program
abbrev pub BuiltAgrees : Type 0
BuiltAgrees = (u : Units) (m : Machine) → IsMachine m → (p : Program) (whole : Whole) (lists : List BlockList) (ps : List Placed) → IsBuilt u m p whole lists ps → Agrees u m p whole
