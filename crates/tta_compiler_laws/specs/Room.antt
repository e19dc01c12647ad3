-- How long the placed lists of a program are together at most.
use Rattle.std.specs.Prelude.{◌≡◌, ℕ, ◌+◌, ◌*◌, ◌≤◌, List, length, Some, slice_get}
use Rattle.tta_compiler_laws.specs.Cited.{Units, Machine, Choice, Program, step_count, Placed, LoweringInput, arg_count, var_count, total_length, IsKnown, BlockList, longest, HasRoom}
use Rattle.tta_compiler_laws.specs.Compiler.{IsPair, AreStandIns, raw}
use Rattle.tta_compiler_laws.specs.Linking.{AreRespected}

-- the room of a program on a machine with a greatest latency and a delay
abbrev pub room : Program → (latest delay : ℕ) → ℕ
room p latest delay =
    (32 * step_count p + 8 * (arg_count p + var_count p) + 16 * length p.procs) * (latest + 1)
    + (2 * step_count p + 3 * length p.procs) * (delay + latest + 2)

-- the room of a program on a machine: the cycles that its code takes at most
abbrev pub room_on : Machine → Program → ℕ
room_on m p = room p (longest m) m.control.delay

-- one placement for each list, each of which respects its list and has room
pub record AreRoomy (m : Machine) (lists : List BlockList) (ps : List Placed) : Type 0 where
  pub respected : AreRespected m lists ps
  pub room : (k : ℕ) (b : BlockList) (q : Placed) → slice_get lists k ≡ Some b → slice_get ps k ≡ Some q → HasRoom m b.items q

-- where each placed list has room, all of them together have the program's
abbrev pub ListsFit : Type 0
ListsFit =
    (u : Units) (m : Machine) (c : Choice) (p : Program) (known : LoweringInput)
    (lists : List BlockList) (ps : List Placed) → IsPair u m c p → IsKnown p (length c.homes) known
    → AreStandIns m (raw u m c p known) lists → AreRoomy m lists ps → total_length ps ≤ room_on m p
