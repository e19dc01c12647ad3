-- One item in a cycle: code whose blocks are placed serially does what its program does.
use Rattle.std.specs.Prelude.{◌≡◌, ℕ, true, List, [], ◌∷◌, length, Some, slice_get}
use Rattle.tta_ops.specs.Units.{Units}
use Rattle.tta_arch.specs.Machine.{Machine}
use Rattle.tta_arch.specs.Rules.{IsMachine}
use Rattle.tta_connect.specs.declared.choice.Choice.{Choice}
use Rattle.tta_list.specs.Laid.{over}
use Rattle.tta_program.specs.Program.{Program, data_of}
use Rattle.tta_program.specs.Rules.{IsProgram}
use Rattle.tta_code.specs.Legal.{IsLegalCode}
use Rattle.tta_code.specs.Whole.{Whole, data_in}
use Rattle.tta_refines.specs.Agrees.{Agrees}
use Rattle.tta_moves.specs.declared.items.BlockList.{BlockList}
use Rattle.tta_moves.specs.declared.items.Placed.{Placed}
use Rattle.tta_flow.specs.declared.flow.Block.{Block}
use Rattle.tta_flow.specs.declared.live.Live.{Live}
use Rattle.tta_flow.specs.Blocks.{IsFlow}
use Rattle.tta_flow.specs.Live.{IsLive}
use Rattle.tta_alloc.specs.declared.homes.Homes.{Homes}
use Rattle.tta_alloc.specs.Allotted.{SlotsAsScanned}
use Rattle.tta_lower.specs.Liveness.{LoweringInput}
use Rattle.tta_lower.specs.Law.{IsKnown}
use Rattle.tta_sched.specs.Serial.{IsSerial}
use Rattle.tta_link.specs.Linked.{IsLinked}
use Rattle.tta_link.specs.Blocks.{AreBlocks}
use Rattle.tta_compiler_laws.specs.Compiler.{IsPair, AreStandIns, raw}
use Rattle.tta_compiler_laws.specs.Direct.{is_direct, list_of_direct}

-- The linker takes placed blocks, and all legal code that is linked of them, with data that lay what the program's lay, agrees with the
-- program: from the same words and input it puts out the same words, and halts where the program does.
pub record DoesLinked (u : Units) (m : Machine) (p : Program) (ps : List Placed) : Type 0 where
  pub links : AreBlocks m ps
  pub agrees : (whole : Whole) → IsLinked m whole.code ps → IsLegalCode m whole.code
      → ((memory : List ℕ) → over (data_in whole) memory ≡ over (data_of p) memory) → Agrees u m p whole

-- one placement for each list, each with one item in a cycle
pub record AreSerial (m : Machine) (lists : List BlockList) (ps : List Placed) : Type 0 where
  pub count : length ps ≡ length lists
  pub serial : (k : ℕ) (b : BlockList) (p : Placed) → slice_get lists k ≡ Some b → slice_get ps k ≡ Some p → IsSerial m b.items p

-- Of every machine and program that can be compiled, the selected lists, and all that may be placed for them, may be placed one item in
-- a cycle: the linker takes such placements, and the code that it makes of them agrees with the program.
abbrev pub SerialAgrees : Type 0
SerialAgrees =
    (u : Units) (m : Machine) (c : Choice) (p : Program) (known : LoweringInput) (lists : List BlockList) (ps : List Placed)
    → IsPair u m c p → IsKnown p (length c.homes) known → AreStandIns m (raw u m c p known) lists → AreSerial m lists ps
    → DoesLinked u m p ps

-- the same of a program that only outputs constants which the machine brings to its output
abbrev pub SerialDirectAgrees : Type 0
SerialDirectAgrees =
    (u : Units) (m : Machine) (p : Program) → IsMachine m → IsProgram p → is_direct m p ≡ true
    → (blocks : List Block) (l : Live) (h : Homes) → IsFlow p blocks → IsLive p l → SlotsAsScanned p 0 h
    → (ps : List Placed) → AreSerial m (list_of_direct m p ∷ []) ps → DoesLinked u m p ps
