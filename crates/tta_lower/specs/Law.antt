-- What holds of the register code of every program.
use Rattle.std.specs.Prelude.{ℕ, ◌+◌, ◌*◌, ◌≤◌, Bool, length}
use Rattle.tta_lower.specs.Cited.{Units, Program, step_count, IsProgram, names, Need, asks, assigns_block, weight, arg_count, var_count, IsClosed, frame_need}
use Rattle.tta_lower.specs.Liveness.{LoweringInput, IsFlow, IsHomes}
use Rattle.tta_lower.specs.Lower.{Part, parts, block_of, lowered, Answers}
use Rattle.tta_lower.specs.Counts.{traffic, asks_part, assigns_part}
use Rattle.tta_lower.specs.Keeps.{KeepsMeaning}
use Rattle.tta_lower.specs.Members.{In}

-- what is known of a program's blocks, homes and liveness, for so many home registers
pub record IsKnown (p : Program) (homes : ℕ) (known : LoweringInput) : Type 0 where
  pub flow : IsFlow p known.blocks
  pub apart : IsHomes p known.home
  pub answers : Answers p known homes

-- The code has the program's meaning and is closed; each block names slots, asks for operations and assigns at most as
-- often as the part that it stands for; and there are few blocks of little weight.
pub record IsRegisterCode (u : Units) (p : Program) (known : LoweringInput) (homes frame_words : ℕ) : Type 0 where
  pub keeps : KeepsMeaning u p (lowered p known homes)
  pub closed : frame_need p ≤ frame_words → IsClosed u (lowered p known homes) homes frame_words
  pub slots : (x : Part) → In x (parts p known.blocks known.first) → names (block_of p known homes x) ≤ traffic p known.home known.first x
  pub asked : (wanted : Need → Bool) (x : Part) → In x (parts p known.blocks known.first)
      → asks u wanted (block_of p known homes x) ≤ asks_part u wanted p known.home x
  pub assigned : (x : Part) → In x (parts p known.blocks known.first) → assigns_block (block_of p known homes x) ≤ assigns_part p known.home known.first x
  pub few : length (parts p known.blocks known.first) ≤ 2 * step_count p + 3 * length p.procs
  pub light : weight (lowered p known homes) ≤ 32 * step_count p + 8 * (arg_count p + var_count p) + 16 * length p.procs

-- the law: it follows from what is known of blocks, homes and liveness
abbrev pub LowersWell : Type 0
LowersWell =
    (u : Units) (p : Program) (known : LoweringInput) (homes frame_words : ℕ) → IsProgram p → IsFlow p known.blocks → IsHomes p known.home
    → Answers p known homes → IsRegisterCode u p known homes frame_words
