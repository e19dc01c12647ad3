-- What lowering gives: the register code of a program, and why there is none.
use Rattle.std.specs.Prelude.{◌≡◌, ◌↔◌, ◌≤◌, ◌<◌, ◌+◌, ◌*◌, ℕ, Bool, true, List, [], ◌∷◌, Option, Some, length, ⊤}
use Rattle.tta_lower.specs.Cited.{AllPairs, Units, Step, Proc, DataLine, Program, step_count, step_at, arg_count, var_count, frame_need, only_constants, puts, alone, RBlock, Rir, IsClosed, names, Need, asks, assigns_block, weight, one_block, Live, count_of}
use Rattle.tta_program.specs.declared.step.Step.TheVariants.{Invoke}
use Rattle.tta_flow.specs.declared.flow.Block.{Block}
use Rattle.tta_alloc.specs.declared.homes.Homes.{Homes}
use Rattle.tta_lower.specs.declared.error.LowerError.{LowerError}
use Rattle.tta_lower.specs.declared.error.LowerError.TheVariants.{FrameFull, NoMemory}
use Rattle.tta_lower.specs.Liveness.{LiveBefore, LiveAfter, Homes as HomesType}
use Rattle.tta_lower.specs.Lower.{Part, Entry, Steps, Returned, owner_of, parts, lowered}
use Rattle.tta_lower.specs.Counts.{traffic, asks_part, assigns_part}
use Rattle.tta_lower.specs.Keeps.{KeepsMeaning}
use Rattle.tta_lower.specs.Members.{In, Rises}
use Rattle.tta_lower.specs.LoweringInput.{first_by, home_by, known_by}

-- ---- the home registers that keep their words after a block

-- whether a step is a call
abbrev pub IsCall : Option Step → Type 0
IsCall (Some (Invoke d callee args)) = ⊤
IsCall step = ⊥

-- A variable is live where a part ends: before the procedure's first step at its entry, and after the last step of a block.
-- After a block that ends with a call none counts; after the return from it those count that are live after the call.
abbrev pub IsLiveAt : Program → Part → (x : ℕ) → Type 0
IsLiveAt p (Entry owner) x = LiveBefore p owner x 0
IsLiveAt p (Steps b) x = LiveAfter p b.owner x b.last × (IsCall (step_at p b.owner b.last) → ⊥)
IsLiveAt p (Returned b d callee) x = LiveAfter p b.owner x b.last

-- ---- a block and the part that it stands for

-- The registers that a block keeps are those of the variables that are live where its part ends, rising; and it names
-- slots, asks for operations and assigns at most as often as the part.
pub record StandsFor (p : Program) (home : HomesType) (first : (owner x : ℕ) → Bool) (x : Part) (b : RBlock) : Type 0 where
  pub rising : Rises b.live_out
  pub live_out : (k : ℕ) → In k b.live_out ↔ ((v : ℕ) × (IsLiveAt p x v × (home (owner_of x) v ≡ Some k)))
  pub slots : names b ≤ traffic p home first x
  pub asked : (u : Units) (wanted : Need → Bool) → asks u wanted b ≤ asks_part u wanted p home x
  pub assigned : assigns_block b ≤ assigns_part p home first x

-- ---- the code of a program

-- Register code of a program by its blocks, its liveness and its homes, for so many frame words: it is the code of the
-- program's parts in order, one block for each. It is closed, has the program's meaning, and is small; and where the
-- program only outputs constants and halts it is one block.
pub record IsCodeOf (p : Program) (blocks : List Block) (l : Live) (h : Homes) (frame_words : ℕ) (r : Rir) : Type 0 where
  pub room : frame_need p ≤ frame_words
  pub is : r ≡ lowered p (known_by p blocks l h) (count_of h)
  pub stands : AllPairs (StandsFor p (home_by p h) (first_by p l)) (parts p blocks (first_by p l)) r.blocks
  pub closed : (u : Units) → IsClosed u r (count_of h) frame_words
  pub keeps : (u : Units) → KeepsMeaning u p r
  pub few : length r.blocks ≤ 2 * step_count p + 3 * length p.procs
  pub light : weight r ≤ 32 * step_count p + 8 * (arg_count p + var_count p) + 16 * length p.procs
  pub direct : (q : Proc) (init : List DataLine) → p ≡ alone q init → only_constants q.steps ≡ true → r.blocks ≡ one_block (puts q.steps) ∷ []

-- ---- why there is no code

-- The frames need more words than there are, or there is no memory.
abbrev pub IsCause : (p : Program) (frame_words : ℕ) → LowerError → Type 0
IsCause p frame_words (FrameFull need have) = (need ≡ frame_need p) × (have ≡ frame_words) × (have < need)
IsCause p frame_words NoMemory = ⊤
