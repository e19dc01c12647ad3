-- What is known of blocks, homes and liveness, by what is answered of them.
use Rattle.std.specs.Prelude.{ℕ, Bool, ◌&&◌, nat_lt, if◌then◌else◌, List, Option, Some, None}
use Rattle.tta_lower.specs.Cited.{Program, IsProgram, Live, IsLive, live_before, live_after, Home, Slot, home_of, SlotsAsScanned}
use Rattle.tta_flow.specs.declared.flow.Block.{Block}
use Rattle.tta_flow.specs.Blocks.{IsFlow}
use Rattle.tta_alloc.specs.declared.home.Home.TheVariants.{Reg}
use Rattle.tta_alloc.specs.declared.homes.Homes.{Homes}
use Rattle.tta_lower.specs.Liveness.{LoweringInput}
use Rattle.tta_lower.specs.Layout.{vars_of}
use Rattle.tta_lower.specs.Law.{IsKnown}

-- the home register that a home is, if it is one
abbrev pub reg_of : Home → Option ℕ
reg_of (Reg k) = Some k
reg_of (Slot x) = None

module _ (p : Program) where
  -- the home register of a variable, if it has one
  abbrev pub home_by : Homes → (owner x : ℕ) → Option ℕ
  home_by h owner x = if nat_lt x (vars_of p owner) then reg_of (home_of h owner x) else None

  -- whether a variable is live at a procedure's entry
  abbrev pub first_by : Live → (owner x : ℕ) → Bool
  first_by l owner x = nat_lt x (vars_of p owner) && live_before l owner 0 x

  -- whether a variable is live after a step
  abbrev pub after_by : Live → (owner at x : ℕ) → Bool
  after_by l owner at x = nat_lt x (vars_of p owner) && live_after l owner at x

-- what blocks, homes and liveness answer
abbrev pub known_by : Program → List Block → Live → Homes → LoweringInput
known_by p blocks l h = record { blocks = blocks; home = home_by p h; first = first_by p l; after = after_by p l }

-- all that lowering has to know follows from what blocks, liveness and homes answer
abbrev pub AnswersKnow : Type 0
AnswersKnow =
    (p : Program) (homes : ℕ) (blocks : List Block) (l : Live) (h : Homes) → IsProgram p → IsFlow p blocks → IsLive p l → SlotsAsScanned p homes h
    → IsKnown p homes (known_by p blocks l h)
