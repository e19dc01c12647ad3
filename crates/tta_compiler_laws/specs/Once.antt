-- The blocks and the liveness of a program are there once, and so are the variables that have slots. So what is said of
-- lists by them is said by the program alone: the homes may differ, but not how many slots and registers the parts name.
use Rattle.std.specs.Prelude.{◌≡◌, ◌↔◌, ℕ, ◌<◌, Bool, List, Some, slice_get}
use Rattle.tta_compiler_laws.specs.Cited.{Units, Proc, Program, Need, Block, Live, IsFlow, IsLive, live_before, live_after, Slot, Homes, home_of, SlotsAsScanned, Part, home_by, traffic, asks_part, assigns_part}
use Rattle.tta_lower.specs.Liveness.{Homes as Registers}

-- a program has one list of blocks
abbrev pub OneFlow : Type 0
OneFlow = (p : Program) (blocks others : List Block) → IsFlow p blocks → IsFlow p others → blocks ≡ others

-- all that answers which of its variables are live answers the same
abbrev pub OneLiveness : Type 0
OneLiveness =
    (p : Program) (l other : Live) → IsLive p l → IsLive p other → (owner step x : ℕ) (q : Proc) → slice_get p.procs owner ≡ Some q → x < q.vars
    → (live_before l owner step x ≡ live_before other owner step x) × (live_after l owner step x ≡ live_after other owner step x)

-- and of its variables the same have their slots, for as many home registers, however the home registers are chosen
abbrev pub OneSlots : Type 0
OneSlots =
    (p : Program) (homes : ℕ) (h other : Homes) → SlotsAsScanned p homes h → SlotsAsScanned p homes other → (owner x : ℕ) (q : Proc) → slice_get p.procs owner ≡ Some q → x < q.vars
    → (home_of h owner x ≡ Slot x) ↔ (home_of other owner x ≡ Slot x)

-- a part names as many slots, asks for as many operations and assigns as often by some homes as by others
pub record HasOneCount (p : Program) (home other : Registers) (first : (owner x : ℕ) → Bool) (x : Part) : Type 0 where
  pub slots : traffic p home first x ≡ traffic p other first x
  pub asked : (u : Units) (wanted : Need → Bool) → asks_part u wanted p home x ≡ asks_part u wanted p other x
  pub assigned : assigns_part p home first x ≡ assigns_part p other first x

-- so what a plan bounds is the program's, whichever home registers are chosen
abbrev pub OneCounts : Type 0
OneCounts =
    (p : Program) (homes : ℕ) (h other : Homes) → SlotsAsScanned p homes h → SlotsAsScanned p homes other → (first : (owner x : ℕ) → Bool) (x : Part)
    → HasOneCount p (home_by p h) (home_by p other) first x
