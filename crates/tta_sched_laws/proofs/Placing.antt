-- A placed list, and the code that carries it.
use Rattle.std.proofs.Common.{◌≡◌, ℕ, suc, ◌+◌, ◌<◌, ◌≤◌, Bool, true, false, List, Option, Some, None, refl, length, take, get_or, map}
use Rattle.std.specs.Prelude.{slice_get, is_some}
use Rattle.tta_arch.specs.declared.ends.Source.TheVariants as source
use Rattle.tta_sched_laws.specs.Cited.{Machine, Halts, Control, Effect, Place, Units, effects_of, waits, Next, Held, lacks, Spot, Code, Instruction}
use Rattle.tta_arch.specs.Effects.{kept as lookup}
use Rattle.tta_sched_laws.proofs.Total.{wants, do_moves, Timed, reads_by, writes_by, is_control}
use Rattle.tta_code.specs.Cycle as machine
use Rattle.tta_sched_laws.proofs.Pick.{Has}
use Rattle.tta_sched_laws.proofs.Steps.{offset, offset_of, IsPlain}
use Rattle.tta_sched_laws.proofs.Spaces.{HasOwners}

-- the words of a block from this address on do the effects of each cycle and nothing else
pub record Carries (m : Machine) (code : Code) (base len : ℕ) (placed : List Timed) : Type 0 where
  pub word : (c : ℕ) → c < len → Instruction
  pub stands : (c : ℕ) (lt : c < len) → slice_get code.words (base + c) ≡ Some (word c lt)
  pub only : (c : ℕ) (lt : c < len) (e : Effect) → Has (machine.effects_of m (word c lt)) e → Has placed (record { does = e; cycle = c })
  pub once : (c : ℕ) (lt : c < len) (i k : ℕ) (e : Effect) → slice_get (machine.effects_of m (word c lt)) i ≡ Some e → slice_get (machine.effects_of m (word c lt)) k ≡ Some e → i ≡ k
  pub all : (c : ℕ) (lt : c < len) (e : Effect) → Has placed (record { does = e; cycle = c }) → Has (machine.effects_of m (word c lt)) e

abbrev pub idle : Timed
idle = record { does = record { guard = None; src = source.Value 0; target = Control Halts }; cycle = 0 }

-- the moves before the k-th, in list order
abbrev pub after : Units → Machine → (back : ℕ) → List Timed → Held → ℕ → Held
after u m back placed h k = do_moves u m back h (map (λ (p : Timed). p.does) (take k placed))

abbrev pub or_zero : Option ℕ → ℕ
or_zero None = 0
or_zero (Some a) = a

pub some_is : (o : Option ℕ) → is_some o ≡ true → o ≡ Some (or_zero o)
some_is None e = cc
some_is (Some a) e = refl

module _ (u : Units) (m : Machine) (back : ℕ) (placed : List Timed) (h : Held) where
  abbrev pub n : ℕ
  n = length placed

  abbrev pub move_at : ℕ → Effect
  move_at k = (get_or placed k idle).does

  abbrev pub cycle_at : ℕ → ℕ
  cycle_at k = (get_or placed k idle).cycle

  abbrev pub held_at : ℕ → Held
  held_at k = after u m back placed h k

  -- when the k-th move's write of a place shows, if it has one
  abbrev pub write_at : Place → ℕ → Option ℕ
  write_at x k = offset x (writes_by m (move_at k))

  abbrev pub touch_of : Spot → ℕ → Option ℕ
  touch_of x k = offset_of x (writes_by m (move_at k))

  abbrev pub read_at : Place → ℕ → Option ℕ
  read_at x k = offset x (reads_by (move_at k))

  abbrev pub writes : Place → ℕ → Bool
  writes x k = is_some (write_at x k)

  abbrev pub shows : Place → ℕ → ℕ
  shows x k = cycle_at k + or_zero (write_at x k)

  abbrev pub value : Place → ℕ → Option ℕ
  value x k = lookup (held_at k).written x

  pub record Fits (len : ℕ) : Type 0 where
    pub plain : (k : ℕ) → k < n → IsPlain m (move_at k).target
    pub owners : HasOwners m
    pub opens : h.exit ≡ Next
    pub last : (k : ℕ) → k < n → is_control (move_at k).target ≡ true → suc k ≡ n
    pub ends : (k : ℕ) → k < n → is_control (move_at k).target ≡ true → cycle_at k + 1 + m.control.delay ≡ len
    pub sets : (k : ℕ) → k < n → lacks m (held_at k) (move_at k) ≡ false
    pub within : (k : ℕ) → k < n → cycle_at k < len
    pub stop : ℕ
    pub stops : stop ≤ len
    pub dry : (k : ℕ) → k < n → wants m (held_at k) (move_at k) ≡ true → stop ≤ cycle_at k
    pub shown_in : (k : ℕ) (x : Place) (a : ℕ) → k < n → write_at x k ≡ Some a → cycle_at k + a ≤ len
    pub finds : (i j : ℕ) (x : Place) (a b : ℕ) → i < j → j < n → write_at x i ≡ Some a → read_at x j ≡ Some b → cycle_at i + a ≤ cycle_at j + b
    pub rises : (i j : ℕ) (x : Spot) (a b : ℕ) → i < j → j < n → touch_of x i ≡ Some a → touch_of x j ≡ Some b → cycle_at i + a < cycle_at j + b
    pub waits : (i j : ℕ) (x : Place) (a b : ℕ) → i < j → j < n → read_at x i ≡ Some a → write_at x j ≡ Some b → cycle_at i + a < cycle_at j + b
