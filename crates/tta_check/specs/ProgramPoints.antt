-- Where a walk stands: its address and the control move under way. Facts are kept together for each.
use Rattle.std.specs.Prelude.{◌≡◌, ℕ, zero, suc, ◌+◌, if◌then◌else◌, List, Option, Some, None}
use Rattle.tta_check.specs.Cited.{Machine, Kind, Jumps, Calls, Halts, Effect, first_some, Pending}
use Rattle.tta_check.specs.Walks.{Choice, Word, Walk, control_to}
use Rattle.tta_check.specs.Facts.{lets}

-- a control move under way: how many instructions after this one are carried out before it takes effect, what it is and its word
pub record Under : Type 0 where
  pub left : ℕ
  pub kind : Kind
  pub word : ℕ

-- an address, and the control move under way
pub record ProgramPoint : Type 0 where
  pub address : ℕ
  pub under : Option Under

-- the same as a walk keeps it
abbrev pub pending_in : (now : ℕ) → Option Under → Option Pending
pending_in now None = None
pending_in now (Some u) = Some (record { time = now + 1 + u.left; kind = u.kind; word = u.word })

-- a walk stands at a program point
pub record At (k : ProgramPoint) (w : Walk) : Type 0 where
  pub address : w.address ≡ k.address
  pub pending : w.pending ≡ pending_in w.cycle k.under

-- what is under way after control is triggered, or is not
abbrev pub under_after : (delay : ℕ) → Option Under → Option (Kind × ℕ) → Option Under
under_after delay u None = u
under_after delay u (Some c) = Some (record { left = delay; kind = c.0; word = c.1 })

-- where a control move leads that takes effect
abbrev pub leads : Kind → ℕ → Option ProgramPoint
leads Jumps word = Some (record { address = word; under = None })
leads Calls word = Some (record { address = word; under = None })
leads Halts word = None

-- where a walk goes on with this control move under way after an instruction, if it does
abbrev pub point_after : (address left : ℕ) → Kind → ℕ → Option ProgramPoint
point_after address zero kind word = leads kind word
point_after address (suc left) kind word =
    Some (record { address = address + 1; under = Some (record { left = left; kind = kind; word = word }) })

abbrev pub point_of : (address : ℕ) → Option Under → Option ProgramPoint
point_of address None = Some (record { address = address + 1; under = None })
point_of address (Some u) = point_after address u.left u.kind u.word

-- where a walk goes on after an instruction that makes control do this, if it does
abbrev pub next_point : Machine → ProgramPoint → Option (Kind × ℕ) → Option ProgramPoint
next_point m k c = point_of k.address (under_after m.control.delay k.under c)

-- what control is made to do under a choice, where a jump or call has this word
abbrev pub event : (word : Word) → Choice → List Effect → Option (Kind × ℕ)
event word choice es = first_some (λ e. if lets choice e then control_to word e.target else None) es
