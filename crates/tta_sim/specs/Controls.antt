-- Control, as it is kept.
use Rattle.std.specs.Prelude.{◌≡◌, ℕ, ◌+◌, ◌<◌, ◌≤◌, Option, None, Some, option_map}
use Rattle.tta_sim.specs.Cited.{Kind, Outcome, Halted, Fault, State}
use Rattle.tta_code.specs.Cycle.{Pending as Underway, Running}
use Rattle.tta_sim.specs.declared.control.Pending.{Pending}
use Rattle.tta_sim.specs.declared.control.Phase.{Phase}
use Rattle.tta_sim.specs.declared.control.Phase.TheVariants as phase
use Rattle.tta_sim.specs.declared.control.Control.{Control}
use Rattle.tta_sim.specs.declared.stretch.Stretch.{Stretch}
use Rattle.tta_sim.specs.declared.stretch.Pace.{Pace}
use Rattle.tta_sim.specs.declared.stretch.Pace.TheVariants as pace
use Rattle.tta_sim.specs.Starts.{kind_of}

-- a control move that is under way
abbrev pub underway : Pending → Underway
underway p = record { time = p.time; kind = kind_of p.acting.kind; word = p.acting.word }

-- how a run stands in a cycle
abbrev pub outcome_of : (cycle : ℕ) → Phase → Outcome
outcome_of cycle phase.Running = Running
outcome_of cycle phase.Halted = Halted
outcome_of cycle (phase.Fault number) = Fault number cycle

-- a state with the address, the control move under way and the outcome that control has
abbrev pub controlled : State → Control → State
controlled s c = record s { pc = c.pc; pending = option_map underway c.pending; outcome = outcome_of s.cycle c.phase }

-- the control move that is under way after a cycle in which this one acted, where the cycle after it is `now`
abbrev pub pending_with : (now delay : ℕ) → Option Underway → Option (Kind × ℕ) → Option Underway
pending_with now delay before None = before
pending_with now delay before (Some acting) = Some (record { time = now + delay; kind = acting.0; word = acting.1 })

-- ---- stretches

-- Up to a cycle the run goes on, and no control move takes effect that is under way.
pub record GoesUntil (end : ℕ) (c : Control) : Type 0 where
  pub running : c.phase ≡ phase.Running
  pub later : (p : Pending) → c.pending ≡ Some p → end ≤ p.time

-- So it is up to the end of a stretch, where that is still to come.
pub record IsStretch (now : ℕ) (c : Control) (s : Stretch) : Type 0 where
  pub within : s.end ≤ s.last
  pub goes : now < s.end → GoesUntil s.end c

-- how many cycles were made, by what became of a line
abbrev pub cycles_in : Pace → ℕ
cycles_in pace.Goes = 1
cycles_in pace.Ends = 1
cycles_in pace.Stays = 0
