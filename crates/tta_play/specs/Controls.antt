-- Which control move acts in a state, and which is under way.
use Rattle.std.specs.Prelude.{◌≡◌, ℕ, ◌+◌, ◌==◌, if◌then◌else◌, List, Option, None, Some, option_map, option_and_then}
use Rattle.tta_play.specs.Cited.{Dest, Kind, Jumps, Calls, Halts, bring, control_of, first_some, Instruction, Move, Pending, State, read_source, effect_of, coming, slots_of, Held, Stands}
use Rattle.tta_arch.specs.declared.ends.Dest.TheVariants as dest
use Rattle.tta_play.specs.declared.control.ControlKind.{ControlKind}
use Rattle.tta_play.specs.declared.control.ControlKind.TheVariants.{Jump, Call, Halt}
use Rattle.tta_play.specs.declared.control.ControlMove.{ControlMove}
use Rattle.tta_play.specs.declared.control.UnderWay.{UnderWay}

-- ---- what acts

-- what control is made to do
abbrev pub kind_of : ControlKind → Kind
kind_of Jump = Jumps
kind_of Call = Calls
kind_of Halt = Halts

-- what a destination makes control do
abbrev pub kind_at : Dest → Option Kind
kind_at (dest.Reg file index) = None
kind_at (dest.Operand unit) = None
kind_at (dest.Trigger unit op) = None
kind_at dest.Jump = Some Jumps
kind_at dest.Call = Some Calls
kind_at dest.Halt = Some Halts

-- a control move that acts, with its word
abbrev pub acting : ControlMove → Kind × ℕ
acting c = (kind_of c.kind, c.word)

-- the control move of a slot, if it acts
abbrev pub control_in : State → Option Move → Option (Kind × ℕ)
control_in s slot = option_and_then (λ v. option_and_then control_of (bring (read_source s) (effect_of v))) slot

-- the one that acts in a state, if any
abbrev pub acts_in : List Instruction → State → Option (Kind × ℕ)
acts_in words s = first_some (control_in s) (slots_of (coming words s))

-- ---- what is under way

-- a control move that is under way
abbrev pub pending_of : UnderWay → Pending
pending_of p = record { time = p.time; kind = kind_of p.kind; word = p.word }

-- the one that is under way after a cycle in which this one acted: it takes effect so many cycles after it
abbrev pub started : (now delay : ℕ) → Option Pending → Option (Kind × ℕ) → Option Pending
started now delay before None = before
started now delay before (Some c) = Some (record { time = now + delay; kind = c.0; word = c.1 })

-- one that takes effect now is not under way any more
abbrev pub unless_now : (now : ℕ) → Option Pending → Option Pending
unless_now now None = None
unless_now now (Some p) = if p.time == now then None else Some p

-- A run stands for a state, and this is the control move that is under way in it.
pub record Follows (h : Held) (under_way : Option UnderWay) (s : State) : Type 0 where
  pub stands : Stands h s
  pub pending : option_map pending_of under_way ≡ s.pending
