-- What comes of an instruction for the walks that stand at it.
use Rattle.std.specs.Prelude.{◌≡◌, ℕ, ◌+◌, Bool, true, false, map, Option, Some, None, is_some}
use Rattle.std.specs.Option.{option_map, option_map_or}
use Rattle.tta_check.specs.Cited.{GuardRef, Machine, Kind, Effect, Instruction, effects_of}
use Rattle.tta_check.specs.declared.guard_value.GuardValue.{GuardValue}
use Rattle.tta_check.specs.declared.transfer_function.Transfer.{Transfer}
use Rattle.tta_check.specs.declared.visit.Successor.{Successor}
use Rattle.tta_check.specs.declared.visit.Outcome.{Outcome}
use Rattle.tta_check.specs.declared.visit.Outcome.TheVariants.{Ends, Goes}
use Rattle.tta_check.specs.Walks.{Word}
use Rattle.tta_check.specs.declared.verdict.Verdict.{Verdict}
use Rattle.tta_check.specs.declared.verdict.Verdict.TheVariants.{Unsafe}
use Rattle.tta_check.specs.ProgramPoints.{ProgramPoint, next_point}
use Rattle.tta_check.specs.States.{tells}
use Rattle.tta_check.specs.Transfers.{kept_after, ports_after}
use Rattle.tta_check.specs.Controls.{controller, does}
use Rattle.tta_check.specs.Codes.{code_in}
use Rattle.tta_check.specs.JumpTargets.{jump_target_of}
use Rattle.tta_check.specs.Going.{point_as}

-- how an instruction at a program point is carried out with this guard settled
abbrev pub transfer_at : Machine → ProgramPoint → Option GuardValue → Transfer
transfer_at m k guard_value = record { back = k.address + 1 + m.control.delay; settled = guard_value }

-- where walks go on where control is made to do this, if they do, and what may hold of them there
pub record IsWay (m : Machine) (i : Instruction) (at : Successor) (guard_value : Option GuardValue) (event : Option (Kind × ℕ)) (o : Option Successor)
    : Type 0 where
  pub point : option_map (λ x. point_as x.point) o ≡ next_point m (point_as at.point) event
  pub cells : (x : Successor) → o ≡ Some x → x.state.cells.items
      ≡ map (kept_after m i (transfer_at m (point_as at.point) guard_value) at.state.cells.items) at.state.cells.items
  pub ports : (x : Successor) → o ≡ Some x → x.state.ports.items ≡ ports_after m i (transfer_at m (point_as at.point) guard_value) 0 at.state.ports.items

-- a guard that is settled, if there is one
abbrev pub settled : Option GuardRef → Bool → Option GuardValue
settled g acts = option_map (λ h. record { guard = h; acts = acts }) g

-- where walks go on where the control move acts, if there is one
abbrev pub IsActs : Machine → Instruction → Successor → Option Effect → Word → Option Successor → Type 0
IsActs m i at None word o = o ≡ None
IsActs m i at (Some e) word o = IsWay m i at (settled e.guard true) (does word (Some e) true) o

-- where walks go on where a move with this guard does not act, if it can
abbrev pub StaysBy : Machine → Instruction → Successor → Option GuardRef → Option Successor → Type 0
StaysBy m i at None o = o ≡ None
StaysBy m i at (Some g) o = IsWay m i at (settled (Some g) false) None o

-- where walks go on where the control move does not act, or where there is none
abbrev pub IsStays : Machine → Instruction → Successor → Option Effect → Option Successor → Type 0
IsStays m i at None o = IsWay m i at None None o
IsStays m i at (Some e) o = StaysBy m i at e.guard o

-- the verdict at an instruction, if there is one: the first code by the facts that are told, else 80 where its jump or call has two words
abbrev pub end_of : Machine → Instruction → Successor → Option Verdict
end_of m i at =
    option_map_or (λ code. Some (Unsafe code at.point.address)) (code_in (tells at.state) m (is_some at.point.under) i)
    (option_map_or (λ word. None) (jump_target_of at.state.cells.items (controller (effects_of m i))) (Some (Unsafe 80 at.point.address)))

-- where walks go on from an instruction, whose jump or call has this word
pub record GoesOn (m : Machine) (i : Instruction) (at : Successor) (acts stays : Option Successor) : Type 0 where
  pub no_end : end_of m i at ≡ None
  pub word : Word
  pub jump_target : jump_target_of at.state.cells.items (controller (effects_of m i)) ≡ Some word
  pub where_acts : IsActs m i at (controller (effects_of m i)) word acts
  pub where_stays : IsStays m i at (controller (effects_of m i)) stays

-- what comes of an instruction for the walks that stand at it
abbrev pub Visits : Machine → Instruction → Successor → Outcome → Type 0
Visits m i at (Ends verdict) = end_of m i at ≡ Some verdict
Visits m i at (Goes acts stays) = GoesOn m i at acts stays
