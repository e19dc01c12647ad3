-- What register code does, leg by leg.
use Rattle.std.specs.Prelude.{ℕ, ◌+◌, ◌==◌, Bool, true, false, not, ◌&&◌, if◌then◌else◌, List, [], ◌∷◌, ◌++◌, drop, Option, Some, None, is_some, slice_index, slice_set}
use Rattle.std.specs.Option.{unwrap_or}
use Rattle.std.specs.List.{list_any}
use Rattle.tta_list.specs.Iterate.{iterate}
use Rattle.tta_ops.specs.Units.{Units}
use Rattle.tta_program.specs.Sequential.{Outcome, Running, Halted, Waiting, holds}
use Rattle.tta_lir.specs.declared.code.Place.{Place}
use Rattle.tta_lir.specs.declared.code.Place.TheVariants.{Reg, Frame}
use Rattle.tta_lir.specs.declared.code.RSrc.{RSrc}
use Rattle.tta_lir.specs.declared.code.RSrc.TheVariants.{At, Word}
use Rattle.tta_lir.specs.declared.code.RStep.{RStep}
use Rattle.tta_lir.specs.declared.code.RStep.TheVariants.{Copy, Apply, Load, Take, Store, Put, When, SaveRa}
use Rattle.tta_lir.specs.declared.code.Exit.{Exit}
use Rattle.tta_lir.specs.declared.code.Exit.TheVariants.{Next, Goto, If, Invoke, Back, Halt}
use Rattle.tta_lir.specs.declared.code.RBlock.{RBlock}
use Rattle.tta_lir.specs.declared.code.Rir.{Rir}

-- ---- states

-- what a slot of the frame space holds: a word, or the number of the block that a call comes back to
pub data Kept : Type 0 where
  Plain : ℕ → Kept
  Return : ℕ → Kept

-- The block that comes next; the home registers that are set; the slots that were written, all others holding the word
-- 0; where the latest call comes back to; the data words; the rest of the input; what was output; whether the run goes
-- on; and whether all that was read had been set. Registers and slots stand with what they hold, the newest first.
pub record State : Type 0 where
  pub at : ℕ
  pub regs : List (ℕ × ℕ)
  pub frame : List (ℕ × Kept)
  pub ra : Option ℕ
  pub memory : List ℕ
  pub rest : List ℕ
  pub output : List ℕ
  pub outcome : Outcome
  pub sound : Bool

-- what stands with a number, the newest first
abbrev pub found : {A : Type 0} → ℕ → List (ℕ × A) → Option A
found k [] = None
found k (e ∷ es) = if e.0 == k then Some e.1 else found k es

-- the word of a slot, if it is one
abbrev pub plain : Option Kept → Option ℕ
plain None = Some 0
plain (Some (Plain w)) = Some w
plain (Some (Return b)) = None

-- the block number that a slot keeps, if it keeps one
abbrev pub return_of : Option Kept → Option ℕ
return_of None = None
return_of (Some (Plain w)) = None
return_of (Some (Return b)) = Some b

-- the word at a place, if it is set
abbrev pub word : List (ℕ × ℕ) → List (ℕ × Kept) → Place → Option ℕ
word regs frame (Reg k) = found k regs
word regs frame (Frame f) = plain (found f frame)

-- the word of an operand, if it is set
abbrev pub operand : State → RSrc → Option ℕ
operand s (At p) = word s.regs s.frame p
operand s (Word w) = Some w

-- the word of an operand that is set
abbrev pub value : State → RSrc → ℕ
value s o = unwrap_or (operand s o) 0

-- whether an operand is set
abbrev pub is_set : State → RSrc → Bool
is_set s o = is_some (operand s o)

-- ---- steps

-- the registers after a place got a word
abbrev pub put_reg : Place → ℕ → List (ℕ × ℕ) → List (ℕ × ℕ)
put_reg (Reg k) w regs = (k, w) ∷ regs
put_reg (Frame f) w regs = regs

-- and the slots
abbrev pub put_slot : Place → ℕ → List (ℕ × Kept) → List (ℕ × Kept)
put_slot (Reg k) w frame = frame
put_slot (Frame f) w frame = (f, Plain w) ∷ frame

-- a place gets a word
abbrev pub puts_at : State → Place → ℕ → State
puts_at s d w = record s { regs = put_reg d w s.regs; frame = put_slot d w s.frame }

-- the next word of the input goes to a place; where there is none, the run waits
abbrev pub takes : State → Place → List ℕ → State
takes s d [] = record s { outcome = Waiting }
takes s d (w ∷ rest) = puts_at (record s { rest = rest }) d w

-- whether all that a step reads is set; a `when` reads its source and its destination too, whatever its condition
abbrev pub is_ready : State → RStep → Bool
is_ready s (Copy d a) = is_set s a
is_ready s (Apply d op a b) = is_set s a && is_set s b
is_ready s (Load d a) = is_set s a
is_ready s (Take d) = true
is_ready s (Store a v) = is_set s a && is_set s v
is_ready s (Put v) = is_set s v
is_ready s (When rel a b d v) = is_set s a && (is_set s b && (is_set s (At d) && is_set s v))
is_ready s (SaveRa slot) = is_some s.ra

-- what a step makes of a state
abbrev pub carries : Units → State → RStep → State
carries u s (Copy d a) = puts_at s d (value s a)
carries u s (Apply d op a b) = puts_at s d (u.value op.0 (value s a) (value s b))
carries u s (Load d a) = puts_at s d (slice_index s.memory (value s a))
carries u s (Take d) = takes s d s.rest
carries u s (Store a v) = record s { memory = slice_set s.memory (value s a) (value s v) }
carries u s (Put v) = record s { output = s.output ++ value s v ∷ [] }
carries u s (When rel a b d v) = if holds u rel (value s a) (value s b) then puts_at s d (value s v) else s
carries u s (SaveRa slot) = record s { frame = (slot, Return (unwrap_or s.ra 0)) ∷ s.frame }

-- something was read that had not been set: the run has no meaning, and stays
abbrev pub lost : State → State
lost s = record s { sound = false }

-- one step; where it reads something that is not set, the run is lost
unfoldable pub step : Units → State → RStep → State
step u s r = if is_ready s r then carries u s r else lost s

-- whether a run goes on
abbrev pub is_running : Outcome → Bool
is_running Running = true
is_running Halted = false
is_running Waiting = false

-- whether a run goes on and has a meaning so far
abbrev pub goes_on : State → Bool
goes_on s = s.sound && is_running s.outcome

-- the steps of a block, up to one that waits
abbrev pub steps_of : Units → List RStep → State → State
steps_of u [] s = s
steps_of u (r ∷ rs) s = if goes_on (step u s r) then steps_of u rs (step u s r) else step u s r

-- ---- blocks

-- whether all that an exit reads is set
abbrev pub can_leave : State → Exit → Bool
can_leave s Next = true
can_leave s (Goto to) = true
can_leave s (If rel a b to) = is_set s a && is_set s b
can_leave s (Invoke to) = true
can_leave s (Back slot) = is_some (return_of (found slot s.frame))
can_leave s Halt = true

-- whether an exit leads to the next block without a transfer
abbrev pub falls_through : Units → State → Exit → Bool
falls_through u s Next = true
falls_through u s (If rel a b to) = not (holds u rel (value s a) (value s b))
falls_through u s e = false

-- the home registers that stay after a block
abbrev pub stay : List ℕ → List (ℕ × ℕ) → List (ℕ × ℕ)
stay live [] = []
stay live (e ∷ es) = if list_any (λ k. k == e.0) live then e ∷ stay live es else stay live es

-- a block comes next
abbrev pub to_block : State → ℕ → State
to_block s b = record s { at = b }

-- what a transfer makes of a state
abbrev pub transfers : State → Exit → State
transfers s Next = s
transfers s (Goto to) = to_block s to
transfers s (If rel a b to) = to_block s to
transfers s (Invoke to) = record s { at = to; ra = Some (s.at + 1) }
transfers s (Back slot) = to_block s (unwrap_or (return_of (found slot s.frame)) 0)
transfers s Halt = record s { outcome = Halted }

-- registers that are not live after a block are unset
abbrev pub unset : RBlock → State → State
unset b s = record s { regs = stay b.live_out s.regs }

-- ---- legs

-- a block ends, with what comes where it falls through
abbrev pub leaves : Units → RBlock → State → State → State
leaves u b s next =
    if not (goes_on s) then s else
    if not (can_leave s b.exit) then lost s else
    if falls_through u s b.exit then next else unset b (transfers s b.exit)

-- the state in which the next block begins
abbrev pub falls : RBlock → State → State
falls b s = unset b (to_block s (s.at + 1))

-- the blocks of a leg: one after the other, up to and with the first transfer
abbrev pub walk : Units → List RBlock → State → State
walk u [] s = lost s
walk u (b ∷ bs) s = leaves u b (steps_of u b.steps s) (walk u bs (falls b (steps_of u b.steps s)))

-- one leg: the blocks from the one that comes next, up to and with the first transfer
unfoldable pub leg : Units → Rir → State → State
leg u r s = if goes_on s then walk u (drop s.at r.blocks) s else s

-- ---- a run

-- the first block, no register set, no slot written
abbrev pub start : List ℕ → List ℕ → State
start memory input = record {
  at = 0;
  regs = [];
  frame = [];
  ra = None;
  memory = memory;
  rest = input;
  output = [];
  outcome = Running;
  sound = true;
}

-- the state after at most n legs
abbrev pub rrun : Units → Rir → (memory input : List ℕ) → ℕ → State
rrun u r memory input n = iterate n (leg u r) (start memory input)
