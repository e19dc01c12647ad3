-- When a circuit stands for a state of its machine.
use Rattle.std.specs.Prelude.{◌≡◌, ℕ, ◌+◌, ◌%◌, ◌^◌, ◌<◌, ◌≤◌, ◌==◌, Bool, true, false, ◌&&◌, nat_lt, if◌then◌else◌, List, length, map, Option, None, Some, is_some, slice_get, slice_index}
use Rattle.std.specs.Option.{option_map_or}
use Rattle.std.specs.List.{find}
use Rattle.tta_hardware.specs.Cited.{Units, UnitOp, Machine, guard_width, dest_width, template_width, Place, KeptReg, KeptImm, KeptOperand, KeptRa, KeptPort, Kind, Halts, kept, op_at, Start, operand_word, Instruction, State, Pending, Outcome, Halted, port, due_at, word_due, Held, is_set, value}
use Rattle.tta_code.specs.declared.code.Code.{Code as Program}
use Rattle.tta_hardware.specs.Signals.{Field, GuardOf, IsShort, SourceOf, ShortOf, DestOf, TemplateOf, LongOf, Store, Code, Data, Frame, Signal as Named, Pc, HasHalted, Underway, Goal, Ends, Keeps, IsDue, Due, HasBegun, Raw, IsInside, Port, Whole, Fetched, Word, Acts, Starts, Trigger, Operand, Controls, GoalNow, EndsNow, Lands, Asks, Gives, Goes, NextPc, Puts, PutWord}
use Rattle.tta_hardware.specs.Fields.{word_of}
use Rattle.tta_hardware.specs.Wires.{made_of, is_load, loads, longest}
use Rattle.tta_hardware.specs.Registers.{next_of}

-- ---- what a circuit holds

-- what a circuit of a machine holds
abbrev pub Hardware : Type 0
Hardware = Held Named Store

-- whether a machine has a place
abbrev pub has_place : Machine → Place → Bool
has_place m (KeptReg file index) = option_map_or (λ f. nat_lt index f.size) (slice_get m.files file) false
has_place m (KeptImm unit index) = option_map_or (λ i. nat_lt index i.size) (slice_get m.imms unit) false
has_place m (KeptOperand unit) = is_some (slice_get m.units unit)
has_place m KeptRa = true
has_place m (KeptPort unit) = is_some (slice_get m.units unit)

-- whether an instruction of a machine has a field that has bits
abbrev pub has_field : Machine → Field → Bool
has_field m (GuardOf bus) = nat_lt bus (length m.buses) && nat_lt 0 (guard_width m bus)
has_field m (IsShort bus) = nat_lt bus (length m.buses)
has_field m (SourceOf bus) = nat_lt bus (length m.buses)
has_field m (ShortOf bus) = nat_lt bus (length m.buses)
has_field m (DestOf bus) = nat_lt bus (length m.buses) && nat_lt 0 (dest_width m bus)
has_field m TemplateOf = nat_lt 0 (template_width m)
has_field m LongOf = true

-- whether moves and long immediates are written into a place; result ports are no such places
abbrev pub is_written : Place → Bool
is_written (KeptPort unit) = false
is_written p = true

-- the word that a load has read
abbrev pub read_in : (words : Named → ℕ) → (unit op : ℕ) → ℕ
read_in words unit op = if is_set (words (IsInside unit op)) then words (Raw unit op) else 0

-- a word, or that of the one of some loads that began at the clock before
abbrev pub fresh_of : (words : Named → ℕ) → (unit : ℕ) → List (ℕ × UnitOp) → (other : ℕ) → ℕ
fresh_of words unit os other = option_map_or (λ o. read_in words unit o.0) (find (λ o. is_set (words (HasBegun unit o.0))) os) other

-- of the loads with a latency
abbrev pub fresh_in : Machine → (words : Named → ℕ) → (unit latency : ℕ) → (other : ℕ) → ℕ
fresh_in m words unit latency other = fresh_of words unit (loads m unit latency) other

-- the result of a unit that a circuit has for so many cycles from now
abbrev pub coming_in : Machine → (words : Named → ℕ) → (unit delay : ℕ) → Option ℕ
coming_in m words unit delay =
    if nat_lt delay (longest m unit) && is_set (words (IsDue unit delay))
    then Some (fresh_in m words unit (delay + 1) (words (Due unit delay))) else None

-- whether a run has halted
abbrev pub is_halted : Outcome → Bool
is_halted Halted = true
is_halted o = false

-- whether a control move ends the run
abbrev pub halts : Kind → Bool
halts Halts = true
halts k = false

-- ---- the parts of a state

-- Registers have what was written last into their places; where nothing was ever written, they may have any word.
abbrev pub HasWords : Machine → (Named → ℕ) → State → Type 0
HasWords m words s = (p : Place) (w : ℕ) → is_written p ≡ true → has_place m p ≡ true → kept s.written p ≡ Some w → words (Keeps p) ≡ w

-- Result ports have what they show, once they show something.
abbrev pub HasPorts : Machine → (Named → ℕ) → State → Type 0
HasPorts m words s =
    (unit w : ℕ) → unit < length m.units → port s unit ≡ Some w → fresh_in m words unit 1 (words (Keeps (KeptPort unit))) ≡ w

-- Exactly those results are on their way that are due after this cycle.
abbrev pub HasComing : Machine → (Named → ℕ) → State → Type 0
HasComing m words s =
    (unit delay : ℕ) → unit < length m.units → 0 < delay → coming_in m words unit delay ≡ word_due (due_at unit (s.cycle + delay) s.started)

-- The control move under way, if any, takes effect in at most as many cycles as there is delay, halts or leads to its word.
pub record HasPending (m : Machine) (words : Named → ℕ) (s : State) : Type 0 where
  pub soon : (p : Pending) → s.pending ≡ Some p → (s.cycle < p.time) × (p.time ≤ s.cycle + m.control.delay)
  pub underway : (delay : ℕ) → 0 < delay → delay ≤ m.control.delay
      → is_set (words (Underway delay)) ≡ option_map_or (λ p. p.time == s.cycle + delay) s.pending false
  pub ends : (p : Pending) → s.pending ≡ Some p → is_set (words Ends) ≡ halts p.kind
  pub goal : (p : Pending) → s.pending ≡ Some p → halts p.kind ≡ false → words Goal ≡ p.word

-- The spaces of a circuit are those of a state, each with all its words.
pub record HasSpaces (m : Machine) (h : Hardware) (s : State) : Type 0 where
  pub memory : h.memories Data ≡ s.memory
  pub frame : h.memories Frame ≡ s.frame
  pub memory_size : length s.memory ≡ m.data_words
  pub frame_size : length s.frame ≡ m.frame_words

-- A circuit with this code stands for a state that runs or has halted. It has the address as far as its width goes,
-- and the word of the instruction there.
pub record StandsFor (m : Machine) (code : Program) (h : Hardware) (s : State) : Type 0 where
  pub words : HasWords m h.words s
  pub ports : HasPorts m h.words s
  pub coming : HasComing m h.words s
  pub pending : HasPending m h.words s
  pub pc : h.words Pc ≡ s.pc % 2 ^ m.control.address
  pub whole : (i : Instruction) → slice_get code.words s.pc ≡ Some i → h.words Whole ≡ word_of m i
  pub halted : is_set (h.words HasHalted) ≡ is_halted s.outcome
  pub rom : h.memories Code ≡ map (word_of m) code.words
  pub spaces : HasSpaces m h s

-- ---- one cycle

-- Words of all signals solve a circuit: registers have what is held, and wires the words of their expressions.
pub record IsSettled (u : Units) (m : Machine) (h : Hardware) (env : Named → ℕ) : Type 0 where
  pub places : (p : Place) → env (Keeps p) ≡ h.words (Keeps p)
  pub is_due : (unit delay : ℕ) → env (IsDue unit delay) ≡ h.words (IsDue unit delay)
  pub due : (unit delay : ℕ) → env (Due unit delay) ≡ h.words (Due unit delay)
  pub has_begun : (unit op : ℕ) → env (HasBegun unit op) ≡ h.words (HasBegun unit op)
  pub raw : (unit op : ℕ) → env (Raw unit op) ≡ h.words (Raw unit op)
  pub inside : (unit op : ℕ) → env (IsInside unit op) ≡ h.words (IsInside unit op)
  pub pc : env Pc ≡ h.words Pc
  pub halted : env HasHalted ≡ h.words HasHalted
  pub goal : env Goal ≡ h.words Goal
  pub ends : env Ends ≡ h.words Ends
  pub underway : (delay : ℕ) → env (Underway delay) ≡ h.words (Underway delay)
  pub whole : env Whole ≡ h.words Whole
  pub port : (unit : ℕ) → unit < length m.units → env (Port unit) ≡ value u h.memories env (made_of m (Port unit))
  pub fetched : (f : Field) → has_field m f ≡ true → env (Fetched f) ≡ value u h.memories env (made_of m (Fetched f))
  pub acts : (bus : ℕ) → bus < length m.buses → env (Acts bus) ≡ value u h.memories env (made_of m (Acts bus))
  pub word : (bus : ℕ) → bus < length m.buses → env (Word bus) ≡ value u h.memories env (made_of m (Word bus))
  pub starts : (unit op : ℕ) → is_some (op_at m unit op) ≡ true → env (Starts unit op) ≡ value u h.memories env (made_of m (Starts unit op))
  pub trigger : (unit : ℕ) → unit < length m.units → env (Trigger unit) ≡ value u h.memories env (made_of m (Trigger unit))
  pub operand : (unit : ℕ) → unit < length m.units → env (Operand unit) ≡ value u h.memories env (made_of m (Operand unit))
  pub controls : env Controls ≡ value u h.memories env (made_of m Controls)
  pub goal_now : env GoalNow ≡ value u h.memories env (made_of m GoalNow)
  pub ends_now : env EndsNow ≡ value u h.memories env (made_of m EndsNow)
  pub lands : env Lands ≡ value u h.memories env (made_of m Lands)
  pub asks : env Asks ≡ value u h.memories env (made_of m Asks)
  pub gives : env Gives ≡ value u h.memories env (made_of m Gives)
  pub goes : env Goes ≡ value u h.memories env (made_of m Goes)
  pub next_pc : env NextPc ≡ value u h.memories env (made_of m NextPc)
  pub puts : env Puts ≡ value u h.memories env (made_of m Puts)
  pub put_word : env PutWord ≡ value u h.memories env (made_of m PutWord)

-- The words of registers after a clock that carries an instruction out: each register that the machine has becomes its next word,
-- and the instruction at the next address is fetched.
pub record HasClocked (u : Units) (m : Machine) (h : Hardware) (env : Named → ℕ) (after : Named → ℕ) : Type 0 where
  pub places : (p : Place) → has_place m p ≡ true → after (Keeps p) ≡ value u h.memories env (next_of m (Keeps p))
  pub is_due : (unit delay : ℕ) → unit < length m.units → 0 < delay → delay < longest m unit
      → after (IsDue unit delay) ≡ value u h.memories env (next_of m (IsDue unit delay))
  pub due : (unit delay : ℕ) → unit < length m.units → 0 < delay → delay < longest m unit
      → after (Due unit delay) ≡ value u h.memories env (next_of m (Due unit delay))
  pub begun : (unit op : ℕ) (o : UnitOp) → op_at m unit op ≡ Some o → is_load o.op ≡ true
      → after (HasBegun unit op) ≡ value u h.memories env (next_of m (HasBegun unit op))
  pub raw : (unit op : ℕ) (o : UnitOp) → op_at m unit op ≡ Some o → is_load o.op ≡ true
      → after (Raw unit op) ≡ value u h.memories env (next_of m (Raw unit op))
  pub inside : (unit op : ℕ) (o : UnitOp) → op_at m unit op ≡ Some o → is_load o.op ≡ true
      → after (IsInside unit op) ≡ value u h.memories env (next_of m (IsInside unit op))
  pub pc : after Pc ≡ value u h.memories env (next_of m Pc)
  pub whole : after Whole ≡ slice_index (h.memories Code) (after Pc)
  pub halted : after HasHalted ≡ value u h.memories env (next_of m HasHalted)
  pub goal : after Goal ≡ value u h.memories env (next_of m Goal)
  pub ends : after Ends ≡ value u h.memories env (next_of m Ends)
  pub underway : (delay : ℕ) → 0 < delay → delay ≤ m.control.delay
      → after (Underway delay) ≡ value u h.memories env (next_of m (Underway delay))

-- ---- what starts in a unit

-- the operation among those that start which is this unit's
abbrev pub start_in : (unit : ℕ) → List Start → Option Start
start_in unit ts = find (λ t. t.unit == unit) ts

-- The circuit starts this operation of a unit, and no other.
pub record StartsOne (m : Machine) (env : Named → ℕ) (unit : ℕ) (t : Start) : Type 0 where
  pub op : ℕ
  pub there : op_at m unit op ≡ Some t.does
  pub one : (k : ℕ) (o : UnitOp) → op_at m unit k ≡ Some o → is_set (env (Starts unit k)) ≡ (k == op)
  pub word : env (Trigger unit) ≡ t.word
  pub operand : (if t.does.arity == 2 then env (Operand unit) else 0) ≡ operand_word t

-- The circuit starts what the cycle starts in a unit.
abbrev pub Starting : Machine → (Named → ℕ) → (unit : ℕ) → Option Start → Type 0
Starting m env unit None = (k : ℕ) (o : UnitOp) → op_at m unit k ≡ Some o → is_set (env (Starts unit k)) ≡ false
Starting m env unit (Some t) = StartsOne m env unit t
