-- Walks: runs in which words are forgotten. Before each cycle the registers of width 1 that are true are chosen anew, which decides
-- all guards; of every other place a walk keeps whether it was written, and its word where the code itself gives it.
use Rattle.std.specs.Prelude.{ℕ, ◌+◌, ◌==◌, Bool, true, false, ◌&&◌, if◌then◌else◌, List, [], ◌∷◌, ◌++◌, map, slice_get}
use Rattle.std.specs.Prelude.{Option, Some, None, is_none, option_and_then}
use Rattle.std.specs.Option.{option_map_or}
use Rattle.std.specs.List.{list_any, filter_map}
use Rattle.tta_check.specs.Cited.{Source, Machine, Kind, Jumps, Calls, Halts, Target, Trigger, Control, Effect, Place, KeptReg, KeptImm, KeptOperand, KeptRa, KeptPort, Brought, is_active, width_of, write_of, has_result, start_of, lacks_operand, first_some, Instruction, Code, State, Pending, Running, Halted, Waiting, Fault, Result', read_source, effects_of, reads_unset_register, reads_unset_port, clashes, jumps_in_delay, pending_after, lands}
use Rattle.tta_arch.specs.declared.ends.Source.TheVariants as source
use Rattle.tta_arch.specs.Effects.{Reg, Imm, Operand}
use Rattle.tta_arch.specs.Effects.{same_place, Start}
use Rattle.tta_code.specs.Cycle.{Outcome}

-- ---- what a walk keeps

-- what a written place keeps: a known word, or some word that is not known
abbrev pub Word : Type 0
Word = Option ℕ

-- when a result of a unit is due
pub record Due : Type 0 where
  pub unit : ℕ
  pub time : ℕ

-- what was written into each place, the newest first; the dues of all results, past and to come; the address of the next
-- instruction, how many cycles were made, and the control move under way
pub record Walk : Type 0 where
  pub values : List (Place × Word)
  pub dues : List Due
  pub address : ℕ
  pub cycle : ℕ
  pub pending : Option Pending

-- what a place keeps, if it was ever written
abbrev pub held_at : List (Place × Word) → Place → Option Word
held_at [] p = None
held_at (h ∷ hs) p = if same_place h.0 p then Some h.1 else held_at hs p

-- the word of a source that is known: an immediate, or what a place keeps
abbrev pub known : Walk → Source → Word
known w (source.Reg file index) = option_and_then (λ word. word) (held_at w.values (KeptReg file index))
known w (source.Imm unit index) = option_and_then (λ word. word) (held_at w.values (KeptImm unit index))
known w (source.Shown unit) = None
known w source.Ra = option_and_then (λ word. word) (held_at w.values KeptRa)
known w (source.Value word) = Some word

-- ---- choices

-- the registers of width 1 that are true in a cycle, each by its file and its index
abbrev pub Choice : Type 0
Choice = List (ℕ × ℕ)

-- whether a register is one of them
abbrev pub is_chosen : Choice → (file index : ℕ) → Bool
is_chosen choice file index = list_any (λ r. r.0 == file && r.1 == index) choice

-- the word that a cycle finds in a place: a register is as the choice has it, and 0 stands for the word of any other place
abbrev pub found_word : Choice → Place → ℕ
found_word choice (KeptReg file index) = if is_chosen choice file index then 1 else 0
found_word choice (KeptImm unit index) = 0
found_word choice (KeptOperand unit) = 0
found_word choice KeptRa = 0
found_word choice (KeptPort unit) = 0

-- a written place with that word
abbrev pub found : Choice → Place × Word → Place × ℕ
found choice h = (h.0, found_word choice h.0)

-- a due as a result, whose word is forgotten
abbrev pub result_at : Due → Result'
result_at d = record { unit = d.unit; due = d.time; value = 0 }

-- A walk as a state of the machine, under a choice. No words count in it but those that decide guards: what is written, due and
-- under way does
abbrev pub as_state : Choice → Walk → State
as_state choice w = record {
  written = map (found choice) w.values;
  started = map result_at w.dues;
  memory = [];
  frame = [];
  rest = [];
  output = [];
  pc = w.address;
  cycle = w.cycle;
  pending = w.pending;
  outcome = Running;
}

-- ---- a cycle of a walk

-- whether an effect acts, under the choice
abbrev pub acts : Choice → Walk → Effect → Bool
acts choice w e = is_active (read_source (as_state choice w)) e

-- what an effect that acts brings. The word is forgotten, so an unset source is not asked for
abbrev pub bring_some : Choice → Walk → Effect → Option Brought
bring_some choice w e = if acts choice w e then Some (e.target, 0) else None

-- what an instruction brings
abbrev pub brought : Machine → Choice → Walk → Instruction → List Brought
brought m choice w i = filter_map (bring_some choice w) (effects_of m i)

-- the address that a call in this instruction comes back to
abbrev pub back : Machine → Walk → ℕ
back m w = w.address + 1 + m.control.delay

-- the operations that start
abbrev pub starts : Machine → Choice → Walk → Instruction → List Start
starts m choice w i =
    let bs = brought m choice w i in
    filter_map (start_of m (filter_map (write_of m (back m w)) bs ++ (as_state choice w).written)) bs

-- whether a target is the control's, and what is moved there is an address
abbrev pub takes_address : Target → Bool
takes_address (Control Jumps) = true
takes_address (Control Calls) = true
takes_address (Control Halts) = false
takes_address (Reg file index) = false
takes_address (Imm unit index) = false
takes_address (Operand unit) = false
takes_address (Trigger unit op) = false

-- whether a jump or call acts
abbrev pub is_going : Choice → Walk → Effect → Bool
is_going choice w e = takes_address e.target && acts choice w e

-- whether a jump or call acts whose word is not known
abbrev pub goes_unknown : Choice → Walk → Effect → Bool
goes_unknown choice w e = is_going choice w e && is_none (known w e.src)

-- the known word of a jump or call that acts
abbrev pub goes_to : Choice → Walk → Effect → Option ℕ
goes_to choice w e = if is_going choice w e then known w e.src else None

-- the codes of an instruction, each with whether the walk has it: those of the faults, and 80 for a jump or call to a word that is
-- not known
abbrev pub codes_in : Machine → Choice → Walk → Instruction → List (Bool × ℕ)
codes_in m choice w i =
    let s = as_state choice w in
    (list_any (reads_unset_register s) (effects_of m i), 60)
    ∷ (list_any (reads_unset_port s) (effects_of m i), 61)
    ∷ (list_any lacks_operand (starts m choice w i), 62)
    ∷ (list_any (clashes s) (starts m choice w i), 63)
    ∷ (jumps_in_delay s (brought m choice w i), 64)
    ∷ (list_any (goes_unknown choice w) (effects_of m i), 80)
    ∷ []

-- the codes at a walk's address: outside the code there is 65 alone
abbrev pub codes_at : Machine → Choice → Walk → Option Instruction → List (Bool × ℕ)
codes_at m choice w None = (true, 65) ∷ []
codes_at m choice w (Some i) = codes_in m choice w i

-- whether a walk has this code at its last address
abbrev pub has_code : Machine → Code → Choice → Walk → ℕ → Bool
has_code m code choice w number = list_any (λ c. c.0 && c.1 == number) (codes_at m choice w (slice_get code.words w.address))

-- what is written into a target from a source. A register of width 1 keeps no known word, nor does an operand port
abbrev pub holds_at : Machine → Walk → Source → Target → Option (Place × Word)
holds_at m w src (Reg file index) = Some (KeptReg file index, if width_of m file == 1 then None else known w src)
holds_at m w src (Imm unit index) = Some (KeptImm unit index, known w src)
holds_at m w src (Operand unit) = Some (KeptOperand unit, None)
holds_at m w src (Trigger unit op) = None
holds_at m w src (Control Calls) = Some (KeptRa, Some (back m w))
holds_at m w src (Control Jumps) = None
holds_at m w src (Control Halts) = None

-- what an effect that acts writes
abbrev pub holds : Machine → Choice → Walk → Effect → Option (Place × Word)
holds m choice w e = if acts choice w e then holds_at m w e.src e.target else None

-- when the result of an operation that starts is due, if it has one
abbrev pub due_of : Walk → Start → Option Due
due_of w t = if has_result t.does.op then Some (record { unit = t.unit; time = w.cycle + t.does.latency }) else None

-- what a target makes control do with a word, 0 standing for one that is not known. A halt goes nowhere
abbrev pub control_to : Word → Target → Option (Kind × ℕ)
control_to word (Control Jumps) = Some (Jumps, option_map_or (λ x. x) word 0)
control_to word (Control Calls) = Some (Calls, option_map_or (λ x. x) word 0)
control_to word (Control Halts) = Some (Halts, 0)
control_to word (Reg file index) = None
control_to word (Imm unit index) = None
control_to word (Operand unit) = None
control_to word (Trigger unit op) = None

-- what control is made to do by an effect that acts
abbrev pub controls : Choice → Walk → Effect → Option (Kind × ℕ)
controls choice w e = if acts choice w e then control_to (known w e.src) e.target else None

-- where control stands after a cycle: the address, the cycle and what is under way, and whether the run goes on
abbrev pub goes_on : Machine → Choice → Walk → Instruction → State
goes_on m choice w i =
    let s = as_state choice w in
    let pending = pending_after m s (first_some (controls choice w) (effects_of m i)) in
    lands (record s { pc = w.address + 1; cycle = w.cycle + 1; pending = pending }) pending

-- a walk goes on where the run does
abbrev pub unless_over : Walk → Outcome → Option Walk
unless_over w Running = Some w
unless_over w Halted = None
unless_over w Waiting = None
unless_over w (Fault number cycle) = None

-- the walk after a cycle without a code, if it does not halt. It never waits
abbrev pub walks_on : Machine → Choice → Walk → Instruction → Option Walk
walks_on m choice w i =
    let s = goes_on m choice w i in
    unless_over (record {
      values = filter_map (holds m choice w) (effects_of m i) ++ w.values;
      dues = filter_map (due_of w) (starts m choice w i) ++ w.dues;
      address = s.pc;
      cycle = s.cycle;
      pending = s.pending;
    }) s.outcome

-- the walk after one more cycle, if it has no code here and does not halt
unfoldable pub after : Machine → Code → Choice → Walk → Option Walk
after m code choice w =
    if list_any (λ c. c.0) (codes_at m choice w (slice_get code.words w.address)) then None
    else option_and_then (walks_on m choice w) (slice_get code.words w.address)

-- ---- walks

-- at first nothing is written, due or under way
abbrev pub first : Walk
first = record { values = []; dues = []; address = 0; cycle = 0; pending = None }

-- the walk after these choices, the last one first; none where a walk with them ended before
abbrev pub walk : Machine → Code → List Choice → Option Walk
walk m code [] = Some first
walk m code (choice ∷ before) = option_and_then (after m code choice) (walk m code before)
