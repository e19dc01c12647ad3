-- What a machine does in one cycle, and in a run.
use Rattle.std.specs.Prelude.{ℕ, ◌+◌, ◌==◌, Bool, true, ◌&&◌, ◌||◌, nat_lt, nat_le, if◌then◌else◌, List, [], ◌∷◌, ◌++◌, map, replicate, fold, Option, Some, None, is_some, is_none, slice_get, slice_index}
use Rattle.std.specs.Option.{option_map_or}
use Rattle.std.specs.List.{list_any, filter_map}
use Rattle.tta_code.specs.Cited.{iterate, Units, Source, Machine, Kind, Jumps, Calls, Halts, Effect, target_of, long_effect, KeptReg, KeptImm, KeptRa, Written, kept, Brought, bring, write_of, has_result, Start, start_of, result_word, store_data, store_frame, put_out, takes, take_in, control_of, is_register, is_port, has_unset_guard, has_unset, lacks_operand, first_some}
use Rattle.tta_arch.specs.declared.ends.Source.TheVariants as source
use Rattle.tta_code.specs.declared.code.Move.{Move}
use Rattle.tta_code.specs.declared.code.Long.{Long}
use Rattle.tta_code.specs.declared.code.Instruction.{Instruction}
use Rattle.tta_code.specs.declared.code.Code.{Code}

-- ---- states

-- a result of an operation: the unit that shows it, the cycle from which on it shows, and its word
pub record Result' : Type 0 where
  pub unit : ℕ
  pub due : ℕ
  pub value : ℕ

-- a control move that has not taken effect: the cycle in which it does, what it is, and its word
pub record Pending : Type 0 where
  pub time : ℕ
  pub kind : Kind
  pub word : ℕ

-- a run goes on, has halted, waits for a word of the input, or has met a fault of this number in this cycle
pub data Outcome : Type 0 where
  Running : Outcome
  Halted : Outcome
  Waiting : Outcome
  Fault : (number cycle : ℕ) → Outcome

-- what was written into registers and operand ports, every result that was started, the spaces, the rest of the input,
-- what was output, the address of the next instruction, how many cycles were made, and the control move under way
pub record State : Type 0 where
  pub written : Written
  pub started : List Result'
  pub memory : List ℕ
  pub frame : List ℕ
  pub rest : List ℕ
  pub output : List ℕ
  pub pc : ℕ
  pub cycle : ℕ
  pub pending : Option Pending
  pub outcome : Outcome

-- ---- reading

-- the later of two results of a unit that are due by now
abbrev pub later : (unit now : ℕ) → Option Result' → Result' → Option Result'
later unit now best r =
    if r.unit == unit && nat_le r.due now && option_map_or (λ b. nat_lt b.due r.due) best true then Some r else best

-- what a unit's result port shows: its latest result that is due
abbrev pub port : State → ℕ → Option ℕ
port s unit = option_map_or (λ r. Some r.value) (fold (later unit s.cycle) None s.started) None

-- the word of a source at the start of a cycle
abbrev pub read_source : State → Source → Option ℕ
read_source s (source.Reg file index) = kept s.written (KeptReg file index)
read_source s (source.Imm unit index) = kept s.written (KeptImm unit index)
read_source s (source.Shown unit) = port s unit
read_source s source.Ra = kept s.written KeptRa
read_source s (source.Value word) = Some word

-- ---- the effects of an instruction

-- a move as an effect
abbrev pub effect_of : Move → Effect
effect_of v = record { guard = v.guard; src = v.src; target = target_of v.dst }

-- the moves that there are
abbrev pub moves_of : Instruction → List Move
moves_of i = filter_map (λ o. o) i.moves

-- a long immediate as an effect on the register that its template writes
abbrev pub long_effects : Machine → Option Long → List Effect
long_effects m None = []
long_effects m (Some l) = option_map_or (λ t. long_effect t.imm t.reg l.value ∷ []) (slice_get m.templates l.template) []

-- what an instruction does: its moves, and its long immediate
abbrev pub effects_of : Machine → Instruction → List Effect
effects_of m i = map effect_of (moves_of i) ++ long_effects m i.long

-- ---- faults

-- whether a result of the unit is due already when this one would be
abbrev pub clashes : State → Start → Bool
clashes s t = has_result t.does.op && list_any (λ r. r.unit == t.unit && r.due == s.cycle + t.does.latency) s.started

-- whether a register, an immediate register or the return address is read that was never written, guards included
abbrev pub reads_unset_register : State → Effect → Bool
reads_unset_register s e = has_unset_guard (read_source s) e || has_unset (read_source s) is_register e

-- whether a result port is read on which no result was due yet
abbrev pub reads_unset_port : State → Effect → Bool
reads_unset_port s e = has_unset (read_source s) is_port e

-- whether a control move acts while an earlier one is under way
abbrev pub jumps_in_delay : State → List Brought → Bool
jumps_in_delay s bs = is_some (first_some control_of bs) && is_some s.pending

-- the number of the first fault that holds
abbrev pub first_fault : List (Bool × ℕ) → Option ℕ
first_fault [] = None
first_fault (f ∷ fs) = if f.0 then Some f.1 else first_fault fs

-- the fault of a cycle, if any: an unset register (60), an unset port (61), an unset operand (62), two results of a
-- unit at one time (63), or a control move in the delay of another (64)
abbrev pub fault_of : State → List Effect → List Brought → List Start → Option ℕ
fault_of s effects bs ts =
    first_fault (
    (list_any (reads_unset_register s) effects, 60)
    ∷ (list_any (reads_unset_port s) effects, 61)
    ∷ (list_any lacks_operand ts, 62)
    ∷ (list_any (clashes s) ts, 63)
    ∷ (jumps_in_delay s bs, 64)
    ∷ [])

-- ---- a cycle

-- the result that an operation starts, if it has one
abbrev pub result_of : Units → State → Start → Option Result'
result_of u s t =
    if has_result t.does.op
    then Some (record { unit = t.unit; due = s.cycle + t.does.latency; value = result_word u s.memory s.frame (slice_index s.rest 0) t t.does.op })
    else None

-- the control move that is under way after this cycle
abbrev pub pending_after : Machine → State → Option (Kind × ℕ) → Option Pending
pending_after m s (Some c) = Some (record { time = s.cycle + 1 + m.control.delay; kind = c.0; word = c.1 })
pending_after m s None = s.pending

-- a control move takes effect: the run goes on at its word, or halts
abbrev pub takes_effect : State → Pending → State
takes_effect s p = on p.kind where
  on : Kind → State
  on Jumps = record s { pending = None; pc = p.word }
  on Calls = record s { pending = None; pc = p.word }
  on Halts = record s { pending = None; outcome = Halted }

-- the control move under way takes effect where its time has come
abbrev pub lands : State → Option Pending → State
lands s None = s
lands s (Some p) = if p.time == s.cycle then takes_effect s p else s

-- a cycle without a fault
abbrev pub acts : Units → Machine → State → List Brought → List Start → Written → State
acts u m s bs ts written =
    let pending = pending_after m s (first_some control_of bs) in
    lands (record {
      written = written;
      started = filter_map (result_of u s) ts ++ s.started;
      memory = fold store_data s.memory ts;
      frame = fold store_frame s.frame ts;
      rest = fold take_in s.rest ts;
      output = fold put_out s.output ts;
      pc = s.pc + 1;
      cycle = s.cycle + 1;
      pending = pending;
      outcome = Running;
    }) pending

-- a cycle that faults changes nothing else
abbrev pub or_fault : State → Option ℕ → State → State
or_fault s (Some number) after = record s { outcome = Fault number s.cycle }
or_fault s None after = after

-- whether a cycle has to wait: an operation takes a word of the input, and none is left
abbrev pub waits : State → List Start → Bool
waits s ts = list_any takes ts && is_none (slice_get s.rest 0)

-- a cycle that has to wait changes nothing else, and is not counted
abbrev pub or_wait : State → Bool → State → State
or_wait s must after = if must then record s { outcome = Waiting } else after

-- All words are read before any is written: what is brought depends on the old state alone. An operation takes its
-- operand as the cycle's own moves leave it. A fault comes before a wait.
abbrev pub carry_out : Units → Machine → State → Option Instruction → State
carry_out u m s None = record s { outcome = Fault 65 s.cycle }
carry_out u m s (Some i) =
    let effects = effects_of m i in
    let bs = filter_map (bring (read_source s)) effects in
    let written = filter_map (write_of m (s.pc + 1 + m.control.delay)) bs ++ s.written in
    let ts = filter_map (start_of m written) bs in
    or_fault s (fault_of s effects bs ts) (or_wait s (waits s ts) (acts u m s bs ts written))

-- the state after one more cycle, by how the run stands
abbrev pub next_of : Units → Machine → Code → State → Outcome → State
next_of u m code s Running = carry_out u m s (slice_get code.words s.pc)
next_of u m code s Halted = s
next_of u m code s Waiting = s
next_of u m code s (Fault number cycle) = s

-- one cycle of a state that runs; a state that is over stays
unfoldable pub next : Units → Machine → Code → State → State
next u m code s = next_of u m code s s.outcome

-- ---- a run

-- the first instruction, nothing written, every frame word 0
abbrev pub start : Machine → (memory input : List ℕ) → State
start m memory input = record {
  written = [];
  started = [];
  memory = memory;
  frame = replicate m.frame_words 0;
  rest = input;
  output = [];
  pc = 0;
  cycle = 0;
  pending = None;
  outcome = Running;
}

-- the state after n cycles
abbrev pub cyc : Units → Machine → Code → (memory input : List ℕ) → ℕ → State
cyc u m code memory input n = iterate n (next u m code) (start m memory input)
