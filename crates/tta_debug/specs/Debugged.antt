-- A machine under the debugger, and what each command makes of it.
use Rattle.std.specs.Prelude.{ℕ, zero, suc, ◌+◌, ◌==◌, Bool, true, false, not, nat_lt, nat_le, if◌then◌else◌, List, [], ◌∷◌, ◌++◌, length, map, drop, filter, Option, Some, None, is_some, option_and_then, slice_get, slice_index, Result, Ok, Err}
use Rattle.std.specs.Option.{option_map_or}
use Rattle.std.specs.List.{flat_map, list_any, position}
use Rattle.std.specs.Str.{bytes_eq}
use Rattle.tta_debug.specs.Cited.{Reply, reply_text, due_text, Units, File, Machine, KeptReg, kept, Code, State, Outcome, Running, Halted, Waiting, Fault, next, due_at}
use Rattle.tta_report.specs.declared.reply.Reply.TheVariants as reply
use Rattle.tta_arch.specs.declared.parts.Unit.{Unit as OpUnit}
use Rattle.tta_code.specs.Cycle.{port as port_of}
use Rattle.tta_debug.specs.Words.{words_of}
use Rattle.tta_debug.specs.Commands.{Query, Reg, Port, Mem, Where, Command, Nothing, Break, Delete, Step, Go, Flight, Ask, Quit, asked_by}

-- ---- what is said

-- a machine under the debugger, and the addresses of its breakpoints
pub record Debugged : Type 0 where
  pub state : State
  pub stops : List ℕ

-- a line of a reply, and what is under the debugger when this line is put
pub record Said : Type 0 where
  pub text : List ℕ
  pub at : Debugged

-- what a command does: the lines that it replies, what it leaves under the debugger, and whether the session ends
pub record Done : Type 0 where
  pub says : List Said
  pub after : Debugged
  pub bye : Bool

-- the bytes of some lines
abbrev pub texts : List Said → List ℕ
texts says = flat_map (λ l. l.text) says

-- a reply of one line
abbrev pub say : Reply → Debugged → List Said
say r d = record { text = reply_text r; at = d } ∷ []

-- a command that replies one line
abbrev pub replies : Reply → Debugged → Done
replies r d = record { says = say r d; after = d; bye = false }

-- ---- how a run stands

-- whether a run goes on
abbrev pub is_running : Outcome → Bool
is_running Running = true
is_running Halted = false
is_running Waiting = false
is_running (Fault number cycle) = false

-- whether a run waits for a word of the input
abbrev pub is_waiting : Outcome → Bool
is_waiting Running = false
is_waiting Halted = false
is_waiting Waiting = true
is_waiting (Fault number cycle) = false

-- the state line
abbrev pub standing : State → Reply
standing s = of s.outcome where
  of : Outcome → Reply
  of Running = reply.At s.pc s.cycle
  of Halted = reply.Halted s.cycle
  of Waiting = reply.At s.pc s.cycle
  of (Fault number at) = reply.Fault number s.cycle

-- ---- cycles

-- the machine has come to another state
abbrev pub moved : Debugged → State → Debugged
moved d t = record d { state = t }

-- the words that a cycle outputs: what the output gains
abbrev pub words_put : (s t : State) → List ℕ
words_put s t = drop (length s.output) t.output

-- the lines of the words that a cycle outputs
abbrev pub puts : Debugged → State → List Said
puts d t = map (λ w. record { text = reply_text (reply.Out w); at = moved d t }) (words_put d.state t)

-- what some cycles output, where they left the machine, and whether they stopped at a cycle that waits
pub record Went : Type 0 where
  pub says : List Said
  pub last : Debugged
  pub waits : Bool

-- no cycle is carried out
abbrev pub rests : Debugged → (waits : Bool) → Went
rests d waits = record { says = []; last = d; waits = waits }

-- lines before those of further cycles
abbrev pub saying : List Said → Went → Went
saying says w = record w { says = says ++ w.says }

-- At most n cycles, by what one does. They stop where the run is over, at a cycle that waits, which is not carried out, and
-- after a cycle where they are to stop.
abbrev pub cycles : (next : State → State) → (stops : Debugged → Bool) → ℕ → Debugged → Went
cycles next stops zero d = rests d false
cycles next stops (suc n) d =
    let e = moved d (next d.state) in
    if not (is_running d.state.outcome) then rests d false
    else if is_waiting e.state.outcome then rests d true
    else saying (puts d e.state) (if stops e then rests e false else cycles next stops n e)

-- what stands where cycles have stopped
abbrev pub stopped : (waits : Bool) → State → Reply
stopped waits s = if waits then reply.Waiting s.pc s.cycle else standing s

-- a command that carries out cycles: the words that they put, and then how the run stands
abbrev pub ran : Went → Done
ran w = record { says = w.says ++ say (stopped w.waits w.last.state) w.last; after = w.last; bye = false }

-- ---- refusals

-- the words are no command
abbrev pub no_command : ℕ
no_command = 70

-- a name, an index or an address is none that the command can take
abbrev pub not_there : ℕ
not_there = 71

-- there are as many breakpoints as a session can have
abbrev pub stops_full : ℕ
stops_full = 72

-- ---- breakpoints

-- whether an address is one of these
abbrev pub has : List ℕ → ℕ → Bool
has stops a = list_any (λ b. b == a) stops

-- whether the next instruction has a breakpoint
abbrev pub is_at_stop : Debugged → Bool
is_at_stop d = has d.stops d.state.pc

-- one more breakpoint, at one of so many instructions: at most 8 of them, and one that is set stays
abbrev pub with_stop : (count : ℕ) → List ℕ → ℕ → Result (List ℕ) ℕ
with_stop count stops a =
    if not (nat_lt a count) then Err not_there
    else if has stops a then Ok stops
    else if nat_le 8 (length stops) then Err stops_full
    else Ok (stops ++ a ∷ [])

-- a breakpoint that is set is taken away
abbrev pub without_stop : List ℕ → ℕ → Result (List ℕ) ℕ
without_stop stops a = if has stops a then Ok (filter (λ b. not (b == a)) stops) else Err not_there

-- the breakpoints are these now
abbrev pub stops_set : Debugged → Result (List ℕ) ℕ → Result Done ℕ
stops_set d (Ok stops) = Ok (replies reply.Done (record d { stops = stops }))
stops_set d (Err code) = Err code

-- ---- what is to see

-- the word of a place
abbrev pub value : Option ℕ → Reply
value None = reply.Unset
value (Some word) = reply.Value word

-- a register of the file at a place
abbrev pub register_at : State → (place index : ℕ) → Option File → Option Reply
register_at s place index None = None
register_at s place index (Some f) = if nat_lt index f.size then Some (value (kept s.written (KeptReg place index))) else None

-- a register of the file of a name
abbrev pub register : Machine → State → (file : List ℕ) → (index : ℕ) → Option Reply
register m s file index = option_and_then (λ k. register_at s k index (slice_get m.files k)) (position (λ f. bytes_eq f.name file) m.files)

-- what the result port of the unit at a place shows
abbrev pub shown_at : State → (place : ℕ) → Option OpUnit → Option Reply
shown_at s place None = None
shown_at s place (Some u) = if is_some u.result then Some (value (port_of s place)) else None

-- what the result port of the unit of a name shows
abbrev pub shown : Machine → State → (unit : List ℕ) → Option Reply
shown m s unit = option_and_then (λ k. shown_at s k (slice_get m.units k)) (position (λ u. bytes_eq u.name unit) m.units)

-- what is to see of a machine, where it is there
abbrev pub seen : Machine → State → Query → Option Reply
seen m s (Reg file index) = register m s file index
seen m s (Port unit) = shown m s unit
seen m s (Mem address) = if nat_lt address m.data_words then Some (reply.Value (slice_index s.memory address)) else None
seen m s Where = Some (standing s)

-- ---- results in flight

-- the line of a unit's result that is due so many cycles from now, if one is
abbrev pub due_line : Debugged → (name : List ℕ) → (unit delay : ℕ) → List Said
due_line d name unit delay =
    option_map_or (λ r. record { text = due_text name (d.state.cycle + delay) r.value; at = d } ∷ []) (due_at unit (d.state.cycle + delay) d.state.started) []

-- the lines of a unit's results that are due in so many cycles, from the first of them on
abbrev pub due_lines : Debugged → (name : List ℕ) → (unit first count : ℕ) → List Said
due_lines d name unit first zero = []
due_lines d name unit first (suc n) = due_line d name unit first ++ due_lines d name unit (first + 1) n

-- the lines of some units, the first of which has this number. No result is due later than 16 cycles from now.
abbrev pub unit_lines : Debugged → (unit : ℕ) → List OpUnit → List Said
unit_lines d k [] = []
unit_lines d k (u ∷ us) = due_lines d u.name k 1 16 ++ unit_lines d (k + 1) us

-- ---- commands

-- what comes of a question
abbrev pub told : Debugged → Option Reply → Result Done ℕ
told d None = Err not_there
told d (Some r) = Ok (replies r d)

-- all results in flight
abbrev pub in_flight : Machine → Debugged → Done
in_flight m d = record { says = unit_lines d 0 m.units ++ say reply.Done d; after = d; bye = false }

-- what comes of a command: what it does, or its refusal
abbrev pub answer : Units → Machine → Code → Debugged → Command → Result Done ℕ
answer u m code d Nothing = Ok (record { says = []; after = d; bye = false })
answer u m code d (Break a) = stops_set d (with_stop (length code.words) d.stops a)
answer u m code d (Delete a) = stops_set d (without_stop d.stops a)
answer u m code d (Step n) = Ok (ran (cycles (next u m code) (λ e. false) n d))
answer u m code d (Go n) = Ok (ran (cycles (next u m code) is_at_stop n d))
answer u m code d Flight = Ok (in_flight m d)
answer u m code d (Ask q) = told d (seen m d.state q)
answer u m code d Quit = Ok (record { says = say reply.Bye d; after = d; bye = true })

-- what comes of words
abbrev pub answer_asked : Units → Machine → Code → Debugged → Option Command → Result Done ℕ
answer_asked u m code d None = Err no_command
answer_asked u m code d (Some c) = answer u m code d c

-- what comes of a line
abbrev pub command : Units → Machine → Code → (line : List ℕ) → Debugged → Result Done ℕ
command u m code line d = answer_asked u m code d (asked_by (words_of line))

-- ---- a session

-- a text before what a session replies
abbrev pub saying_first : List ℕ → List ℕ × Debugged → List ℕ × Debugged
saying_first text rest = (text ++ rest.0, rest.1)

-- what a session replies to a line and to those after it, by what comes of the line
abbrev pub goes_on : Debugged → (rest : Debugged → List ℕ × Debugged) → Result Done ℕ → List ℕ × Debugged
goes_on d rest (Err code) = saying_first (reply_text (reply.Refused code)) (rest d)
goes_on d rest (Ok done) = if done.bye then (texts done.says, done.after) else saying_first (texts done.says) (rest done.after)

-- all that a session replies to the lines of a script, and what it leaves under the debugger
abbrev pub session : Units → Machine → Code → List (List ℕ) → Debugged → List ℕ × Debugged
session u m code [] d = ([], d)
session u m code (line ∷ lines) d = goes_on d (session u m code lines) (command u m code line d)
