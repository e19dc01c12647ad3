-- What is proved of machines as circuits.
use Rattle.std.specs.Prelude.{◌≡◌, ℕ, ◌+◌, ◌%◌, ◌^◌, ◌<◌, ◌==◌, true, is_some, false, List, ◌++◌, length, map, Option, None, Some, slice_get, slice_index, slice_set, fold, [], ◌∷◌, option_and_then, if◌then◌else◌}
use Rattle.std.specs.Option.{option_map_or}
use Rattle.std.specs.List.{list_any, filter_map, AllByRecursion}
use Rattle.tta_hardware.specs.Cited.{Units, Machine, are_different, Start, op_at, has_result, takes, Ldw, Stw, Ldf, Stf, UnitOp, IsMachine, same_op, joins, Brought, Written, is_active, has_unset_guard, target_of, bring, write_of, start_of, lacks_operand, Kind, first_some, control_of, store_data, store_frame, put_out, take_in, numbers, guard_width, dest_width, template_width, guard_code, source_code, Long, Move, Instruction, State, read_source, effect_of, effects_of, moves_of, reads_unset_register, reads_unset_port, Running, jumps_in_delay, pending_after, lands, is_legal, IsLegalCode, left, WritePort, is_set, value}
use Rattle.tta_hardware.specs.Hardware.{store_port}
use Rattle.tta_arch.specs.declared.ends.Source.TheVariants as source
use Rattle.tta_code.specs.Cycle.{result_of}
use Rattle.tta_code.specs.declared.code.Code.{Code as Program}
use Rattle.tta_hardware.specs.Signals.{Field, GuardOf, IsShort, SourceOf, ShortOf, DestOf, TemplateOf, LongOf, Signal as Named, Store, Code, Data, Frame, Pc, Whole, HasHalted, Goal, Ends, Controls, GoalNow, EndsNow, Asks, Goes, Puts, PutWord, Offer, Fetched, Word, Acts, Starts}
use Rattle.tta_hardware.specs.Fields.{word_of, slot_at, field_of, short_mark}
use Rattle.tta_hardware.specs.Wires.{fetched}
use Rattle.tta_hardware.specs.Stands.{Hardware, has_field, IsSettled, HasClocked, HasWords, HasPorts, HasComing, HasPending, HasSpaces, Starting, start_in, halts, is_halted}

-- What is known of the operations that a cycle starts: no two are of one unit, each result shows in a later cycle, and the circuit
-- starts the same. Where one takes a word of the input, that word is offered.
pub record AreStarted (m : Machine) (env : Named → ℕ) (s : State) (ts : List Start) : Type 0 where
  pub apart : are_different (λ a b. a.unit == b.unit) ts ≡ true
  pub later : AllByRecursion (λ t. has_result t.does.op ≡ true → 0 < t.does.latency) ts
  pub alike : (unit : ℕ) → unit < length m.units → Starting m env unit (start_in unit ts)
  pub offered : list_any takes ts ≡ true → env Offer ≡ slice_index s.rest 0

-- Results on their way and result ports are kept by a clock as by a cycle that starts these operations.
abbrev pub ResultsKeep : Type 0
ResultsKeep =
    (u : Units) (m : Machine) (h : Hardware) (env after : Named → ℕ) (s t : State) (ts : List Start)
    → IsSettled u m h env → HasClocked u m h env after → HasSpaces m h s → AreStarted m env s ts
    → HasComing m h.words s → HasPorts m h.words s
    → t.started ≡ filter_map (result_of u s) ts ++ s.started → t.cycle ≡ s.cycle + 1
    → HasComing m after t × HasPorts m after t

-- ---- buses

-- The circuit has the fields of an instruction, as far as they have bits: the template's code and the long immediate, where each bus
-- leads, and of each move the codes of its guard and source, or its short word.
pub record HasFetched (m : Machine) (env : Named → ℕ) (i : Instruction) : Type 0 where
  pub template : 0 < template_width m → env (Fetched TemplateOf) ≡ field_of m i TemplateOf
  pub long : (l : Long) → i.long ≡ Some l → env (Fetched LongOf) ≡ l.value
  pub dest : (bus : ℕ) → bus < length m.buses → 0 < dest_width m bus → env (Fetched (DestOf bus)) ≡ field_of m i (DestOf bus)
  pub guard : (bus : ℕ) (v : Move) → bus < length m.buses → 0 < guard_width m bus → slot_at i bus ≡ Some v
      → env (Fetched (GuardOf bus)) ≡ guard_code m bus v.guard
  pub tag : (bus : ℕ) (v : Move) → bus < length m.buses → slot_at i bus ≡ Some v → env (Fetched (IsShort bus)) ≡ short_mark v.src
  pub code : (bus : ℕ) (v : Move) → bus < length m.buses → slot_at i bus ≡ Some v → short_mark v.src ≡ 0
      → env (Fetched (SourceOf bus)) ≡ source_code m bus v.src
  pub short : (bus : ℕ) (v : Move) (w : ℕ) → bus < length m.buses → slot_at i bus ≡ Some v → v.src ≡ source.Value w
      → env (Fetched (ShortOf bus)) ≡ w

-- A move that has its guard's word acts on the circuit's bus as in the machine; and the bus has the word that it moves.
pub record BringsAlike (env : Named → ℕ) (s : State) (bus : ℕ) (v : Move) : Type 0 where
  pub acts : has_unset_guard (read_source s) (effect_of v) ≡ false → is_set (env (Acts bus)) ≡ is_active (read_source s) (effect_of v)
  pub word : (w : ℕ) → read_source s v.src ≡ Some w → env (Word bus) ≡ w

-- Each bus of a circuit brings what its move brings.
abbrev pub BusesBring : Type 0
BusesBring =
    (u : Units) (m : Machine) (h : Hardware) (env : Named → ℕ) (s : State) (i : Instruction) (bus : ℕ) (v : Move)
    → IsMachine m → IsSettled u m h env → HasWords m h.words s → HasPorts m h.words s → HasFetched m env i → bus < length m.buses
    → slot_at i bus ≡ Some v → joins m bus v.src v.dst v.guard ≡ true → BringsAlike env s bus v

-- ---- words

-- what the circuit brings on a bus: its move's word, where the move acts
abbrev pub carried : (Named → ℕ) → Instruction → (bus : ℕ) → Option Brought
carried env i bus = option_and_then (λ v. if is_set (env (Acts bus)) then Some (target_of v.dst, env (Word bus)) else None) (slot_at i bus)

-- what the machine brings in a cycle: the words of its moves, and the long immediate
abbrev pub brought : Machine → State → Instruction → List Brought
brought m s i = filter_map (bring (read_source s)) (effects_of m i)

-- what is written into the places after a cycle
abbrev pub written_after : Machine → State → Instruction → Written
written_after m s i = filter_map (write_of m (s.pc + 1 + m.control.delay)) (brought m s i) ++ s.written

-- No move of an instruction lacks a word: neither a guard's nor its own.
abbrev pub LacksNothing : Machine → State → Instruction → Type 0
LacksNothing m s i =
    (list_any (reads_unset_register s) (effects_of m i) ≡ false) × (list_any (reads_unset_port s) (effects_of m i) ≡ false)

-- All that is known of a circuit and a state between two clocks.
pub record Meet (u : Units) (m : Machine) (h : Hardware) (env : Named → ℕ) (s : State) (i : Instruction) : Type 0 where
  pub rules : IsMachine m
  pub legal : is_legal m i ≡ true
  pub settled : IsSettled u m h env
  pub words : HasWords m h.words s
  pub ports : HasPorts m h.words s
  pub fetched : HasFetched m env i
  pub lacks : LacksNothing m s i

-- The circuit brings on its buses what the moves of the instruction bring.
abbrev pub BusesCarry : Type 0
BusesCarry =
    (u : Units) (m : Machine) (h : Hardware) (env : Named → ℕ) (s : State) (i : Instruction) → Meet u m h env s i
    → filter_map (bring (read_source s)) (map effect_of (moves_of i)) ≡ filter_map (carried env i) (numbers (length m.buses))

-- Registers, operand ports and the return address are kept by a clock as by a cycle.
abbrev pub WordsKeep : Type 0
WordsKeep =
    (u : Units) (m : Machine) (h : Hardware) (env after : Named → ℕ) (s t : State) (i : Instruction) → Meet u m h env s i
    → HasClocked u m h env after → h.words Pc ≡ s.pc → s.pc < 65536 → t.written ≡ written_after m s i → HasWords m after t

-- ---- operations

-- what a cycle starts
abbrev pub started_in : Machine → State → Instruction → List Start
started_in m s i = filter_map (start_of m (written_after m s i)) (brought m s i)

-- The circuit starts in each unit what the cycle starts there.
abbrev pub StartsAlike : Type 0
StartsAlike =
    (u : Units) (m : Machine) (h : Hardware) (env : Named → ℕ) (s : State) (i : Instruction) → Meet u m h env s i
    → list_any lacks_operand (started_in m s i) ≡ false → (unit : ℕ) → unit < length m.units
    → Starting m env unit (start_in unit (started_in m s i))

-- ---- control

-- What the circuit has of a control move that acts, or of none: whether it ends the run, and where it leads; where none acts, it
-- has what it kept of one under way.
pub record Steers (env words : Named → ℕ) (c : Option (Kind × ℕ)) : Type 0 where
  pub controls : is_set (env Controls) ≡ is_some c
  pub ends : is_set (env EndsNow) ≡ option_map_or (λ x. halts x.0) c (is_set (words Ends))
  pub goal : env GoalNow ≡ option_map_or (λ x. if halts x.0 then words Goal else x.1) c (words Goal)

-- The circuit has the control move that acts in the cycle.
abbrev pub SteersAlike : Type 0
SteersAlike =
    (u : Units) (m : Machine) (h : Hardware) (env : Named → ℕ) (s : State) (i : Instruction) → Meet u m h env s i
    → Steers env h.words (first_some control_of (brought m s i))

-- After a clock the circuit has the address, as far as its width goes, the control move under way, and whether the run has halted.
pub record HasSteered (m : Machine) (words : Named → ℕ) (t : State) : Type 0 where
  pub pending : HasPending m words t
  pub pc : words Pc ≡ t.pc % 2 ^ m.control.address
  pub halted : is_set (words HasHalted) ≡ is_halted t.outcome

-- The address, the control move under way and the end of the run are kept by a clock as by a cycle.
abbrev pub ControlKeeps : Type 0
ControlKeeps =
    (u : Units) (m : Machine) (h : Hardware) (env after : Named → ℕ) (s base : State) (i : Instruction) → Meet u m h env s i
    → HasClocked u m h env after → HasPending m h.words s → h.words Pc ≡ s.pc → jumps_in_delay s (brought m s i) ≡ false
    → base.cycle ≡ s.cycle + 1 → base.pc ≡ s.pc + 1 → base.outcome ≡ Running
    → base.pending ≡ pending_after m s (first_some control_of (brought m s i))
    → HasSteered m after (lands base base.pending)

-- ---- fetching

-- Parts of the word of a legal instruction serve the circuit as its fields.
abbrev pub FieldsServe : Type 0
FieldsServe =
    (u : Units) (ms : Store → List ℕ) (env : Named → ℕ) (m : Machine) (i : Instruction) → IsMachine m → is_legal m i ≡ true
    → env Whole ≡ word_of m i → ((f : Field) → has_field m f ≡ true → env (Fetched f) ≡ value u ms env (fetched m f)) → HasFetched m env i

-- The circuit has the fields of the instruction at the address, where it has its word.
abbrev pub FetchAlike : Type 0
FetchAlike =
    (u : Units) (m : Machine) (code : Program) (h : Hardware) (env : Named → ℕ) (s : State) (i : Instruction) → IsMachine m
    → IsSettled u m h env
    → h.words Pc ≡ s.pc % 2 ^ m.control.address → h.words Whole ≡ word_of m i
    → IsLegalCode m code → slice_get code.words s.pc ≡ Some i → HasFetched m env i × (h.words Pc ≡ s.pc)

-- ---- spaces, input and output

-- a space after a clock that its write port sees
abbrev pub through : Units → (Store → List ℕ) → (Named → ℕ) → WritePort Named Store → List ℕ → List ℕ
through u ms env p old = if is_set (value u ms env p.enable) then slice_set old (value u ms env p.address) (value u ms env p.word) else old

-- The memories after a clock: the spaces as their ports say, and the code as it was.
pub record HasStored (u : Units) (m : Machine) (h : Hardware) (env : Named → ℕ) (after : Store → List ℕ) : Type 0 where
  pub memory : after Data ≡ through u h.memories env (store_port m m.data_words (same_op Stw)) (h.memories Data)
  pub frame : after Frame ≡ through u h.memories env (store_port m m.frame_words (same_op Stf)) (h.memories Frame)
  pub rom : after Code ≡ h.memories Code

-- The spaces are kept by a clock that carries the instruction out as by a cycle.
abbrev pub SpacesKeep : Type 0
SpacesKeep =
    (u : Units) (m : Machine) (h g : Hardware) (env : Named → ℕ) (s t : State) (i : Instruction) → Meet u m h env s i
    → list_any lacks_operand (started_in m s i) ≡ false → is_set (env Goes) ≡ true → HasStored u m h env g.memories → HasSpaces m h s
    → t.memory ≡ fold store_data s.memory (started_in m s i) → t.frame ≡ fold store_frame s.frame (started_in m s i) → HasSpaces m g t

-- What the circuit says of input and output: it asks for a word where the cycle takes one, and where the clock carries the instruction
-- out, it outputs the word that the cycle outputs.
pub record Streams (env : Named → ℕ) (s : State) (ts : List Start) : Type 0 where
  pub asks : is_set (env Asks) ≡ list_any takes ts
  pub rest : fold take_in s.rest ts ≡ left (is_set (env Asks)) s.rest
  pub output : is_set (env Goes) ≡ true → fold put_out s.output ts ≡ s.output ++ (if is_set (env Puts) then env PutWord ∷ [] else [])

-- Input and output of the circuit are those of the cycle.
abbrev pub StreamsAlike : Type 0
StreamsAlike =
    (u : Units) (m : Machine) (h : Hardware) (env : Named → ℕ) (s : State) (i : Instruction) → Meet u m h env s i
    → list_any lacks_operand (started_in m s i) ≡ false → Streams env s (started_in m s i)

-- Where a load starts, no store writes its space at the same clock: a memory never has to say which of the two comes first.
abbrev pub ReadsApart : Type 0
ReadsApart =
    (u : Units) (m : Machine) (h : Hardware) (env : Named → ℕ) (s : State) (i : Instruction) → Meet u m h env s i
    → list_any lacks_operand (started_in m s i) ≡ false → (unit op : ℕ) (o : UnitOp) → op_at m unit op ≡ Some o
    → is_set (env (Starts unit op)) ≡ true
    → (o.op ≡ Ldw → is_set (value u h.memories env (store_port m m.data_words (same_op Stw)).enable) ≡ false)
    × (o.op ≡ Ldf → is_set (value u h.memories env (store_port m m.frame_words (same_op Stf)).enable) ≡ false)
