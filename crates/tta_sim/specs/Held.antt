-- What a simulator holds, and which state it stands for.
use Rattle.std.specs.Prelude.{◌≡◌, ℕ, ◌+◌, ◌≤◌, Bool, true, false, List, ◌++◌, length, Option, None, Some, option_to_list, slice_get}
use Rattle.std.specs.Option.{option_map_or}
use Rattle.tta_sim.specs.Cited.{left, Units, Machine, Code, IsLegalCode, Outcome, Halted, Waiting, Fault, State, next, Ring, Marked, Rings, rings_of}
use Rattle.tta_code.specs.Cycle.{Pending, Running}
use Rattle.tta_sim.specs.declared.cycle_step.CycleStep.{CycleStep}
use Rattle.tta_sim.specs.declared.cycle_step.CycleStep.TheVariants.{Ran, Halted as HadHalted, Waiting as Waits, Fault as Faults}
use Rattle.tta_sim.specs.declared.decoded.Line.{Line}
use Rattle.tta_sim.specs.declared.ending.Ending.{Ending}
use Rattle.tta_sim.specs.declared.ending.Ending.TheVariants as ending
use Rattle.tta_sim.specs.Decoded.{lines_from}
use Rattle.tta_sim.specs.Places.{HasWritten}
use Rattle.tta_sim.specs.Results.{Results, AreResultsOf, HasUnits}

-- What a run holds but for its results: the code, decoded; the words of registers and operand ports in a row; the spaces; the
-- address of the next instruction, how many cycles were made, the control move under way, and how the run stands. The
-- input and the output are not held.
pub record HeldState : Type 0 where
  pub lines : List Line
  pub places : List (Option ℕ)
  pub memory : List ℕ
  pub frame : List ℕ
  pub pc : ℕ
  pub cycle : ℕ
  pub pending : Option Pending
  pub outcome : Outcome

-- The same with the results: a ring for each unit, which has what the unit's result port shows, the cells of all rings with the
-- results that are due later, the units whose rings have one, and those of which one is due at this very moment. Every result that no
-- port can show any more is not held.
pub record Held : Type 0 where
  pub lines : List Line
  pub places : List (Option ℕ)
  pub shown : List Ring
  pub cells : List (Option ℕ)
  pub moving : Marked
  pub fresh : Marked
  pub memory : List ℕ
  pub frame : List ℕ
  pub pc : ℕ
  pub cycle : ℕ
  pub pending : Option Pending
  pub outcome : Outcome

-- the rings of a run
abbrev pub rings_held : Held → Rings
rings_held h = rings_of h.shown h.cells h.moving h.fresh

-- a run with these rings
abbrev pub held_with : HeldState → Rings → Held
held_with h r = record {
  lines = h.lines;
  places = h.places;
  shown = r.rings;
  cells = r.cells;
  moving = r.moving;
  fresh = r.fresh;
  memory = h.memory;
  frame = h.frame;
  pc = h.pc;
  cycle = h.cycle;
  pending = h.pending;
  outcome = h.outcome;
}

-- the results that a run holds: those of all units of its region
abbrev pub results_held : Held → Results
results_held h = record { base = 0; units = length h.shown; rings = rings_held h }

-- A run and some units of a region stand for each state that agrees with all that they hold. So they stand for none that waits,
-- since the run holds no input: one that waits goes on where there is a word.
pub record StandsWith (r : Results) (h : HeldState) (s : State) : Type 0 where
  pub places : HasWritten h.places s.written
  pub results : AreResultsOf s.started s.cycle r
  pub memory : h.memory ≡ s.memory
  pub frame : h.frame ≡ s.frame
  pub pc : h.pc ≡ s.pc
  pub cycle : h.cycle ≡ s.cycle
  pub pending : h.pending ≡ s.pending
  pub outcome : h.outcome ≡ s.outcome

-- A run with a region of its own, and so with its results, stands for each state that agrees with all that it holds.
pub record Stands (h : Held) (s : State) : Type 0 where
  pub places : HasWritten h.places s.written
  pub results : AreResultsOf s.started s.cycle (results_held h)
  pub memory : h.memory ≡ s.memory
  pub frame : h.frame ≡ s.frame
  pub pc : h.pc ≡ s.pc
  pub cycle : h.cycle ≡ s.cycle
  pub pending : h.pending ≡ s.pending
  pub outcome : h.outcome ≡ s.outcome

-- whether a run is at a fault
abbrev pub is_fault : Outcome → Bool
is_fault Running = false
is_fault Halted = false
is_fault Waiting = false
is_fault (Fault number at) = true

-- What a simulator stands for after a cycle that took a state to the next: the next, and where the cycle waits the same.
abbrev pub GoesWith : Results → HeldState → (s next : State) → CycleStep → Type 0
GoesWith r h s next Waits = StandsWith r h s
GoesWith r h s next answer = StandsWith r h next

-- the same of a run with a region of its own
abbrev pub GoesTo : Held → (s next : State) → CycleStep → Type 0
GoesTo h s next Waits = Stands h s
GoesTo h s next answer = Stands h next

-- A run went from a state to another and was pure: it stands for that one, output nothing, and took no word.
pub record IsSilentRun (Stands : State → Type 0) (s t : State) : Type 0 where
  pub stands : Stands t
  pub output : t.output ≡ s.output
  pub rest : t.rest ≡ s.rest

-- whether a run goes on with an instruction whose line is pure
abbrev pub goes_pure : List Line → (pc : ℕ) → Outcome → Bool
goes_pure lines pc Running = option_map_or (λ l. l.pure) (slice_get lines pc) false
goes_pure lines pc o = false

-- The answer of a cycle from a state: Halted where the state has halted; the fault that the next state is at, now or since
-- earlier; Waiting where the cycle makes it wait; and else the word that the cycle outputs, if any, and whether it takes a
-- word of the input.
abbrev pub IsAnswer : Units → Machine → Code → State → CycleStep → Type 0
IsAnswer u m code s (Ran word took) =
    (s.outcome ≡ Running) × ((is_fault (next u m code s).outcome ≡ false)
    × ((next u m code s).output ≡ s.output ++ option_to_list word)
    × ((next u m code s).rest ≡ left took s.rest))
IsAnswer u m code s HadHalted = s.outcome ≡ Halted
IsAnswer u m code s Waits = (s.outcome ≡ Running) × (next u m code s ≡ record s { outcome = Waiting })
IsAnswer u m code s (Faults number) = (next u m code s).outcome ≡ Fault number s.cycle

-- whether a cycle with this answer took a word of the input
abbrev pub has_taken : CycleStep → Bool
has_taken (Ran word took) = took
has_taken HadHalted = false
has_taken Waits = false
has_taken (Faults number) = false

-- the cycles that an answer stands for: one where it was carried out
abbrev pub cycles_of : CycleStep → ℕ
cycles_of (Ran word took) = 1
cycles_of HadHalted = 0
cycles_of Waits = 0
cycles_of (Faults number) = 0

-- whether a run has halted
abbrev pub is_halted : Outcome → Bool
is_halted Running = false
is_halted Halted = true
is_halted Waiting = false
is_halted (Fault number at) = false

-- the number of the fault that a run is at, if it is
abbrev pub fault_number : Outcome → Option ℕ
fault_number Running = None
fault_number Halted = None
fault_number Waiting = None
fault_number (Fault number at) = Some number

-- the outcome that is reported
abbrev pub as_outcome : Ending → Outcome
as_outcome ending.Running = Running
as_outcome ending.Halted = Halted
as_outcome (ending.Fault number cycle) = Fault number cycle

-- The run of a machine on code that it can carry out, which addresses of 16 bits reach: it has the code decoded, and each
-- word of the spaces.
pub record IsStateOf (m : Machine) (code : Code) (h : HeldState) : Type 0 where
  pub legal : IsLegalCode m code
  pub reached : length code.words ≤ 65536
  pub decoded : h.lines ≡ lines_from m (1 + m.control.delay) code.words
  pub memory : length h.memory ≡ m.data_words
  pub frame : length h.frame ≡ m.frame_words

-- The same of a run with a region of its own: it also has each unit, with room for the unit's longest latency.
pub record IsRunOf (m : Machine) (code : Code) (h : Held) : Type 0 where
  pub legal : IsLegalCode m code
  pub reached : length code.words ≤ 65536
  pub decoded : h.lines ≡ lines_from m (1 + m.control.delay) code.words
  pub units : length h.shown ≡ length m.units
  pub has_units : HasUnits 0 m (rings_held h)
  pub memory : length h.memory ≡ m.data_words
  pub frame : length h.frame ≡ m.frame_words
