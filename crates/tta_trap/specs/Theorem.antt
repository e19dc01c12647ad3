-- Runs of a circuit that tells the first fault are runs of its machine up to there.
use Rattle.std.specs.Prelude.{◌≡◌, ℕ, ◌+◌, ◌<◌, true, false, not, ◌&&◌, ◌||◌, List, [], length}
use Rattle.tta_trap.specs.Cited.{Units, Machine, IsMachine, IsLegalCode, State, Fault, Waiting, next, Circuit, is_set, Store, Data, Frame, IsOffered, IsReady, Asks, Gives, Goes, FaultNow, Watches, is_halted, is_fault, Hardware, held_at, signals_after, cycles_after, HasRunFrom, AreClocksFrom, HoldsWords, cyc_over}
use Rattle.tta_code.specs.declared.code.Code.{Code as Program}
use Rattle.tta_hardware.specs.Signals.{Signal as Named}
use Rattle.tta_trap.specs.Trap.{trap_circuit}

-- The circuit has run from what it held to this state of its machine, after so many cycles, none of which met a fault. What it tells is
-- the number of the fault that the next cycle meets, if any.
pub record HasTrapped (u : Units) (m : Machine) (code : Program) (c : Circuit Named Store) (h : Hardware) (input : List ℕ)
    (inputs : ℕ → Named → ℕ) (t : ℕ) (s : State) : Type 0 where
  pub runs : HasRunFrom u m code c h input inputs t s
  pub sound : is_fault s.outcome ≡ false
  pub count : s.cycle ≡ cycles_after u c h inputs t
  pub fault : is_set (signals_after u c h inputs t (Watches FaultNow)) ≡ true
      → (next u m code s).outcome ≡ Fault (signals_after u c h inputs t (Watches FaultNow)) (cycles_after u c h inputs t)
  pub fine : is_set (signals_after u c h inputs t (Watches FaultNow)) ≡ false → is_fault (next u m code s).outcome ≡ false

module _ (u : Units) (m : Machine) (code : Program) (first memory frame input : List ℕ) (h : Hardware) (inputs : ℕ → Named → ℕ) where
  -- a machine with its code as such a circuit
  abbrev pub trap : Circuit Named Store
  trap = trap_circuit m code first

  -- the state of the machine after the cycles that the circuit made at so many clocks
  abbrev pub state_after : ℕ → State
  state_after t = cyc_over u m code memory frame input (cycles_after u trap h inputs t)

  -- What is asked: a machine by the rules and legal code; and clocks that begin anew up to one, over a memory of the words of this code
  -- and these words of data space and frame, whatever the registers hold. A word that is offered at a later clock is the next of the input.
  pub record IsClocked (last : ℕ) : Type 0 where
    pub rules : IsMachine m
    pub legal : IsLegalCode m code
    pub holds : HoldsWords m code memory frame h
    pub clocks : AreClocksFrom u trap h input inputs last

-- After clocks that begin anew and any number of further ones the circuit stands for the state of its machine after those of them that
-- carried an instruction out, and has put out exactly its output. It tells the fault that the next cycle meets. Nothing is asked of the
-- code: it may meet any fault.
abbrev pub TrapRuns : Type 0
TrapRuns =
    (u : Units) (m : Machine) (code : Program) (first memory frame input : List ℕ) (h : Hardware) (inputs : ℕ → Named → ℕ) (last : ℕ)
    → IsClocked u m code first memory frame input h inputs last → (t : ℕ) → last < t
    → HasTrapped u m code (trap_circuit m code first) h input inputs t (state_after u m code first memory frame input h inputs t)

-- A fault that it tells is there at every later clock, and no further cycle is made.
abbrev pub TrapStays : Type 0
TrapStays =
    (u : Units) (m : Machine) (code : Program) (first memory frame input : List ℕ) (h : Hardware) (inputs : ℕ → Named → ℕ) (last : ℕ)
    → IsClocked u m code first memory frame input h inputs last → (t : ℕ) → last < t
    → is_set (signals_after u (trap_circuit m code first) h inputs t (Watches FaultNow)) ≡ true → (more : ℕ)
    → (signals_after u (trap_circuit m code first) h inputs (t + more) (Watches FaultNow)
    ≡ signals_after u (trap_circuit m code first) h inputs t (Watches FaultNow))
    × (cycles_after u (trap_circuit m code first) h inputs (t + more) ≡ cycles_after u (trap_circuit m code first) h inputs t)

-- Why a clock carries nothing out: the machine has halted, the next cycle meets a fault, or the circuit asks for a word and none is
-- offered, or it has one to put out that nobody takes. Where it runs, tells no fault, and asks for a word and none is left, the machine
-- waits in its next cycle.
pub record IsHeld (u : Units) (m : Machine) (code : Program) (env : Named → ℕ) (s : State) : Type 0 where
  pub why : (is_halted s.outcome || (is_set (env (Watches FaultNow))
      || (is_set (env Asks) && not (is_set (env IsOffered)) || is_set (env Gives) && not (is_set (env IsReady))))) ≡ true
  pub waits : is_halted s.outcome ≡ false → is_set (env (Watches FaultNow)) ≡ false → is_set (env Asks) ≡ true → s.rest ≡ []
      → next u m code s ≡ record s { outcome = Waiting }

-- The circuit stands still only so, once it does not begin anew.
abbrev pub TrapStandsStill : Type 0
TrapStandsStill =
    (u : Units) (m : Machine) (code : Program) (first memory frame input : List ℕ) (h : Hardware) (inputs : ℕ → Named → ℕ) (last : ℕ)
    → IsClocked u m code first memory frame input h inputs last → (t : ℕ) → last < t
    → is_set (signals_after u (trap_circuit m code first) h inputs t Goes) ≡ false
    → IsHeld u m code (signals_after u (trap_circuit m code first) h inputs t) (state_after u m code first memory frame input h inputs t)

-- After any clocks from the power on, whatever they bring, the circuit holds the words of the code, and as many words of the data space
-- and of the frame as these have. So clocks that begin anew can come at any time.
abbrev pub TrapHoldsCode : Type 0
TrapHoldsCode =
    (u : Units) (m : Machine) (code : Program) (memory : List ℕ) (powers : Named → ℕ) (inputs : ℕ → Named → ℕ)
    → length memory ≡ m.data_words → (t : ℕ)
    → HoldsWords m code ((held_at u (trap_circuit m code memory) powers inputs t).memories Data)
    ((held_at u (trap_circuit m code memory) powers inputs t).memories Frame) (held_at u (trap_circuit m code memory) powers inputs t)
