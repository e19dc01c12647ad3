-- Runs of a circuit that tells the first fault, and whose memory of code is filled up, or has the bits of an image.
use Rattle.std.specs.Prelude.{◌≡◌, ℕ, ◌<◌, true, false, List, length, drop}
use Rattle.tta_trap.specs.Cited.{Units, Machine, IsMachine, IsLegalCode, Image, State, Fault, next, cyc, Circuit, is_set, Store, same_signal, same_store, powered, Data, Frame, HasHalted, FaultNow, Watches, is_halted, is_fault, is_waiting, code_words, held_at, signals_at, cycles_at, taken_at, put_at, AreClocks, filled, image_words}
use Rattle.tta_code.specs.Whole.{Whole}
use Rattle.tta_code.specs.declared.code.Code.{Code as Program}
use Rattle.tta_hardware.specs.Signals.{Signal as Named}
use Rattle.tta_trap.specs.Trap.{trap_with}
use Rattle.tta_trap.specs.Theorem.{HasTrapped}

-- A circuit whose memory of code is filled up with zeros has the same words as without them, and tells the same faults. So it makes as
-- many cycles, takes as many words, and puts out the same.
pub record TrapRunsAlike (u : Units) (m : Machine) (count : ℕ) (words memory : List ℕ) (powers : Named → ℕ) (inputs : ℕ → Named → ℕ) (t : ℕ)
    : Type 0 where
  pub settled : (n : Named)
      → signals_at u (trap_with m count (filled m words) memory) powers inputs t n
      ≡ signals_at u (trap_with m count words memory) powers inputs t n
  pub held : (n : Named)
      → (held_at u (trap_with m count (filled m words) memory) powers inputs t).words n
      ≡ (held_at u (trap_with m count words memory) powers inputs t).words n
  pub data_space : (held_at u (trap_with m count (filled m words) memory) powers inputs t).memories Data
      ≡ (held_at u (trap_with m count words memory) powers inputs t).memories Data
  pub frame_space : (held_at u (trap_with m count (filled m words) memory) powers inputs t).memories Frame
      ≡ (held_at u (trap_with m count words memory) powers inputs t).memories Frame
  pub cycles : cycles_at u (trap_with m count (filled m words) memory) powers inputs t
      ≡ cycles_at u (trap_with m count words memory) powers inputs t
  pub taken : taken_at u (trap_with m count (filled m words) memory) powers inputs t
      ≡ taken_at u (trap_with m count words memory) powers inputs t
  pub put : put_at u (trap_with m count (filled m words) memory) powers inputs t ≡ put_at u (trap_with m count words memory) powers inputs t

abbrev pub TrapFilledRuns : Type 0
TrapFilledRuns =
    (u : Units) (m : Machine) (count : ℕ) (words memory : List ℕ) (powers : Named → ℕ) (inputs : ℕ → Named → ℕ) (t : ℕ)
    → TrapRunsAlike u m count words memory powers inputs t

-- The circuit whose memory of code has the bits of an image stands, after every number of clocks, for the state of the machine after
-- those of them that carried an instruction out, for all words of the data space and all inputs, and tells the fault that the next cycle
-- meets. Nothing is asked of the code.
abbrev pub TrapImageRuns : Type 0
TrapImageRuns =
    (u : Units) (m : Machine) (digest : List ℕ) (whole : Whole) (bytes memory input : List ℕ) (powers : Named → ℕ)
    (inputs : ℕ → Named → ℕ) → IsMachine m → length digest ≡ 32 → Image m digest whole bytes → length memory ≡ m.data_words
    → (last : ℕ) → AreClocks u (trap_with m (length whole.code.words) (image_words m bytes) memory) input powers inputs last
    → (t : ℕ) → last < t
    → HasTrapped u m whole.code (trap_with m (length whole.code.words) (image_words m bytes) memory)
    (powered same_signal same_store (trap_with m (length whole.code.words) (image_words m bytes) memory) powers) input inputs t
    (cyc u m whole.code memory input
    (cycles_at u (trap_with m (length whole.code.words) (image_words m bytes) memory) powers inputs t))

-- The circuit shows the run of its machine after so many cycles, none of which met a fault: what was put out, how much of the input was
-- taken, whether the machine has halted, and the data and frame spaces. The machine does not wait. What the circuit tells is the number of
-- the fault that the next cycle meets, if any.
pub record ShowsTrapped (u : Units) (m : Machine) (code : Program) (c : Circuit Named Store) (input : List ℕ) (powers : Named → ℕ)
    (inputs : ℕ → Named → ℕ) (t : ℕ) (s : State) : Type 0 where
  pub output : put_at u c powers inputs t ≡ s.output
  pub rest : s.rest ≡ drop (taken_at u c powers inputs t) input
  pub halted : is_set ((held_at u c powers inputs t).words HasHalted) ≡ is_halted s.outcome
  pub data_space : (held_at u c powers inputs t).memories Data ≡ s.memory
  pub frame_space : (held_at u c powers inputs t).memories Frame ≡ s.frame
  pub goes_on : is_waiting s.outcome ≡ false
  pub sound : is_fault s.outcome ≡ false
  pub count : s.cycle ≡ cycles_at u c powers inputs t
  pub fault : is_set (signals_at u c powers inputs t (Watches FaultNow)) ≡ true
      → (next u m code s).outcome ≡ Fault (signals_at u c powers inputs t (Watches FaultNow)) (cycles_at u c powers inputs t)
  pub fine : is_set (signals_at u c powers inputs t (Watches FaultNow)) ≡ false → is_fault (next u m code s).outcome ≡ false

-- The circuit whose memory of code has the words of legal code, and zeros up to its end, shows the run of the machine, and tells the fault
-- that the next cycle meets.
abbrev pub TrapFilledShows : Type 0
TrapFilledShows =
    (u : Units) (m : Machine) (code : Program) (memory input : List ℕ) (powers : Named → ℕ) (inputs : ℕ → Named → ℕ)
    → IsMachine m → IsLegalCode m code → length memory ≡ m.data_words
    → (last : ℕ) → AreClocks u (trap_with m (length code.words) (filled m (code_words m code)) memory) input powers inputs last
    → (t : ℕ) → last < t
    → ShowsTrapped u m code (trap_with m (length code.words) (filled m (code_words m code)) memory) input powers inputs t
    (cyc u m code memory input
    (cycles_at u (trap_with m (length code.words) (filled m (code_words m code)) memory) powers inputs t))
