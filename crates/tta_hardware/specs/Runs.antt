-- Runs of a circuit, and runs of its machine.
use Rattle.std.specs.Prelude.{◌≡◌, ℕ, zero, suc, ◌+◌, ◌<◌, ◌≤◌, true, false, not, ◌||◌, List, [], ◌∷◌, ◌++◌, length, drop, map, ◌&&◌, if◌then◌else◌}
use Rattle.tta_hardware.specs.Cited.{Units, Machine, IsMachine, IsLegalCode, State, Waiting, next, start, cyc, iterate, Circuit, bit, is_set, settled, held_from, powered}
use Rattle.tta_code.specs.declared.code.Code.{Code as Program}
use Rattle.tta_hardware.specs.Fields.{word_of}
use Rattle.tta_hardware.specs.Signals.{Signal as Named, Store, Code, Data, Frame, IsOffered, IsReady, IsReset, Asks, Gives, Goes, Puts, PutWord, same_signal, same_store}
use Rattle.tta_hardware.specs.Hardware.{circuit_of}
use Rattle.tta_hardware.specs.Stands.{Hardware, StandsFor, is_halted}
use Rattle.tta_hardware.specs.Theorem.{is_fault, is_waiting, IsFed}

module _ (u : Units) (c : Circuit Named Store) (h : Hardware) (inputs : ℕ → Named → ℕ) where
  -- what a circuit holds after so many clocks, where this is what it held before them
  abbrev pub held_after : ℕ → Hardware
  held_after t = held_from same_signal same_store u c h inputs t

  -- the words of its signals before the next clock
  abbrev pub signals_after : ℕ → Named → ℕ
  signals_after t = settled same_signal u c (held_after t) (inputs t)

  -- how many of these clocks carried an instruction out
  abbrev pub cycles_after : ℕ → ℕ
  cycles_after zero = 0
  cycles_after (suc t) = cycles_after t + bit (is_set (signals_after t Goes))

  -- how many words of the input were taken at these clocks
  abbrev pub taken_after : ℕ → ℕ
  taken_after zero = 0
  taken_after (suc t) = taken_after t + bit (is_set (signals_after t Goes) && is_set (signals_after t Asks))

  -- the words that were put out at these clocks
  abbrev pub put_after : ℕ → List ℕ
  put_after zero = []
  put_after (suc t) = put_after t ++ (if is_set (signals_after t Puts) then signals_after t PutWord ∷ [] else [])

module _ (u : Units) (c : Circuit Named Store) (powers : Named → ℕ) (inputs : ℕ → Named → ℕ) where
  -- the same from the power on, where its registers had these words then
  abbrev pub held_at : ℕ → Hardware
  held_at t = held_after u c (powered same_signal same_store c powers) inputs t

  abbrev pub signals_at : ℕ → Named → ℕ
  signals_at t = signals_after u c (powered same_signal same_store c powers) inputs t

  abbrev pub cycles_at : ℕ → ℕ
  cycles_at t = cycles_after u c (powered same_signal same_store c powers) inputs t

  abbrev pub taken_at : ℕ → ℕ
  taken_at t = taken_after u c (powered same_signal same_store c powers) inputs t

  abbrev pub put_at : ℕ → List ℕ
  put_at t = put_after u c (powered same_signal same_store c powers) inputs t

module _ (u : Units) (m : Machine) (code : Program) (memory : List ℕ) (powers : Named → ℕ) (inputs : ℕ → Named → ℕ) where
  -- the same of the circuit of a machine with its code
  abbrev pub hardware : ℕ → Hardware
  hardware t = held_at u (circuit_of m code memory) powers inputs t

  abbrev pub signals : ℕ → Named → ℕ
  signals t = signals_at u (circuit_of m code memory) powers inputs t

  abbrev pub cycles : ℕ → ℕ
  cycles t = cycles_at u (circuit_of m code memory) powers inputs t

  abbrev pub taken : ℕ → ℕ
  taken t = taken_at u (circuit_of m code memory) powers inputs t

  abbrev pub put : ℕ → List ℕ
  put t = put_at u (circuit_of m code memory) powers inputs t

-- After so many clocks a circuit that held this before them stands for this state of its machine, which does not wait; it has put out its
-- output, and has taken as much of the input.
pub record HasRunFrom (u : Units) (m : Machine) (code : Program) (c : Circuit Named Store) (h : Hardware) (input : List ℕ)
    (inputs : ℕ → Named → ℕ) (t : ℕ) (s : State) : Type 0 where
  pub stands : StandsFor m code (held_after u c h inputs t) s
  pub output : put_after u c h inputs t ≡ s.output
  pub rest : s.rest ≡ drop (taken_after u c h inputs t) input
  pub goes_on : is_waiting s.outcome ≡ false

-- the same from the power on
abbrev pub HasRun : Units → Machine → Program → (memory input : List ℕ) → (powers : Named → ℕ) → (inputs : ℕ → Named → ℕ) → ℕ → State → Type 0
HasRun u m code memory input powers inputs t s =
    let c = circuit_of m code memory in HasRunFrom u m code c (powered same_signal same_store c powers) input inputs t s

-- Clocks that a circuit is given which held this before them: those up to a number begin anew, and no later one does; and at the later
-- ones a word that is offered is the next of the input.
pub record AreClocksFrom (u : Units) (c : Circuit Named Store) (h : Hardware) (input : List ℕ) (inputs : ℕ → Named → ℕ) (last : ℕ)
    : Type 0 where
  pub reset : (t : ℕ) → t ≤ last → is_set (inputs t IsReset) ≡ true
  pub on : (t : ℕ) → last < t → is_set (inputs t IsReset) ≡ false
  pub fed : (t : ℕ) → last < t → IsFed (signals_after u c h inputs t) (drop (taken_after u c h inputs t) input)

-- the same from the power on
abbrev pub AreClocks : Units → Circuit Named Store → (input : List ℕ) → (powers : Named → ℕ) → (inputs : ℕ → Named → ℕ) → (last : ℕ) → Type 0
AreClocks u c input powers inputs last = AreClocksFrom u c (powered same_signal same_store c powers) input inputs last

-- After some clocks that begin anew, at least one, and every number of further clocks the circuit stands for the state of the machine
-- after those of them that carried an instruction out; what it put out is the output; it shows whether the machine has halted, and
-- the machine does not wait. This holds for all words of the data space, all words that registers have when the power comes, and all
-- inputs, as long as the machine meets no fault, and a word that is offered is the next of the input.
abbrev pub CircuitRuns : Type 0
CircuitRuns =
    (u : Units) (m : Machine) (code : Program) (memory input : List ℕ) (powers : Named → ℕ) (inputs : ℕ → Named → ℕ)
    → IsMachine m → IsLegalCode m code → length memory ≡ m.data_words
    → ((n : ℕ) → is_fault (cyc u m code memory input n).outcome ≡ false)
    → (last : ℕ) → AreClocks u (circuit_of m code memory) input powers inputs last → (t : ℕ) → last < t
    → HasRun u m code memory input powers inputs t (cyc u m code memory input (cycles u m code memory powers inputs t))

-- Why a clock carries nothing out: the machine has halted, or the circuit asks for a word and none is offered, or it has one to put
-- out that nobody takes. Where it runs and asks for a word and none is left, the machine waits in its next cycle.
pub record IsStill (u : Units) (m : Machine) (code : Program) (env : Named → ℕ) (s : State) : Type 0 where
  pub why : (is_halted s.outcome
      || (is_set (env Asks) && not (is_set (env IsOffered)) || is_set (env Gives) && not (is_set (env IsReady)))) ≡ true
  pub waits : is_halted s.outcome ≡ false → is_set (env Asks) ≡ true → s.rest ≡ [] → next u m code s ≡ record s { outcome = Waiting }

-- The circuit stands still only so, once it does not begin anew, under the same premises.
abbrev pub StandsStill : Type 0
StandsStill =
    (u : Units) (m : Machine) (code : Program) (memory input : List ℕ) (powers : Named → ℕ) (inputs : ℕ → Named → ℕ)
    → IsMachine m → IsLegalCode m code → length memory ≡ m.data_words
    → ((n : ℕ) → is_fault (cyc u m code memory input n).outcome ≡ false)
    → (last : ℕ) → AreClocks u (circuit_of m code memory) input powers inputs last → (t : ℕ) → last < t
    → is_set (signals u m code memory powers inputs t Goes) ≡ false
    → IsStill u m code (signals u m code memory powers inputs t)
    (cyc u m code memory input (cycles u m code memory powers inputs t))

-- ---- clocks that begin anew later

-- the state at the start over these words of the data space and of the frame
abbrev pub start_over : Machine → (memory frame input : List ℕ) → State
start_over m memory frame input = record (start m memory input) { frame = frame }

-- the state after n cycles from there
abbrev pub cyc_over : Units → Machine → Program → (memory frame input : List ℕ) → ℕ → State
cyc_over u m code memory frame input n = iterate n (next u m code) (start_over m memory frame input)

-- A circuit holds the words of the code, and these words of the data space and of the frame, as many as each has.
pub record HoldsWords (m : Machine) (code : Program) (memory frame : List ℕ) (h : Hardware) : Type 0 where
  pub rom : h.memories Code ≡ map (word_of m) code.words
  pub data_has : h.memories Data ≡ memory
  pub frame_has : h.memories Frame ≡ frame
  pub memory_size : length memory ≡ m.data_words
  pub frame_size : length frame ≡ m.frame_words

-- Whatever a circuit's registers hold, some clocks that begin anew begin a run over the words that the data space and the frame have
-- then; it goes on as every run, under the same premises.
abbrev pub BeginsAnew : Type 0
BeginsAnew =
    (u : Units) (m : Machine) (code : Program) (first memory frame input : List ℕ) (h : Hardware) (inputs : ℕ → Named → ℕ)
    → IsMachine m → IsLegalCode m code → HoldsWords m code memory frame h
    → ((n : ℕ) → is_fault (cyc_over u m code memory frame input n).outcome ≡ false)
    → (last : ℕ) → AreClocksFrom u (circuit_of m code first) h input inputs last → (t : ℕ) → last < t
    → HasRunFrom u m code (circuit_of m code first) h input inputs t
    (cyc_over u m code memory frame input (cycles_after u (circuit_of m code first) h inputs t))

-- After any clocks from the power on, whatever they bring, the circuit holds the words of the code, and as many words of the data space
-- and of the frame as these have. So clocks that begin anew can come at any time.
abbrev pub HoldsCode : Type 0
HoldsCode =
    (u : Units) (m : Machine) (code : Program) (memory : List ℕ) (powers : Named → ℕ) (inputs : ℕ → Named → ℕ)
    → length memory ≡ m.data_words → (t : ℕ)
    → HoldsWords m code ((hardware u m code memory powers inputs t).memories Data) ((hardware u m code memory powers inputs t).memories Frame)
    (hardware u m code memory powers inputs t)
