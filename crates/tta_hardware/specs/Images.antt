-- Runs of the circuit whose memory of code has the bits of an image.
use Rattle.std.specs.Prelude.{◌≡◌, ℕ, ◌<◌, false, List, drop, length}
use Rattle.tta_hardware.specs.Cited.{Units, Machine, IsMachine, State, cyc, Image, is_set}
use Rattle.tta_code.specs.Whole.{Whole as CodeWithData}
use Rattle.tta_hardware.specs.Signals.{Data, Frame, Signal as Named, HasHalted}
use Rattle.tta_hardware.specs.Hardware.{circuit_with}
use Rattle.tta_hardware.specs.Stands.{is_halted}
use Rattle.tta_hardware.specs.Theorem.{is_fault, is_waiting}
use Rattle.tta_hardware.specs.Runs.{held_at, signals_at, cycles_at, taken_at, put_at, AreClocks}
use Rattle.tta_hardware.specs.Words.{image_words, filled}

-- A circuit whose memory of code is filled up with zeros has the same words as without them.
pub record RunsAlike (u : Units) (m : Machine) (words memory : List ℕ) (powers : Named → ℕ) (inputs : ℕ → Named → ℕ) (t : ℕ) : Type 0 where
  pub settled : (n : Named)
      → signals_at u (circuit_with m (filled m words) memory) powers inputs t n
      ≡ signals_at u (circuit_with m words memory) powers inputs t n
  pub held : (n : Named)
      → (held_at u (circuit_with m (filled m words) memory) powers inputs t).words n
      ≡ (held_at u (circuit_with m words memory) powers inputs t).words n
  pub data_space : (held_at u (circuit_with m (filled m words) memory) powers inputs t).memories Data
      ≡ (held_at u (circuit_with m words memory) powers inputs t).memories Data
  pub frame_space : (held_at u (circuit_with m (filled m words) memory) powers inputs t).memories Frame
      ≡ (held_at u (circuit_with m words memory) powers inputs t).memories Frame

abbrev pub FilledRuns : Type 0
FilledRuns =
    (u : Units) (m : Machine) (words memory : List ℕ) (powers : Named → ℕ) (inputs : ℕ → Named → ℕ) (t : ℕ)
    → RunsAlike u m words memory powers inputs t

-- The circuit shows the run of its machine: what was put out, how much of the input was taken, whether the machine has halted, and the
-- data and frame spaces. The machine does not wait.
pub record ShowsRun (u : Units) (m : Machine) (words memory input : List ℕ) (powers : Named → ℕ) (inputs : ℕ → Named → ℕ) (t : ℕ)
    (s : State)
    : Type 0 where
  pub output : put_at u (circuit_with m words memory) powers inputs t ≡ s.output
  pub rest : s.rest ≡ drop (taken_at u (circuit_with m words memory) powers inputs t) input
  pub halted : is_set ((held_at u (circuit_with m words memory) powers inputs t).words HasHalted) ≡ is_halted s.outcome
  pub data_space : (held_at u (circuit_with m words memory) powers inputs t).memories Data ≡ s.memory
  pub frame_space : (held_at u (circuit_with m words memory) powers inputs t).memories Frame ≡ s.frame
  pub goes_on : is_waiting s.outcome ≡ false

-- The circuit whose memory of code has the bits of an image shows, after every number of clocks, the run of the machine after those of
-- them that carried an instruction out, for all words of the data space and all inputs, as long as the machine meets no fault, and a
-- word that is offered is the next of the input.
abbrev pub ImageRuns : Type 0
ImageRuns =
    (u : Units) (m : Machine) (digest : List ℕ) (whole : CodeWithData) (bytes memory input : List ℕ) (powers : Named → ℕ)
    (inputs : ℕ → Named → ℕ) → IsMachine m → length digest ≡ 32 → Image m digest whole bytes → length memory ≡ m.data_words
    → ((n : ℕ) → is_fault (cyc u m whole.code memory input n).outcome ≡ false)
    → (last : ℕ) → AreClocks u (circuit_with m (image_words m bytes) memory) input powers inputs last → (t : ℕ) → last < t
    → ShowsRun u m (image_words m bytes) memory input powers inputs t
    (cyc u m whole.code memory input (cycles_at u (circuit_with m (image_words m bytes) memory) powers inputs t))
