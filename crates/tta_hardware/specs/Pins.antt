-- The pins by which words come and go.
use Rattle.std.specs.Prelude.{◌≡◌, ℕ, true, false, ◌&&◌, List, length}
use Rattle.tta_hardware.specs.Cited.{Units, Machine, IsMachine, IsLegalCode, State, Running, next, cyc, Signal, Not, Both, is_set, value}
use Rattle.tta_code.specs.declared.code.Code.{Code as Program}
use Rattle.tta_hardware.specs.Signals.{Signal as Named, Expression, HasHalted, IsOffered, IsReady, IsReset, Asks, Gives, Goes, Puts}
use Rattle.tta_hardware.specs.Hardware.{circuit_of}
use Rattle.tta_hardware.specs.Stands.{Hardware, StandsFor, IsSettled}
use Rattle.tta_hardware.specs.Theorem.{is_fault}
use Rattle.tta_hardware.specs.Runs.{hardware, signals, AreClocks}

-- whether the circuit has a word to put out: it has one, is not to begin anew, and has not halted
abbrev pub out_valid : Expression
out_valid = Both (Not (Signal IsReset)) (Both (Not (Signal HasHalted)) (Signal Gives))

-- whether it would take a word
abbrev pub in_ready : Expression
in_ready = Both (Not (Signal IsReset)) (Both (Not (Signal HasHalted)) (Signal Asks))

-- No cycle both takes a word of the input and puts one out, where the circuit stands for a state that runs, and whose next cycle is no
-- fault.
abbrev pub StreamsApart : Type 0
StreamsApart =
    (u : Units) (m : Machine) (code : Program) (h : Hardware) (env : Named → ℕ) (s : State) → IsMachine m → IsLegalCode m code
    → StandsFor m code h s → s.outcome ≡ Running → is_fault (next u m code s).outcome ≡ false → IsSettled u m h env
    → is_set (env Asks) ≡ true → is_set (env Gives) ≡ false

-- At a clock a word is put out exactly where the circuit has one to put out and it would be taken; and one is taken exactly where the
-- circuit would take one and it is offered.
pub record PinsSay (u : Units) (h : Hardware) (env : Named → ℕ) : Type 0 where
  pub out : (is_set (value u h.memories env out_valid) && is_set (env IsReady)) ≡ is_set (env Puts)
  pub taken : (is_set (value u h.memories env in_ready) && is_set (env IsOffered)) ≡ (is_set (env Goes) && is_set (env Asks))

-- So it is at every clock, as long as the machine meets no fault and is offered the words of the input in order.
abbrev pub PinsServe : Type 0
PinsServe =
    (u : Units) (m : Machine) (code : Program) (memory input : List ℕ) (powers : Named → ℕ) (inputs : ℕ → Named → ℕ)
    → IsMachine m → IsLegalCode m code → length memory ≡ m.data_words
    → ((n : ℕ) → is_fault (cyc u m code memory input n).outcome ≡ false)
    → (last : ℕ) → AreClocks u (circuit_of m code memory) input powers inputs last → (t : ℕ)
    → PinsSay u (hardware u m code memory powers inputs t) (signals u m code memory powers inputs t)
