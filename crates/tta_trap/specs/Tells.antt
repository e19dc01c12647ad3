-- What a circuit that tells the first fault knows of a state of its machine, and what its wires and a clock say.
use Rattle.std.specs.Prelude.{◌≡◌, ℕ, ◌<◌, ◌^◌, true, false, nat_le, length, is_some}
use Rattle.tta_trap.specs.Cited.{Units, Machine, IsMachine, IsLegalCode, KeptPort, Place, kept, State, Outcome, Running, Halted, Waiting, Fault, next, port, is_set, value, IsReset, Goes, HasWord, IsPast, LacksRegister, LacksPort, LacksOperand, Clashes, FaultNow, Watches, Hardware, has_place, is_written, StandsFor, IsSettled, HasClocked, is_fault, IsFed}
use Rattle.tta_code.specs.declared.code.Code.{Code as Program}
use Rattle.tta_hardware.specs.Signals.{Signal as Named}
use Rattle.tta_trap.specs.Watches.{watch_made}
use Rattle.tta_trap.specs.Memory.{watch_next}

-- A circuit knows which places were written, which result ports have shown a result, and whether the address is past all that have the
-- width of addresses.
pub record Knows (m : Machine) (words : Named → ℕ) (s : State) : Type 0 where
  pub places : (p : Place) → is_written p ≡ true → has_place m p ≡ true
      → is_set (words (Watches (HasWord p))) ≡ is_some (kept s.written p)
  pub ports : (unit : ℕ) → unit < length m.units → is_set (words (Watches (HasWord (KeptPort unit)))) ≡ is_some (port s unit)
  pub past : is_set (words (Watches IsPast)) ≡ nat_le (2 ^ m.control.address) s.pc

-- Its registers have what is held, and its wires the words of their expressions, with code of so many instructions.
pub record IsWatched (u : Units) (m : Machine) (count : ℕ) (h : Hardware) (env : Named → ℕ) : Type 0 where
  pub has_word : (p : Place) → env (Watches (HasWord p)) ≡ h.words (Watches (HasWord p))
  pub past : env (Watches IsPast) ≡ h.words (Watches IsPast)
  pub lacks_register : (bus : ℕ) → bus < length m.buses
      → env (Watches (LacksRegister bus)) ≡ value u h.memories env (watch_made m count (LacksRegister bus))
  pub lacks_port : (bus : ℕ) → bus < length m.buses
      → env (Watches (LacksPort bus)) ≡ value u h.memories env (watch_made m count (LacksPort bus))
  pub lacks_operand : (unit : ℕ) → unit < length m.units
      → env (Watches (LacksOperand unit)) ≡ value u h.memories env (watch_made m count (LacksOperand unit))
  pub clashes : (unit : ℕ) → unit < length m.units
      → env (Watches (Clashes unit)) ≡ value u h.memories env (watch_made m count (Clashes unit))
  pub fault : env (Watches FaultNow) ≡ value u h.memories env (watch_made m count FaultNow)

-- What these registers have after a clock that carries an instruction out.
pub record HasWatched (u : Units) (m : Machine) (h : Hardware) (env after : Named → ℕ) : Type 0 where
  pub has_word : (p : Place) → has_place m p ≡ true
      → after (Watches (HasWord p)) ≡ value u h.memories env (watch_next m (HasWord p))
  pub past : after (Watches IsPast) ≡ value u h.memories env (watch_next m IsPast)

-- the number of a fault, and 0 of any other outcome
abbrev pub fault_number : Outcome → ℕ
fault_number Running = 0
fault_number Halted = 0
fault_number Waiting = 0
fault_number (Fault number cycle) = number

-- One clock, where the circuit stands for a state that runs and knows of it: it tells the fault of the next cycle. Where there is
-- none, a clock that carries the instruction out leaves it knowing of the next state. Here the clock's wires are those of a circuit
-- that does not stop at faults, beside those that tell them.
abbrev pub TellsFaults : Type 0
TellsFaults =
    (u : Units) (m : Machine) (code : Program) (h : Hardware) (env : Named → ℕ) (s : State)
    → IsMachine m → IsLegalCode m code → StandsFor m code h s → Knows m h.words s → s.outcome ≡ Running
    → IsSettled u m h env → IsWatched u m (length code.words) h env → is_set (env IsReset) ≡ false
    → env (Watches FaultNow) ≡ fault_number (next u m code s).outcome

abbrev pub KnowsOn : Type 0
KnowsOn =
    (u : Units) (m : Machine) (code : Program) (h : Hardware) (env after : Named → ℕ) (s : State)
    → IsMachine m → IsLegalCode m code → StandsFor m code h s → Knows m h.words s → s.outcome ≡ Running
    → IsSettled u m h env → IsWatched u m (length code.words) h env → is_set (env IsReset) ≡ false
    → is_fault (next u m code s).outcome ≡ false → IsFed env s.rest → is_set (env Goes) ≡ true
    → HasClocked u m h env after → HasWatched u m h env after
    → Knows m after (next u m code s)
