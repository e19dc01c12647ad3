-- The pins of a circuit that tells the first fault.
use Rattle.std.specs.Prelude.{◌≡◌, ℕ, ◌&&◌, List}
use Rattle.tta_trap.specs.Cited.{Units, Machine, Const, Signal, Both, Equal, is_set, value, IsOffered, IsReady, Asks, Goes, Puts, FaultNow, Watches, Expression, Hardware, held_after, signals_after, out_valid, in_ready}
use Rattle.tta_code.specs.declared.code.Code.{Code as Program}
use Rattle.tta_hardware.specs.Signals.{Signal as Named}
use Rattle.tta_trap.specs.Trap.{trap_circuit}
use Rattle.tta_trap.specs.Theorem.{IsClocked}

-- whether the next cycle meets no fault
abbrev pub is_fine : Expression
is_fine = Equal (Signal (Watches FaultNow)) (Const 7 0)

-- whether the circuit has a word to put out, and whether it would take one: never where it has met a fault
abbrev pub trap_out_valid : Expression
trap_out_valid = Both is_fine out_valid

abbrev pub trap_in_ready : Expression
trap_in_ready = Both is_fine in_ready

-- At a clock a word is put out exactly where the circuit has one to put out and it would be taken; and one is taken exactly where the
-- circuit would take one and it is offered.
pub record TrapPinsSay (u : Units) (h : Hardware) (env : Named → ℕ) : Type 0 where
  pub out : (is_set (value u h.memories env trap_out_valid) && is_set (env IsReady)) ≡ is_set (env Puts)
  pub taken : (is_set (value u h.memories env trap_in_ready) && is_set (env IsOffered)) ≡ (is_set (env Goes) && is_set (env Asks))

-- So it is at every clock, as long as the words of the input are offered in order.
abbrev pub TrapPinsServe : Type 0
TrapPinsServe =
    (u : Units) (m : Machine) (code : Program) (first memory frame input : List ℕ) (h : Hardware) (inputs : ℕ → Named → ℕ) (last : ℕ)
    → IsClocked u m code first memory frame input h inputs last → (t : ℕ)
    → TrapPinsSay u (held_after u (trap_circuit m code first) h inputs t) (signals_after u (trap_circuit m code first) h inputs t)
