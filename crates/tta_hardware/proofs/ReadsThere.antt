-- The circuit of a machine reads only signals that it has.
use Rattle.std.proofs.Common.{◌≡◌, ℕ, Bool, true, ◌&&◌, List, Some, refl}
use Rattle.std.proofs.lemmas.Bool.{and_from}
use Rattle.tta_hardware.specs.Cited.{Op, Stw, Stf, Machine, IsMachine, same_op, Signal, reads_only, has_signal, PortReads, IsClosed}
use Rattle.tta_code.specs.declared.code.Code.{Code as Program}
use Rattle.tta_circuit.proofs.Closed.{reads_wider}
use Rattle.tta_hardware.specs.Signals.{Signal as Named, Expression, Trigger, Operand, same_signal}
use Rattle.tta_hardware.specs.Wires.{some_start, word_of_start, made_of}
use Rattle.tta_hardware.specs.Registers.{register, becomes, enabled}
use Rattle.tta_hardware.specs.Hardware.{wire, wire_names, register_names, store_port, circuit_of}
use Rattle.tta_hardware.specs.Sized.{CircuitIsClosed}
use Rattle.tta_hardware.proofs.WiresFit.{all_map}
use Rattle.tta_hardware.proofs.RegistersFit.{weaker}
use Rattle.tta_hardware.proofs.There.{is_there, has_it, wires_there, registers_there}
use Rattle.tta_hardware.proofs.OnlyThere.{ok, some_ok, of_start}
use Rattle.tta_hardware.proofs.WiresRead.{wire_ok}
use Rattle.tta_hardware.proofs.RegistersRead.{enabled_ok, register_ok}

module _ (m : Machine) (rules : IsMachine m) where
  -- ---- the circuit

  module _ (code : Program) (memory : List ℕ) where
    abbrev has : Named → Bool
    has n = has_signal same_signal (circuit_of m code memory) n

    wider : (e : Expression) → ok m e ≡ true → reads_only has e ≡ true
    wider e is = reads_wider (is_there m) has (has_it m code memory) e is

    port_ok : (size : ℕ) (test : Op → Bool) → PortReads has (Some (store_port m size test))
    port_ok size test =
        let address = of_start m test Operand (λ unit less. less) in (
          wider (store_port m size test).enable
              (and_from (ok m (some_start m test)) (ok m (word_of_start m test (λ unit. Signal (Operand unit))) && true) (some_ok m test)
              (and_from (ok m (word_of_start m test (λ unit. Signal (Operand unit)))) true address refl)),
          (
            wider (store_port m size test).address address,
            wider (store_port m size test).word (of_start m test Trigger (λ unit less. less)),
          ),
        )

    pub closed : IsClosed same_signal (circuit_of m code memory)
    closed = record {
      wires = all_map (λ w. reads_only has w.word ≡ true) (wire m) (wire_names m)
          (weaker (λ n. is_there m n ≡ true) (λ n. reads_only has (made_of m n) ≡ true) (wire_names m)
          (λ n is. wider (made_of m n) (wire_ok m rules n is)) (wires_there m rules));
      registers = all_map (λ r. (reads_only has r.enable ≡ true) × (reads_only has r.next ≡ true)) (register m) (register_names m)
          (weaker (λ n. is_there m n ≡ true) (λ n. (reads_only has (enabled n) ≡ true) × (reads_only has (becomes m n) ≡ true))
          (register_names m) (λ n is. (wider (enabled n) (enabled_ok m n), wider (becomes m n) (register_ok m n is)))
          (registers_there m rules));
      memories = (tt, (port_ok m.data_words (same_op Stw), (port_ok m.frame_words (same_op Stf), tt)));
    }

pub circuit_is_closed : CircuitIsClosed
circuit_is_closed m code memory rules = closed m rules code memory
