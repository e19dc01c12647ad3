-- What else is needed of a circuit that makes all operations itself: what it has, and that it reads nothing else.
use Rattle.std.proofs.Common.{◌≡◌, ℕ, Bool, true, false, List, map}
use Rattle.std.specs.List.{AllByRecursion}
use Rattle.std.proofs.lemmas.Bool.{false≢true}
use Rattle.tta_boxed.specs.Cited.{Machine, IsMachine, Circuit, IsClosed, Store, same_signal}
use Rattle.tta_circuit.specs.Closed.{has_signal}
use Rattle.tta_code.specs.declared.code.Code.{Code as Program}
use Rattle.tta_hardware.specs.Signals.{Signal as Named}
use Rattle.tta_hardware.specs.Registers.{register}
use Rattle.tta_hardware.specs.Hardware.{register_names}
use Rattle.tta_hardware.proofs.WiresFit.{both_lists, all_map}
use Rattle.tta_hardware.proofs.RegistersFit.{weaker}
use Rattle.tta_hardware.proofs.PlainWires.{all_made}
use Rattle.tta_hardware.proofs.There.{is_there, has_it, registers_there}
use Rattle.tta_hardware.proofs.ReadsThere.{closed}
use Rattle.tta_trap.specs.Memory.{watch_register, watch_registers}
use Rattle.tta_trap.proofs.Present.{still_there}
use Rattle.tta_trap.proofs.Closing.{has_it_here, trap_closed}
use Rattle.tta_boxed.specs.Theorem.{whole}
use Rattle.tta_boxed.proofs.Early.{is_slow}

-- A circuit has the signals of a machine, reads only what it has, and keeps results only of units of the machine.
pub record IsSound (m : Machine) (d : Circuit Named Store) : Type 0 where
  pub has : (n : Named) → is_there m n ≡ true → has_signal same_signal d n ≡ true
  pub closed : IsClosed same_signal d
  pub there : AllByRecursion (λ r. is_slow r.name ≡ true → is_there m r.name ≡ true) d.registers

module _ (m : Machine) (rules : IsMachine m) (code : Program) (memory : List ℕ) where
  plain_there : AllByRecursion (λ r. is_slow r.name ≡ true → is_there m r.name ≡ true) (map (register m) (register_names m))
  plain_there =
      all_map (λ r. is_slow r.name ≡ true → is_there m r.name ≡ true) (register m) (register_names m)
      (weaker (λ n. is_there m n ≡ true) (λ n. is_slow n ≡ true → is_there m n ≡ true) (register_names m) (λ n is slow. is)
      (registers_there m rules))

  pub sound : (faults : Bool) → IsSound m (whole faults m code memory)
  sound true = record {
    has = λ n is. has_it_here m rules code memory n (still_there m n is);
    closed = trap_closed m rules code memory;
    there = both_lists (λ r. is_slow r.name ≡ true → is_there m r.name ≡ true) (map (register m) (register_names m))
        (map (watch_register m) (watch_registers m)) plain_there
        (all_made (λ r. is_slow r.name ≡ true → is_there m r.name ≡ true) (watch_register m) (watch_registers m)
        (λ w slow. absurd (false≢true slow)));
  }
  sound false = record { has = has_it m code memory; closed = closed m rules code memory; there = plain_there }
