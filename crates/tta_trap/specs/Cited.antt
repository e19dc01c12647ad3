-- What the definitions and lemmas of this crate cite of other crates, passed on from one place. Declares nothing.
pub use Rattle.tta_arch.specs.Effects.{KeptImm, KeptOperand, KeptPort, KeptRa, KeptReg, Place, has_result, kept}
pub use Rattle.tta_arch.specs.Fields.{dest_width, guard_width, guards_on, numbers, payload_width, sources_on}
pub use Rattle.tta_arch.specs.Machine.{Machine}
pub use Rattle.tta_arch.specs.Rules.{IsMachine}
pub use Rattle.tta_arch.specs.declared.ends.Source.{Source}
pub use Rattle.tta_circuit.specs.Circuit.{Below, Both, Circuit, Const, Either, Equal, Not, Register, Select, Signal, Slice, Wire}
pub use Rattle.tta_circuit.specs.Closed.{IsClosed, are_apart, signals_of}
pub use Rattle.tta_circuit.specs.Laws.{IsWithin}
pub use Rattle.tta_circuit.specs.Meaning.{is_set, powered, value}
pub use Rattle.tta_circuit.specs.Order.{is_ordered}
pub use Rattle.tta_circuit.specs.Plain.{IsPlain}
pub use Rattle.tta_code.specs.Cycle.{Fault, Halted, Outcome, Running, State, Waiting, cyc, port}
unfoldable pub use Rattle.tta_code.specs.Cycle.{next}
pub use Rattle.tta_code.specs.Legal.{IsLegalCode}
pub use Rattle.tta_hardware.specs.Chains.{any_of, first_of, pick_from}
pub use Rattle.tta_hardware.specs.Hardware.{bus_wires, circuit_with, code_words, first_wires, register_names, unit_wires, wire_width}
pub use Rattle.tta_hardware.specs.Order.{rank}
pub use Rattle.tta_hardware.specs.Pins.{in_ready, out_valid}
pub use Rattle.tta_hardware.specs.Registers.{longs, register}
pub use Rattle.tta_hardware.specs.Runs.{AreClocks, AreClocksFrom, HasRunFrom, HoldsWords, cyc_over, cycles_after, cycles_at, held_after, held_at, put_at, signals_after, signals_at, start_over, taken_at}
pub use Rattle.tta_hardware.specs.Signals.{Acts, Asks, Clashes, Controls, Data, DestOf, EndsNow, Expression, FaultNow, Fetched, Frame, Gives, Goes, GoalNow, GuardOf, HasHalted, HasWord, IsOffered, IsPast, IsReady, IsReset, IsShort, LacksOperand, LacksPort, LacksRegister, Lands, NextPc, Pc, PutWord, Puts, SourceOf, Starts, Store, Underway, Watch, Watches, same_signal, same_store}
pub use Rattle.tta_hardware.specs.Sized.{signal_width, store_width}
pub use Rattle.tta_hardware.specs.Stands.{Hardware, HasClocked, IsSettled, StandsFor, has_place, is_halted, is_written}
pub use Rattle.tta_hardware.specs.Theorem.{IsFed, is_fault, is_waiting}
pub use Rattle.tta_hardware.specs.Wires.{begins, is_coming, longest, made_of, never, ops_of, reached}
pub use Rattle.tta_hardware.specs.Within.{AreInputs}
pub use Rattle.tta_hardware.specs.Words.{filled, image_words}
pub use Rattle.tta_image.specs.Image.{Image}
pub use Rattle.tta_ops.specs.Units.{Units}
