-- What the definitions and lemmas of this crate cite of other crates, passed on from one place. Declares nothing.
pub use Rattle.tta_arch.specs.Effects.{KeptPort}
pub use Rattle.tta_arch.specs.Machine.{Machine}
pub use Rattle.tta_circuit.specs.Meaning.{Held, bit, clocked, given, is_set, powered, settled}
pub use Rattle.tta_code.specs.Cycle.{Fault, Halted, Outcome, Running, State, Waiting, start}
unfoldable pub use Rattle.tta_code.specs.Cycle.{next}
pub use Rattle.tta_code.specs.Legal.{IsLegalCode}
pub use Rattle.tta_code.specs.Whole.{data_in}
pub use Rattle.tta_kahn.specs.Cluster.{cluster_given, cycles, cycles_given, first_states, output_given}
pub use Rattle.tta_kahn.specs.Laws.{IsCore, IsPair, Pair, core_in, core_memory, program_memory}
pub use Rattle.tta_kahn.specs.Network.{AreComparable, NetworkCore, Network, after_step, fed_to, feeder_of, interleaved, joined, no_input, output_of, stepped, turn}
pub use Rattle.tta_kahn.specs.Programs.{IsGroupRest, group_output}
pub use Rattle.tta_kahn.specs.Queues.{UsesQueues}
pub use Rattle.tta_kahn.specs.declared.cores.Core.{Core}
pub use Rattle.tta_hardware.specs.Fields.{word_of}
pub use Rattle.tta_hardware.specs.Hardware.{circuit_of, wire, wire_names}
pub use Rattle.tta_hardware.specs.Order.{rank}
pub use Rattle.tta_hardware.specs.Signals.{Asks, Code, Data, Due, Ends, Frame, Gives, Goal, Goes, HasBegun, HasHalted, IsDue, IsInside, IsOffered, IsReady, IsReset, Keeps, Offer, Pc, PutWord, Puts, Raw, Store, Underway, Whole, same_signal, same_store}
pub use Rattle.tta_hardware.specs.Stands.{Hardware, StandsFor, fresh_in, is_halted}
pub use Rattle.tta_hardware.specs.Theorem.{HasStepped, IsFed, is_fault, is_waiting}
pub use Rattle.tta_hardware.specs.Wires.{loads, longest, made_of}
pub use Rattle.tta_joint.specs.Joint.{CoresClock, HaveCome, StepAtOnce, come_with, is_among, new_words, seen, stand_once, waiting_for, where_came}
pub use Rattle.tta_joint.specs.Laws.{AreQueued, IsShown}
pub use Rattle.tta_kahn.specs.Cited.{AreWords}
pub use Rattle.tta_list.specs.Input.{left}
pub use Rattle.tta_list.specs.Prefix.{IsPrefixOf}
pub use Rattle.tta_ops.specs.Units.{Units}
pub use Rattle.tta_queue.specs.Laws.{BeginUpTo, HasInside, Shows, gives, takes}
pub use Rattle.tta_queue.specs.Queue.{InData, InReady, InValid, OutData, OutReady, OutValid, Pin, queue_of, same_pin}
