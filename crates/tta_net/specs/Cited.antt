-- What the definitions and lemmas of this crate cite of other crates, passed on from one place. Declares nothing.
pub use Rattle.tta_arch.specs.Machine.{Machine}
pub use Rattle.tta_arch.specs.Rules.{IsMachine, fits_kind, is_unit, is_unit_op}
pub use Rattle.tta_arch.specs.declared.parts.UnitOp.{UnitOp}
pub use Rattle.tta_code.specs.Cycle.{Fault, Halted, Outcome, Running, State, Waiting, next_of, start}
unfoldable pub use Rattle.tta_code.specs.Cycle.{next}
pub use Rattle.tta_code.specs.Legal.{IsLegalCode}
pub use Rattle.tta_code.specs.declared.code.Code.{Code}
pub use Rattle.tta_kahn.specs.Cluster.{cycle_of, cycles, first_states, is_waiting}
pub use Rattle.tta_kahn.specs.Network.{AreAtRest, NetworkCore, Network, after_step, fed_to, feeder_of, interleaved, joined, output_of, stepped, turn}
pub use Rattle.tta_kahn.specs.declared.cores.Core.{Core}
pub use Rattle.tta_flight.specs.Flight.{StayBeside}
pub use Rattle.tta_flight.specs.Rings.{Rings, is_among, longest_of}
pub use Rattle.tta_list.specs.Input.{IsFed, left}
pub use Rattle.tta_ops.specs.Set.{stated}
pub use Rattle.tta_ops.specs.Units.{Units}
pub use Rattle.tta_sim.specs.Held.{HeldState, IsStateOf, StandsWith, is_fault}
pub use Rattle.tta_sim.specs.Results.{AreKept, AreResultsOf, HasUnits, Results, units_of}
