-- What the definitions and lemmas of this crate cite of other crates, passed on from one place. Declares nothing.
pub use Rattle.tta_arch.specs.Effects.{KeptImm, KeptOperand, KeptPort, KeptRa, KeptReg, Place, has_result, or_else}
pub use Rattle.tta_arch.specs.Fields.{dests_on, numbers, sources_on, word_width}
pub use Rattle.tta_arch.specs.Joins.{is_dest_on}
pub use Rattle.tta_arch.specs.Layout.{fields_of, layout_of}
pub use Rattle.tta_arch.specs.Machine.{Machine}
pub use Rattle.tta_arch.specs.Rules.{IsMachine, same_op}
pub use Rattle.tta_arch.specs.declared.ends.Dest.{Dest}
pub use Rattle.tta_arch.specs.declared.layout.BusFields.{BusFields}
pub use Rattle.tta_arch.specs.declared.layout.Layout.{Layout}
pub use Rattle.tta_arch.specs.declared.parts.Op.{Op}
pub use Rattle.tta_arch.specs.declared.parts.UnitOp.{UnitOp}
pub use Rattle.tta_circuit.specs.Circuit.{Circuit, Const, Either, Join, Memory, Plus, Register, Select, Signal, Slice, Wire, WritePort}
pub use Rattle.tta_circuit.specs.Order.{reads_below}
pub use Rattle.tta_hardware.specs.Chains.{any_of, first_of}
pub use Rattle.tta_hardware.specs.Hardware.{all_fields, bus_fields, bus_wires, circuit_of, circuit_with, code_words, first_wires, load_registers, register_names, result_registers, rom, store_port, unit_registers, unit_wires, wire, wire_names, with_bits}
pub use Rattle.tta_hardware.specs.Order.{rank}
pub use Rattle.tta_hardware.specs.Parts.{shares_from}
pub use Rattle.tta_hardware.specs.Registers.{becomes, enabled, register, register_width}
pub use Rattle.tta_hardware.specs.Sized.{signal_width, store_width}
pub use Rattle.tta_hardware.specs.Signals.{Acts, Asks, Code, Controls, Data, DestOf, Due, Ends, EndsNow, Expression, Fetched, Field, Frame, Gives, Goal, GoalNow, Goes, GuardOf, HasBegun, HasHalted, IsDue, IsInside, IsOffered, IsReady, IsReset, IsShort, Keeps, Lands, LongOf, NextPc, Offer, Operand, Pc, Port, PutWord, Puts, Raw, ShortOf, SourceOf, Starts, Store, TemplateOf, Trigger, Underway, Watches, Boxes, Whole, Word}
pub use Rattle.tta_hardware.specs.Wires.{all_ops, arrivals, buses_to, hits, is_load, made_of, never, nothing}
pub use Rattle.tta_measure.specs.Cost.{free}
unfoldable pub use Rattle.tta_measure.specs.Cost.{at, behind, beside, chosen, held, plus}
pub use Rattle.tta_measure.specs.Measure.{AreDepths, cost, memory_bits, port_cost, register_cost}
pub use Rattle.tta_measure.specs.Table.{gate_depth, equal_depth, sum_depth, shift_depth, product_depth, quotient_depth, read_depth, choice_depth}
pub use Rattle.tta_measure.specs.declared.cost.Cost.{Cost}
pub use Rattle.tta_ops.specs.Set.{stated}
pub use Rattle.tta_ops.specs.Units.{Units}
