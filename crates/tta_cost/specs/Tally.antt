-- What the parts of a machine's circuit are made of.
use Rattle.std.specs.Prelude.{ℕ, List, [], ◌∷◌, map, Option, None, Some, slice_index}
use Rattle.tta_cost.specs.Cited.{Machine, Store, wire, register, Wire, Register, Memory, WritePort, Circuit, KeptReg, KeptImm, KeptOperand, KeptPort, signal_width, store_width, Cost, free, beside, register_cost, port_cost, Whole, Keeps, IsDue, Due, HasBegun, Raw, IsInside, Port, Fetched, Word, Acts, Starts, Trigger, Operand}
use Rattle.tta_hardware.specs.Signals.{Signal as Named}
use Rattle.tta_cost.specs.Depths.{depth_of, cost_of}
use Rattle.tta_cost.specs.declared.parts.Part.{Part}
use Rattle.tta_cost.specs.declared.parts.Part.TheVariants as part
use Rattle.tta_cost.specs.declared.parts.Parts.{Parts}

-- The part to which a signal belongs. The instruction's are its word and its fields; the buses' are what they carry; the files' and the
-- immediate units' are their registers; those of operands bring words to units and start operations; those of results keep what comes of
-- them; and all others are control's.
abbrev pub part_of : Named → Part
part_of Whole = part.Instruction
part_of (Fetched f) = part.Instruction
part_of (Word bus) = part.Buses
part_of (Acts bus) = part.Buses
part_of (Keeps (KeptReg file index)) = part.Files
part_of (Keeps (KeptImm unit index)) = part.Immediates
part_of (Keeps (KeptOperand unit)) = part.Operands
part_of (Starts unit op) = part.Operands
part_of (Trigger unit) = part.Operands
part_of (Operand unit) = part.Operands
part_of (Keeps (KeptPort unit)) = part.Results
part_of (Port unit) = part.Results
part_of (IsDue unit delay) = part.Results
part_of (Due unit delay) = part.Results
part_of (HasBegun unit op) = part.Results
part_of (Raw unit op) = part.Results
part_of (IsInside unit op) = part.Results
part_of n = part.Control

-- nothing of any part
abbrev pub no_parts : Parts
no_parts = record {
  instruction = free;
  buses = free;
  files = free;
  immediates = free;
  operands = free;
  results = free;
  control = free;
  spaces = free;
}

-- the parts with something more of one of them
unfoldable pub put : Part → Cost → Parts → Parts
put part.Instruction c t = record {
  instruction = beside t.instruction c;
  buses = t.buses;
  files = t.files;
  immediates = t.immediates;
  operands = t.operands;
  results = t.results;
  control = t.control;
  spaces = t.spaces;
}
put part.Buses c t = record {
  instruction = t.instruction;
  buses = beside t.buses c;
  files = t.files;
  immediates = t.immediates;
  operands = t.operands;
  results = t.results;
  control = t.control;
  spaces = t.spaces;
}
put part.Files c t = record {
  instruction = t.instruction;
  buses = t.buses;
  files = beside t.files c;
  immediates = t.immediates;
  operands = t.operands;
  results = t.results;
  control = t.control;
  spaces = t.spaces;
}
put part.Immediates c t = record {
  instruction = t.instruction;
  buses = t.buses;
  files = t.files;
  immediates = beside t.immediates c;
  operands = t.operands;
  results = t.results;
  control = t.control;
  spaces = t.spaces;
}
put part.Operands c t = record {
  instruction = t.instruction;
  buses = t.buses;
  files = t.files;
  immediates = t.immediates;
  operands = beside t.operands c;
  results = t.results;
  control = t.control;
  spaces = t.spaces;
}
put part.Results c t = record {
  instruction = t.instruction;
  buses = t.buses;
  files = t.files;
  immediates = t.immediates;
  operands = t.operands;
  results = beside t.results c;
  control = t.control;
  spaces = t.spaces;
}
put part.Control c t = record {
  instruction = t.instruction;
  buses = t.buses;
  files = t.files;
  immediates = t.immediates;
  operands = t.operands;
  results = t.results;
  control = beside t.control c;
  spaces = t.spaces;
}
put part.Spaces c t = record {
  instruction = t.instruction;
  buses = t.buses;
  files = t.files;
  immediates = t.immediates;
  operands = t.operands;
  results = t.results;
  control = t.control;
  spaces = beside t.spaces c;
}

-- all parts together
unfoldable pub all_parts : Parts → Cost
all_parts t =
    beside t.instruction (beside t.buses (beside t.files (beside t.immediates
    (beside t.operands (beside t.results (beside t.control t.spaces))))))

module _ (applied : List ℕ) (m : Machine) where
  -- parts with some wires more
  abbrev pub with_wires : List (Wire Named Store) → Parts → Parts
  with_wires [] t = t
  with_wires (w ∷ ws) t = with_wires ws (put (part_of w.name) (cost_of applied m w.word) t)

  -- the cost of a register
  abbrev pub cost_of_register : Register Named Store → Cost
  cost_of_register r = register_cost (signal_width m) (store_width m) (depth_of applied m) (slice_index applied) r

  -- parts with some registers more
  abbrev pub with_registers : List (Register Named Store) → Parts → Parts
  with_registers [] t = t
  with_registers (r ∷ rs) t = with_registers rs (put (part_of r.name) (cost_of_register r) t)

  -- the cost of where a memory is written
  abbrev pub cost_of_port : WritePort Named Store → Cost
  cost_of_port p = port_cost (signal_width m) (store_width m) (depth_of applied m) (slice_index applied) p

  -- parts with a port of a memory more, if it has one
  abbrev pub with_port : Option (WritePort Named Store) → Parts → Parts
  with_port None t = t
  with_port (Some p) t = put part.Spaces (cost_of_port p) t

  -- parts with those of some memories more
  abbrev pub with_ports : List (Memory Named Store) → Parts → Parts
  with_ports [] t = t
  with_ports (x ∷ xs) t = with_ports xs (with_port x.port t)

  -- the parts of a circuit
  abbrev pub parts_of : Circuit Named Store → Parts
  parts_of c = with_ports c.memories (with_registers c.registers (with_wires c.wires no_parts))

  -- the same of wires and registers by their names
  abbrev pub wires_put : List Named → Parts → Parts
  wires_put ns t = with_wires (map (wire m) ns) t

  abbrev pub registers_put : List Named → Parts → Parts
  registers_put ns t = with_registers (map (register m) ns) t
