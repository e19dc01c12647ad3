-- A machine with its code as a circuit.
use Rattle.std.specs.Prelude.{ℕ, ◌-◌, Bool, nat_lt, List, [], ◌∷◌, ◌++◌, length, map, replicate, None, Some, if◌then◌else◌}
use Rattle.std.specs.List.{flat_map, enumerate_from, range_with_len}
use Rattle.tta_hardware.specs.Cited.{Const, Signal, Both, Below, Wire, WritePort, Memory, Circuit, UnitOp, Op, Stw, Stf, Machine, same_op, KeptReg, KeptImm, KeptOperand, KeptRa, KeptPort, numbers, guard_width, dest_width, template_width, word_width}
use Rattle.tta_arch.specs.declared.parts.Unit.{Unit as OpUnit}
use Rattle.tta_code.specs.declared.code.Code.{Code as Program}
use Rattle.tta_hardware.specs.Signals.{Field, GuardOf, IsShort, SourceOf, ShortOf, DestOf, TemplateOf, LongOf, Store, Code, Data, Frame, Signal as Named, Pc, HasHalted, Underway, Goal, Ends, Keeps, IsDue, Due, HasBegun, Raw, IsInside, Port, IsOffered, Offer, IsReady, IsReset, Whole, Fetched, Word, Acts, Starts, Trigger, Operand, Controls, GoalNow, EndsNow, Lands, Asks, Gives, Goes, NextPc, Puts, PutWord}
use Rattle.tta_hardware.specs.Fields.{word_of, field_width}
use Rattle.tta_hardware.specs.Wires.{made_of, is_load, some_start, word_of_start, longest}
use Rattle.tta_hardware.specs.Registers.{register}

-- ---- which signals there are

-- a field, if it has bits
abbrev pub with_bits : (width : ℕ) → Field → List Field
with_bits width f = if nat_lt 0 width then f ∷ [] else []

-- the fields of a bus
abbrev pub bus_fields : Machine → ℕ → List Field
bus_fields m bus =
    with_bits (guard_width m bus) (GuardOf bus) ++ IsShort bus ∷ SourceOf bus ∷ ShortOf bus ∷ with_bits (dest_width m bus) (DestOf bus)

-- the fields of an instruction: none that has no bits, as that of the template where there are none
abbrev pub all_fields : Machine → List Field
all_fields m = flat_map (bus_fields m) (numbers (length m.buses)) ++ with_bits (template_width m) TemplateOf ++ LongOf ∷ []

-- the wires of a bus
abbrev pub bus_wires : ℕ → List Named
bus_wires bus = Acts bus ∷ Word bus ∷ []

-- the wires of a unit
abbrev pub unit_wires : ℕ × OpUnit → List Named
unit_wires u = map (Starts u.0) (numbers (length u.1.ops)) ++ Trigger u.0 ∷ Operand u.0 ∷ []

-- the wires that read registers alone, or the instruction's word
abbrev pub first_wires : Machine → List Named
first_wires m = map Fetched (all_fields m) ++ map Port (numbers (length m.units))

-- all wires, in an order in which each reads only registers, inputs and wires before it
abbrev pub wire_names : Machine → List Named
wire_names m =
    first_wires m ++ flat_map bus_wires (numbers (length m.buses)) ++ flat_map unit_wires (enumerate_from 0 m.units)
    ++ Controls ∷ GoalNow ∷ EndsNow ∷ Lands ∷ Asks ∷ Gives ∷ Goes ∷ NextPc ∷ Puts ∷ PutWord ∷ []

-- the registers of a unit's ports and results: its operand port, its result port, and the results that are due later than in the
-- next cycle
abbrev pub result_registers : Machine → (unit : ℕ) → List Named
result_registers m unit =
    Keeps (KeptOperand unit) ∷ Keeps (KeptPort unit) ∷ map (IsDue unit) (range_with_len 1 (longest m unit - 1))
    ++ map (Due unit) (range_with_len 1 (longest m unit - 1))

-- the registers of a load
abbrev pub load_registers : (unit : ℕ) → ℕ × UnitOp → List Named
load_registers unit o = if is_load o.1.op then HasBegun unit o.0 ∷ Raw unit o.0 ∷ IsInside unit o.0 ∷ [] else []

-- the registers of a unit
abbrev pub unit_registers : Machine → ℕ × OpUnit → List Named
unit_registers m u = result_registers m u.0 ++ flat_map (load_registers u.0) (enumerate_from 0 u.1.ops)

-- all registers
abbrev pub register_names : Machine → List Named
register_names m =
    flat_map (λ f. map (λ index. Keeps (KeptReg f.0 index)) (numbers f.1.size)) (enumerate_from 0 m.files)
    ++ flat_map (λ i. map (λ index. Keeps (KeptImm i.0 index)) (numbers i.1.size)) (enumerate_from 0 m.imms)
    ++ flat_map (unit_registers m) (enumerate_from 0 m.units)
    ++ map Underway (range_with_len 1 m.control.delay)
    ++ Keeps KeptRa ∷ Pc ∷ Whole ∷ HasHalted ∷ Goal ∷ Ends ∷ []

-- ---- their definitions

-- how wide a wire is
abbrev pub wire_width : Machine → Named → ℕ
wire_width m NextPc = m.control.address
wire_width m (Fetched f) = field_width m f
wire_width m (Word bus) = 32
wire_width m (Port unit) = 32
wire_width m (Trigger unit) = 32
wire_width m (Operand unit) = 32
wire_width m GoalNow = 32
wire_width m PutWord = 32
wire_width m n = 1

-- a wire
abbrev pub wire : Machine → Named → Wire Named Store
wire m n = record { name = n; width = wire_width m n; word = made_of m n }

-- the words of code: the bits of each instruction as a number
abbrev pub code_words : Machine → Program → List ℕ
code_words m code = map (word_of m) code.words

-- a memory of code, which nothing writes
abbrev pub rom : Machine → (words : List ℕ) → Memory Named Store
rom m words = record { name = Code; width = word_width m; words = words; port = None }

-- the code's memory
abbrev pub code_memory : Machine → Program → Memory Named Store
code_memory m code = rom m (code_words m code)

-- Where a space is written: by the unit that stores, at the address in its operand port, and never past its end.
abbrev pub store_port : Machine → (size : ℕ) → (Op → Bool) → WritePort Named Store
store_port m size test =
    let address = word_of_start m test (λ unit. Signal (Operand unit)) in
    record {
      enable = Both (Signal Goes) (Both (some_start m test) (Below address (Const 32 size)));
      address = address;
      word = word_of_start m test (λ unit. Signal (Trigger unit));
    }

-- A machine as a circuit, whose memory of code has these words, and whose data space begins with these.
abbrev pub circuit_with : Machine → (words memory : List ℕ) → Circuit Named Store
circuit_with m words memory = record {
  inputs = (IsOffered, 1) ∷ (Offer, 32) ∷ (IsReady, 1) ∷ (IsReset, 1) ∷ [];
  wires = map (wire m) (wire_names m);
  registers = map (register m) (register_names m);
  memories =
      rom m words
      ∷ record { name = Data; width = 32; words = memory; port = Some (store_port m m.data_words (same_op Stw)) }
      ∷ record { name = Frame; width = 32; words = replicate m.frame_words 0; port = Some (store_port m m.frame_words (same_op Stf)) } ∷ [];
  outputs = HasHalted ∷ Asks ∷ Gives ∷ Goes ∷ Puts ∷ PutWord ∷ [];
}

-- A machine with code as a circuit, whose data space begins with these words.
abbrev pub circuit_of : Machine → Program → (memory : List ℕ) → Circuit Named Store
circuit_of m code memory = circuit_with m (code_words m code) memory
