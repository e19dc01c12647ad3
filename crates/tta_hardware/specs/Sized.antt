-- The widths of a machine's signals and memories, and that its circuit keeps them and is plain.
use Rattle.std.specs.Prelude.{◌≡◌, ℕ, ◌<◌, Bool, true, List, length, map}
use Rattle.tta_hardware.specs.Cited.{Machine, IsMachine, word_width, Place, Op, WritePort, is_sized, is_plain, IsPlain, is_ordered, IsClosed, signals_of}
use Rattle.tta_circuit.specs.Widths.{width_of}
use Rattle.tta_circuit.specs.Closed.{are_apart}
use Rattle.tta_code.specs.declared.code.Code.{Code as Program}
use Rattle.tta_hardware.specs.Signals.{Field, Store, Code, Data, Frame, Signal as Named, Pc, HasHalted, Underway, Goal, Ends, Keeps, IsDue, Due, HasBegun, Raw, IsInside, Port, IsOffered, Offer, IsReady, IsReset, Whole, Word, Acts, Starts, Trigger, Operand, Controls, GoalNow, EndsNow, Lands, Asks, Gives, Goes, NextPc, Puts, PutWord, Expression, same_signal, same_store}
use Rattle.tta_hardware.specs.Wires.{made_of, fetched}
use Rattle.tta_hardware.specs.Registers.{register_width, becomes, enabled}
use Rattle.tta_hardware.specs.Fields.{field_width}
use Rattle.tta_hardware.specs.Hardware.{wire_width, store_port, circuit_of}
use Rattle.tta_hardware.specs.Order.{rank}
use Rattle.tta_hardware.specs.Stands.{has_field}

-- how wide a signal is
abbrev pub signal_width : Machine → Named → ℕ
signal_width m Pc = register_width m Pc
signal_width m HasHalted = 1
signal_width m (Underway delay) = 1
signal_width m Goal = 32
signal_width m Ends = 1
signal_width m (Keeps p) = register_width m (Keeps p)
signal_width m (IsDue unit delay) = 1
signal_width m (Due unit delay) = 32
signal_width m (Raw unit op) = 32
signal_width m IsOffered = 1
signal_width m Offer = 32
signal_width m IsReady = 1
signal_width m IsReset = 1
signal_width m Whole = register_width m Whole
signal_width m n = wire_width m n

-- how wide the words of a memory are
abbrev pub store_width : Machine → Store → ℕ
store_width m Code = word_width m
store_width m Data = 32
store_width m Frame = 32

-- An expression keeps all widths, has this one, and is plain.
pub record Fits (m : Machine) (e : Expression) (width : ℕ) : Type 0 where
  pub plain : is_plain (signal_width m) (store_width m) e ≡ true
  pub sized : is_sized (signal_width m) (store_width m) e ≡ true
  pub wide : width_of (signal_width m) (store_width m) e ≡ width

-- All wires but the fields of the instruction and the address of the next have the widths that they are declared with, and are plain.
pub record WiresFit (m : Machine) : Type 0 where
  pub port : (unit : ℕ) → Fits m (made_of m (Port unit)) 32
  pub word : (bus : ℕ) → bus < length m.buses → Fits m (made_of m (Word bus)) 32
  pub acts : (bus : ℕ) → Fits m (made_of m (Acts bus)) 1
  pub starts : (unit op : ℕ) → Fits m (made_of m (Starts unit op)) 1
  pub trigger : (unit : ℕ) → Fits m (made_of m (Trigger unit)) 32
  pub operand : (unit : ℕ) → Fits m (made_of m (Operand unit)) 32
  pub controls : Fits m (made_of m Controls) 1
  pub goal : Fits m (made_of m GoalNow) 32
  pub ends : Fits m (made_of m EndsNow) 1
  pub lands : Fits m (made_of m Lands) 1
  pub asks : Fits m (made_of m Asks) 1
  pub gives : Fits m (made_of m Gives) 1
  pub goes : Fits m (made_of m Goes) 1
  pub puts : Fits m (made_of m Puts) 1
  pub put_word : Fits m (made_of m PutWord) 32

abbrev pub WiresAreSized : Type 0
WiresAreSized = (m : Machine) → IsMachine m → WiresFit m

-- A write port keeps all widths: a test, an address of 32 bits, and a word.
pub record PortFits (m : Machine) (p : WritePort Named Store) : Type 0 where
  pub enable : Fits m p.enable 1
  pub address : Fits m p.address 32
  pub word : Fits m p.word 32

-- What each register becomes has its width, the tests that let it take it and the address of the next instruction have theirs, and the
-- spaces are written with words of 32 bits; and all of them are plain.
pub record RegistersFit (m : Machine) : Type 0 where
  pub enables : (n : Named) → Fits m (enabled n) 1
  pub next_pc : Fits m (made_of m NextPc) m.control.address
  pub pc : Fits m (becomes m Pc) m.control.address
  pub whole : Fits m (becomes m Whole) (word_width m)
  pub halted : Fits m (becomes m HasHalted) 1
  pub underway : (delay : ℕ) → Fits m (becomes m (Underway delay)) 1
  pub goal : Fits m (becomes m Goal) 32
  pub ends : Fits m (becomes m Ends) 1
  pub places : (p : Place) → Fits m (becomes m (Keeps p)) (signal_width m (Keeps p))
  pub is_due : (unit delay : ℕ) → Fits m (becomes m (IsDue unit delay)) 1
  pub due : (unit delay : ℕ) → Fits m (becomes m (Due unit delay)) 32
  pub begun : (unit op : ℕ) → Fits m (becomes m (HasBegun unit op)) 1
  pub raw : (unit op : ℕ) → Fits m (becomes m (Raw unit op)) 32
  pub inside : (unit op : ℕ) → Fits m (becomes m (IsInside unit op)) 1
  pub stores : (test : Op → Bool) → PortFits m (store_port m m.data_words test)
  pub frame_stores : (test : Op → Bool) → PortFits m (store_port m m.frame_words test)

abbrev pub RegistersAreSized : Type 0
RegistersAreSized = (m : Machine) → IsMachine m → RegistersFit m

-- The fields of the instruction have the widths that they are declared with, and are plain.
abbrev pub FieldsAreSized : Type 0
FieldsAreSized =
    (m : Machine) → IsMachine m → (f : Field) → has_field m f ≡ true → Fits m (fetched m f) (field_width m f)

-- Of every machine with code, all wires, registers and ports are plain and sized, and each wire reads only what stands before it.
abbrev pub CircuitIsPlain : Type 0
CircuitIsPlain =
    (m : Machine) (code : Program) (memory : List ℕ) → IsMachine m
    → IsPlain (signal_width m) (store_width m) (circuit_of m code memory)
    × (is_ordered rank 1 (circuit_of m code memory).wires ≡ true)

-- Every expression of it reads only signals that the circuit has.
abbrev pub CircuitIsClosed : Type 0
CircuitIsClosed = (m : Machine) (code : Program) (memory : List ℕ) → IsMachine m → IsClosed same_signal (circuit_of m code memory)

-- No two signals of it have one name, and neither have two memories.
abbrev pub NamesDiffer : Type 0
NamesDiffer =
    (m : Machine) (code : Program) (memory : List ℕ) → (are_apart same_signal (signals_of (circuit_of m code memory)) ≡ true)
    × (are_apart same_store (map (λ x. x.name) (circuit_of m code memory).memories) ≡ true)
