-- Which signals of a machine a dump tells.
use Rattle.std.specs.Prelude.{ℕ, ◌==◌, Bool, not, List, [], ◌∷◌, ◌++◌, map, length}
use Rattle.std.specs.List.{flat_map, enumerate_from, range_with_len}
use Rattle.tta_waves.specs.Cited.{Bus, File, ImmUnit, Machine, KeptReg, KeptImm, KeptOperand, KeptRa, width_of, Pc, Keeps, Port, Word}
use Rattle.tta_arch.specs.declared.parts.Unit.{Unit as OpUnit}
use Rattle.tta_hardware.specs.Signals.{Signal as Named, HasHalted, Acts as DoesAct, Starts as DoesStart}
use Rattle.tta_waves.specs.declared.signal.Signal.{Signal}
use Rattle.tta_waves.specs.declared.signal.Signal.TheVariants.{Address, Halted, Acts, Carried, Starts, Operand, Shown, Register, Immediate, ReturnAddress}

-- whether the move of a bus acts, and the word that it carries
abbrev pub bus_signals : ℕ × Bus → List Signal
bus_signals b = Acts b.0 ∷ Carried b.0 ∷ []

-- which operation of a unit starts, its operand port, and its result port
abbrev pub unit_signals : ℕ × OpUnit → List Signal
unit_signals q = map (λ op. Starts q.0 op) (range_with_len 0 (length q.1.ops)) ++ (Operand q.0 ∷ Shown q.0 ∷ [])

-- the registers of a file
abbrev pub file_signals : ℕ × File → List Signal
file_signals f = map (λ index. Register f.0 index) (range_with_len 0 f.1.size)

-- the registers of an immediate unit
abbrev pub imm_signals : ℕ × ImmUnit → List Signal
imm_signals i = map (λ index. Immediate i.0 index) (range_with_len 0 i.1.size)

-- The signals of a machine in the order in which they are declared: control, buses, units, registers, immediate registers, and the
-- return address.
abbrev pub signals_of : Machine → List Signal
signals_of m =
    Address ∷ Halted
    ∷ (flat_map bus_signals (enumerate_from 0 m.buses)
    ++ (flat_map unit_signals (enumerate_from 0 m.units)
    ++ (flat_map file_signals (enumerate_from 0 m.files)
    ++ (flat_map imm_signals (enumerate_from 0 m.imms) ++ ReturnAddress ∷ []))))

-- the same signal in the circuit of the machine, whose name it has
abbrev pub named : Signal → Named
named Address = Pc
named Halted = HasHalted
named (Acts bus) = DoesAct bus
named (Carried bus) = Word bus
named (Starts unit op) = DoesStart unit op
named (Operand unit) = Keeps (KeptOperand unit)
named (Shown unit) = Port unit
named (Register file index) = Keeps (KeptReg file index)
named (Immediate unit index) = Keeps (KeptImm unit index)
named ReturnAddress = Keeps KeptRa

-- how many bits a signal has
abbrev pub bits_of : Machine → Signal → ℕ
bits_of m Address = m.control.address
bits_of m Halted = 1
bits_of m (Acts bus) = 1
bits_of m (Carried bus) = 32
bits_of m (Starts unit op) = 1
bits_of m (Operand unit) = 32
bits_of m (Shown unit) = 32
bits_of m (Register file index) = width_of m file
bits_of m (Immediate unit index) = 32
bits_of m ReturnAddress = 32

-- whether it has more than one
abbrev pub is_wide : Machine → Signal → Bool
is_wide m signal = not (bits_of m signal == 1)
