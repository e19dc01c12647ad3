-- Instructions in the form in which they are carried out.
use Rattle.std.specs.Prelude.{◌≡◌, ℕ, ◌+◌, ◌==◌, Bool, true, false, not, ◌&&◌, List, [], ◌∷◌, ◌++◌, Option, None, Some, is_some, option_map, option_to_list, option_and_then, length, slice_get}
use Rattle.std.specs.List.{filter_map, list_any}
use Rattle.tta_sim.specs.Cited.{GuardRef, Source, Dest, Machine, IsMachine, KeptReg, KeptImm, KeptOperand, KeptRa, width_of, op_at, Move, Long, Instruction, moves_of, is_legal}
use Rattle.tta_arch.specs.declared.ends.Source.TheVariants as source
use Rattle.tta_arch.specs.declared.ends.Dest.TheVariants as dest
use Rattle.tta_sim.specs.declared.control.ControlKind.TheVariants as control_kind
use Rattle.tta_sim.specs.declared.decoded.DecodedSource.{DecodedSource}
use Rattle.tta_sim.specs.declared.decoded.DecodedSource.TheVariants as decoded
use Rattle.tta_sim.specs.declared.decoded.DecodedGuard.{DecodedGuard}
use Rattle.tta_sim.specs.declared.decoded.Reading.{Reading}
use Rattle.tta_sim.specs.declared.decoded.DecodedWrite.{DecodedWrite}
use Rattle.tta_sim.specs.declared.decoded.DecodedStart.{DecodedStart}
use Rattle.tta_sim.specs.declared.decoded.DecodedControl.{DecodedControl}
use Rattle.tta_sim.specs.declared.decoded.Line.{Line}
use Rattle.tta_sim.specs.Places.{number_of}
use Rattle.tta_sim.specs.Starts.{is_loud_op}

-- ---- what a move reads

-- a source by the number of its place
abbrev pub source_decoded : Source → DecodedSource
source_decoded (source.Reg file index) = decoded.Place (number_of (KeptReg file index))
source_decoded (source.Imm unit index) = decoded.Place (number_of (KeptImm unit index))
source_decoded (source.Shown unit) = decoded.Port unit
source_decoded source.Ra = decoded.Place (number_of KeptRa)
source_decoded (source.Value word) = decoded.Word word

-- a guard by the number of its register's place
abbrev pub guard_decoded : GuardRef → DecodedGuard
guard_decoded g = record { place = number_of (KeptReg g.file g.index); inverted = g.inverted }

-- what a move reads
abbrev pub reading_of : Move → Reading
reading_of v = record { guard = option_map guard_decoded v.guard; src = source_decoded v.src }

-- ---- what a move does

-- the write of a move to a register or an operand port; a call writes the address to come back to
abbrev pub write_decoded : Machine → (back : ℕ) → Move → Option DecodedWrite
write_decoded m back v = on v.dst where
  on : Dest → Option DecodedWrite
  on (dest.Reg file index) = Some (record { reading = reading_of v; place = number_of (KeptReg file index); narrow = width_of m file == 1 })
  on (dest.Operand unit) = Some (record { reading = reading_of v; place = number_of (KeptOperand unit); narrow = false })
  on (dest.Trigger unit op) = None
  on dest.Jump = None
  on dest.Call = Some (record { reading = record (reading_of v) { src = decoded.Word back }; place = number_of KeptRa; narrow = false })
  on dest.Halt = None

-- the start of a move to a trigger port
abbrev pub start_decoded : Machine → Move → Option DecodedStart
start_decoded m v = on v.dst where
  on : Dest → Option DecodedStart
  on (dest.Reg file index) = None
  on (dest.Operand unit) = None
  on (dest.Trigger unit op) = option_map (λ o. record { reading = reading_of v; unit = unit; does = o }) (op_at m unit op)
  on dest.Jump = None
  on dest.Call = None
  on dest.Halt = None

-- whether a move to a trigger port finds its operation
abbrev pub has_operation : Machine → Move → Bool
has_operation m v = on v.dst where
  on : Dest → Bool
  on (dest.Reg file index) = true
  on (dest.Operand unit) = true
  on (dest.Trigger unit op) = is_some (op_at m unit op)
  on dest.Jump = true
  on dest.Call = true
  on dest.Halt = true

-- a move to control's trigger port
abbrev pub control_decoded : Move → Option DecodedControl
control_decoded v = on v.dst where
  on : Dest → Option DecodedControl
  on (dest.Reg file index) = None
  on (dest.Operand unit) = None
  on (dest.Trigger unit op) = None
  on dest.Jump = Some (record { reading = reading_of v; kind = control_kind.Jump })
  on dest.Call = Some (record { reading = reading_of v; kind = control_kind.Call })
  on dest.Halt = Some (record { reading = reading_of v; kind = control_kind.Halt })

-- the write of a long immediate into the register that its template writes
abbrev pub long_decoded : Machine → Option Long → Option DecodedWrite
long_decoded m long = option_and_then (λ l.
    option_map (λ t. record { reading = record { guard = None; src = decoded.Word l.value }; place = number_of (KeptImm t.imm t.reg); narrow = false })
    (slice_get m.templates l.template)) long

-- ---- instructions

-- whether a list has no elements
abbrev pub is_nil : {A : Type 0} → List A → Bool
is_nil xs = length xs == 0

-- whether a move starts an operation that does more than show a result of words that the machine has
abbrev pub is_loud_start : DecodedStart → Bool
is_loud_start s = is_loud_op s.does.op

-- whether there are no such moves, and no control moves
abbrev pub is_pure : List DecodedStart → List DecodedControl → Bool
is_pure starts controls = not (list_any is_loud_start starts) && is_nil controls

-- an instruction, where a call in it comes back to this address
abbrev pub line_of : Machine → (back : ℕ) → Instruction → Line
line_of m back i = record {
  writes = filter_map (write_decoded m back) (moves_of i) ++ option_to_list (long_decoded m i.long);
  starts = filter_map (start_decoded m) (moves_of i);
  controls = filter_map control_decoded (moves_of i);
  pure = is_pure (filter_map (start_decoded m) (moves_of i)) (filter_map control_decoded (moves_of i));
}

-- an instruction to which what one more move does is added
abbrev pub with_move : Machine → (back : ℕ) → Line → Option Move → Line
with_move m back line slot = record line {
  writes = line.writes ++ option_to_list (option_and_then (write_decoded m back) slot);
  starts = line.starts ++ option_to_list (option_and_then (start_decoded m) slot);
  controls = line.controls ++ option_to_list (option_and_then control_decoded slot);
}

-- the instructions of some code, where a call in the first comes back to this address
abbrev pub lines_from : Machine → (back : ℕ) → List Instruction → List Line
lines_from m back [] = []
lines_from m back (i ∷ is) = line_of m back i ∷ lines_from m (back + 1) is

-- A line that a legal instruction of a machine is decoded into, where a call in it comes back to this address.
pub record IsDecoded (m : Machine) (back : ℕ) (i : Instruction) (l : Line) : Type 0 where
  pub rules : IsMachine m
  pub legal : is_legal m i ≡ true
  pub line : l ≡ line_of m back i
