-- The text of what a circuit has more that tells the first fault.
use Rattle.std.specs.Prelude.{ℕ, ◌-◌, ◌^◌, ◌==◌, ◌&&◌, Bool, true, List, [], ◌∷◌, ◌++◌, codes, length, map, filter}
use Rattle.std.specs.List.{flat_map, enumerate_from}
use Rattle.tta_trap_rtl.specs.Cited.{KeptImm, KeptOperand, KeptPort, KeptRa, KeptReg, numbers, Machine, Source, File, ImmUnit, Template, Const, Either, Equal, Not, Select, Signal, any_of, register_names, Clashes, Expression, FaultNow, Fetched, Goes, HasWord, IsReset, LacksOperand, LacksPort, LacksRegister, LongOf, NextPc, Pc, PutWord, Puts, Starts, Watch, Watches, never, ops_of, reached, names_of, text_of, watch_name, has_template, choice_start, register_line, registers_text, wires_text, watch_next, watch_register, watch_registers, trap_made, trap_wire, fault_now, is_outside, jumps_again, port_lacks, register_lacks, watch_made, register_text, wire_text, wire_line, constant}
use Rattle.tta_arch.specs.declared.ends.Dest.TheVariants as dest
use Rattle.tta_hardware.specs.Signals.{Signal as Named}
use Rattle.tta_trap_rtl.specs.declared.reads.Lack.{Lack}
use Rattle.tta_trap_rtl.specs.declared.reads.Lack.TheVariants as lack
use Rattle.tta_trap_rtl.specs.declared.findings.Finding.{Finding}
use Rattle.tta_trap_rtl.specs.declared.findings.Finding.TheVariants as finding
use Rattle.tta_trap_rtl.specs.declared.fault.Case.{Case}
use Rattle.tta_trap_rtl.specs.declared.fault.Case.TheVariants as case

-- ---- what is lacked and found

-- whether a source lacks a word
abbrev pub lack_of : Lack → Source → Expression
lack_of lack.Register src = register_lacks src
lack_of lack.Port src = port_lacks src

-- the wire of a bus that tells it
abbrev pub lack_at : Lack → (bus : ℕ) → Watch
lack_at lack.Register bus = LacksRegister bus
lack_at lack.Port bus = LacksPort bus

-- the wire of a unit that tells what its operations find
abbrev pub finding_at : Finding → (unit : ℕ) → Watch
finding_at finding.Operand unit = LacksOperand unit
finding_at finding.Clash unit = Clashes unit

-- whether an operation of two words starts in a unit
abbrev pub two_start : Machine → (unit : ℕ) → Expression
two_start m unit = any_of (map (λ o. Signal (Starts unit o.0)) (filter (λ o. o.1.arity == 2) (ops_of m unit)))

-- whether its operand port has had no word and gets none
abbrev pub no_operand : Machine → (unit : ℕ) → Expression
no_operand m unit = Not (Either (reached m (dest.Operand unit)) (Signal (Watches (HasWord (KeptOperand unit)))))

-- ---- faults

-- whether a cause of a fault is there, with code of so many instructions
abbrev pub case_test : Machine → (count : ℕ) → Case → Expression
case_test m count case.Outside = is_outside m count
case_test m count (case.Lacks l) = any_of (map (λ bus. Signal (Watches (lack_at l bus))) (numbers (length m.buses)))
case_test m count (case.Finds f) = any_of (map (λ unit. Signal (Watches (finding_at f unit))) (numbers (length m.units)))
case_test m count case.Jumps = jumps_again m

-- the number of its fault
abbrev pub case_number : Case → ℕ
case_number case.Outside = 65
case_number (case.Lacks lack.Register) = 60
case_number (case.Lacks lack.Port) = 61
case_number (case.Finds finding.Operand) = 62
case_number (case.Finds finding.Clash) = 63
case_number case.Jumps = 64

-- that number, after the test whether the cause is there
unfoldable pub case_text : Machine → (count : ℕ) → Case → List ℕ
case_text m count x = choice_start (text_of m (case_test m count x)) (constant 7 (case_number x))

-- ---- wires

-- wires by their names, with code of so many instructions
abbrev pub trap_wires_text : Machine → (count : ℕ) → List Named → List ℕ
trap_wires_text m count ns = flat_map (wire_text (names_of m)) (map (trap_wire m count) ns)

-- what a wire of a bus or a unit is made of, which is the same for code of any length
abbrev pub made : Machine → Watch → Expression
made m w = watch_made m 0 w

-- such a wire
unfoldable pub bit_text : Machine → Watch → List ℕ
bit_text m w = wire_line (watch_name m w) 1 (text_of m (made m w))

-- those of a bus, and those of a unit
unfoldable pub bus_text : Machine → (bus : ℕ) → List ℕ
bus_text m bus = bit_text m (LacksRegister bus) ++ bit_text m (LacksPort bus)

unfoldable pub unit_text : Machine → (unit : ℕ) → List ℕ
unit_text m unit = bit_text m (LacksOperand unit) ++ bit_text m (Clashes unit)

-- the wire of the number of the fault that the next cycle meets
unfoldable pub fault_text : Machine → (count : ℕ) → List ℕ
fault_text m count = wire_line (watch_name m FaultNow) 7 (text_of m (fault_now m count))

-- the wire that says whether this clock carries the instruction out
unfoldable pub goes_text : Machine → List ℕ
goes_text m = wire_line (codes "n_goes") 1 (text_of m (trap_made m 0 Goes))

-- that and the wires after it
abbrev pub late_text : Machine → List ℕ
late_text m = goes_text m ++ wires_text m (NextPc ∷ Puts ∷ PutWord ∷ [])

-- ---- registers

-- the long immediates that go to a register, each after the test whether the instruction has its template, of these templates
abbrev pub longs_of : Machine → (unit index : ℕ) → List (ℕ × Template) → List (Expression × Expression)
longs_of m unit index ts =
    map (λ t. (has_template m t.0, Signal (Fetched LongOf))) (filter (λ t. t.1.imm == unit && t.1.reg == index) ts)

-- whether the address is the greatest that has the width of addresses
abbrev pub is_at_end : Machine → Expression
is_at_end m = Equal (Signal Pc) (Const m.control.address (2 ^ m.control.address - 1))

-- what a register becomes at a clock that begins anew or carries an instruction out
abbrev pub watch_becomes : Machine → Watch → Expression
watch_becomes m w = Select (Signal IsReset) never (watch_next m w)

-- the line of a register
unfoldable pub watch_line : Machine → (declares : Bool) → Watch → List ℕ
watch_line m declares w = register_line declares 1 true (watch_name m w) (text_of m (watch_becomes m w))

-- the lines of a register of a file and of an immediate unit, by its number
abbrev pub file_line : Machine → (declares : Bool) → (file index : ℕ) → List ℕ
file_line m declares file index = watch_line m declares (HasWord (KeptReg file index))

abbrev pub imm_line : Machine → (declares : Bool) → (unit index : ℕ) → List ℕ
imm_line m declares unit index = watch_line m declares (HasWord (KeptImm unit index))

-- those of a file, of an immediate unit, and of the ports of a unit
unfoldable pub lines_of_file : Machine → (declares : Bool) → ℕ × File → List ℕ
lines_of_file m declares f = flat_map (file_line m declares f.0) (numbers f.1.size)

unfoldable pub lines_of_imm : Machine → (declares : Bool) → ℕ × ImmUnit → List ℕ
lines_of_imm m declares i = flat_map (imm_line m declares i.0) (numbers i.1.size)

unfoldable pub lines_of_unit : Machine → (declares : Bool) → (unit : ℕ) → List ℕ
lines_of_unit m declares unit =
    watch_line m declares (HasWord (KeptOperand unit)) ++ watch_line m declares (HasWord (KeptPort unit))

-- those of all places
abbrev pub places_lines : Machine → (declares : Bool) → List ℕ
places_lines m declares =
    flat_map (lines_of_file m declares) (enumerate_from 0 m.files)
    ++ (flat_map (lines_of_imm m declares) (enumerate_from 0 m.imms)
    ++ (flat_map (lines_of_unit m declares) (numbers (length m.units)) ++ watch_line m declares (HasWord KeptRa)))

-- registers by their names
abbrev pub watches_text : Machine → (declares : Bool) → List Watch → List ℕ
watches_text m declares ws = flat_map (register_text (names_of m) declares) (map (watch_register m) ws)

-- all registers of the circuit
abbrev pub trap_registers_text : Machine → (declares : Bool) → List ℕ
trap_registers_text m declares =
    registers_text m declares (register_names m) ++ watches_text m declares (watch_registers m)
