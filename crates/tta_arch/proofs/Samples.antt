-- Machines on which the definitions are computed: one of a single bus and an output unit, and two of three buses
-- with two files of words, a file of conditions, an immediate unit and four units.
use Rattle.std.specs.Prelude.{◌≡◌, ◌≤◌, ℕ, List, [], ◌∷◌, ◌++◌, Bool, true, false, length, Some, None, codes, refl}
use Rattle.std.specs.Prelude.{◌&&◌, nat_le, not}
use Rattle.std.specs.Str.{bytes_eq}
use Rattle.std.specs.List.{list_all, AllByRecursion}
use Rattle.std.proofs.lemmas.Bool.{and_parts, leb-true, not-true}
use Rattle.std.proofs.Common.{lit<, lit≤, arith}
use Rattle.tta_text.specs.Words.{is_name}
use Rattle.tta_arch.specs.Machine.{Machine}
use Rattle.tta_arch.specs.Rules.{IsMachine, HasLimits, IsMachineName, IsBusSet, names_of}
use Rattle.tta_arch.specs.Fields.{word_width, width_for, taken_width}
use Rattle.tta_arch.specs.declared.parts.Bus.{Bus}
use Rattle.tta_arch.specs.declared.parts.Socket.{Socket}
use Rattle.tta_arch.specs.declared.parts.File.{File}
use Rattle.tta_arch.specs.declared.parts.Unit.{Unit as OpUnit}
use Rattle.tta_arch.specs.declared.parts.Op.TheVariants.{Ldw, Stw, Ldf, Stf, Out, Take, Set}
use Rattle.tta_arch.specs.declared.parts.UnitOp.{UnitOp}
use Rattle.tta_arch.specs.declared.parts.Guard.{Guard}

-- whether a name passes the tests of names that a machine declares
abbrev is_good_name : List ℕ → Bool
is_good_name name = is_name name && (nat_le (length name) 64 && not (bytes_eq name (codes "gcu")))

-- names that pass the tests of names are good ones
pub good_names : (names : List (List ℕ)) → list_all is_good_name names ≡ true → AllByRecursion IsMachineName names
good_names [] h = tt
good_names (n ∷ ns) h =
    let parts = and_parts (is_good_name n) _ h in
    let written = and_parts (is_name n) _ parts.0 in
    let tests = and_parts (nat_le (length n) 64) (not (bytes_eq n (codes "gcu"))) written.1 in (
      record {
        written = written.0;
        short = leb-true (length n) 64 tests.0;
        free = not-true (bytes_eq n (codes "gcu")) tests.1;
      },
      good_names ns parts.1,
    )

-- ---- one bus

-- a machine of one bus and a unit that outputs words, without registers
abbrev pub one_bus : Machine
one_bus = record {
  buses = record { name = codes "B"; short = 8; signed = false } ∷ [];
  sockets = record { name = codes "I"; input = true; buses = 1 } ∷ [];
  files = [];
  imms = [];
  units = record { name = codes "OUT"; operand = None; trigger = 0; result = None; ops = record { op = Out; arity = 1; latency = 0 } ∷ [] } ∷ [];
  guards = [];
  templates = [];
  control = record { delay = 0; address = 8; trigger = 0; ra = None };
  data_words = 0;
  frame_words = 0;
}

one_bus-width : word_width one_bus ≡ 12
unfolding width_for
one_bus-width = refl

one_bus-is_machine : IsMachine one_bus
one_bus-is_machine =
    let limits : HasLimits one_bus = omega arith in
    let in_set : IsBusSet 1 1 = (lit< tt, lit< tt) in
    assumption (good_names (names_of one_bus) refl)

-- ---- three buses

-- a bus of the machine of three buses, by its name: with signed short immediates of 8 bits
abbrev bus : List ℕ → Bus
bus name = record { name = name; short = 8; signed = true }

-- a socket that joins all three buses, by its name and direction
abbrev socket : List ℕ → Bool → Socket
socket name input = record { name = name; input = input; buses = 7 }

-- a register file between the sockets of registers, RO and RI
abbrev file : List ℕ → (width size read write : ℕ) → File
file name width size read write = record { name = name; width = width; size = size; read = read; write = write; out = 1; into = 0 }

-- an operation of the set of units, by its number, its number of words and its latency
abbrev set : ℕ → ℕ → ℕ → UnitOp
set id arity latency = record { op = Set (record { 0 = id }); arity = arity; latency = latency }

-- a unit with an operand, a trigger and a result port, joined to the sockets of units, UI and UO
abbrev unit : List ℕ → List UnitOp → OpUnit
unit name ops = record { name = name; operand = Some 2; trigger = 2; result = Some 3; ops = ops }

-- a guard of a bus on the first condition, plain or inverted
abbrev guard : ℕ → Bool → Guard
guard b inverted = record { bus = b; on = record { file = 2; index = 0; inverted = inverted } }

-- The units of arithmetic and memory of a machine of three buses. The operations are numbered as the five standard units offer them: add 0, sub 1, mul 2, and 5, or 6, xor 7, not 8,
-- shl 9, shr 10, shru 11, eq 12, lt 14, ltu 16
abbrev inner_units : List OpUnit
inner_units =
    unit (codes "ALU") (set 0 2 1 ∷ set 1 2 1 ∷ set 5 2 1 ∷ set 6 2 1 ∷ set 7 2 1 ∷ set 8 1 1 ∷ set 9 2 1 ∷ set 10 2 1 ∷ set 11 2 1 ∷ set 12 2 1 ∷ set 14 2 1 ∷ set 16 2 1 ∷ [])
    ∷ unit (codes "MUL") (set 2 2 3 ∷ set 0 2 1 ∷ [])
    ∷ unit (codes "LSU") (record { op = Ldw; arity = 1; latency = 2 } ∷ record { op = Stw; arity = 2; latency = 0 } ∷ record { op = Ldf; arity = 1; latency = 2 } ∷ record { op = Stf; arity = 2; latency = 0 } ∷ [])
    ∷ []

-- the operation that puts a word out
abbrev puts_out : UnitOp
puts_out = record { op = Out; arity = 1; latency = 0 }

-- the machine whose fourth unit outputs words
abbrev pub three_buses : Machine
three_buses = record {
  buses = bus (codes "B0") ∷ bus (codes "B1") ∷ bus (codes "B2") ∷ [];
  sockets = socket (codes "RI") true ∷ socket (codes "RO") false ∷ socket (codes "UI") true ∷ socket (codes "UO") false ∷ [];
  files = file (codes "R") 32 8 2 2 ∷ file (codes "S") 32 8 1 1 ∷ file (codes "G") 1 2 1 1 ∷ [];
  imms = record { name = codes "I"; size = 1; out = 1 } ∷ [];
  units = inner_units ++ record { name = codes "IO"; operand = None; trigger = 2; result = None; ops = puts_out ∷ [] } ∷ [];
  guards = guard 0 false ∷ guard 0 true ∷ guard 1 false ∷ guard 1 true ∷ [];
  templates = record { name = codes "L"; imm = 0; reg = 0; buses = 6 } ∷ [];
  control = record { delay = 2; address = 12; trigger = 2; ra = Some 3 };
  data_words = 1024;
  frame_words = 64;
}

three_buses-width : word_width three_buses ≡ 50
unfolding width_for
three_buses-width = refl

three_buses-is_machine : IsMachine three_buses
unfolding width_for
three_buses-is_machine =
    let limits : HasLimits three_buses = omega arith in
    let in_set : IsBusSet 3 7 = (lit< tt, lit< tt) in
    let template_in_set : IsBusSet 3 6 = (lit< tt, lit< tt) in
    let wide : 32 ≤ taken_width three_buses 6 = lit≤ tt in
    assumption (good_names (names_of three_buses) refl)

-- the same machine, whose fourth unit also takes words of the input; they show one cycle later
abbrev pub with_input : Machine
with_input = record three_buses {
  units = inner_units
      ++ record { name = codes "IO"; operand = None; trigger = 2; result = Some 3; ops = puts_out ∷ record { op = Take; arity = 1; latency = 1 } ∷ [] } ∷ [];
}

with_input-is_machine : IsMachine with_input
unfolding width_for
with_input-is_machine =
    let limits : HasLimits with_input = omega arith in
    let in_set : IsBusSet 3 7 = (lit< tt, lit< tt) in
    let template_in_set : IsBusSet 3 6 = (lit< tt, lit< tt) in
    let wide : 32 ≤ taken_width with_input 6 = lit≤ tt in
    assumption (good_names (names_of with_input) refl)
