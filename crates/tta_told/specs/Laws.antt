-- The text of a machine with its code as a circuit is that of one circuit.
use Rattle.std.specs.Prelude.{◌≡◌, ℕ, ◌^◌, ◌<◌, Bool, true, List, length, map}
use Rattle.std.specs.List.{AllByRecursion}
use Rattle.tta_ops.specs.Units.{Units}
use Rattle.tta_arch.specs.Machine.{Machine}
use Rattle.tta_arch.specs.Rules.{IsMachine}
use Rattle.tta_arch.specs.Over.{StandsOver}
use Rattle.tta_code.specs.declared.code.Code.{Code}
use Rattle.tta_code.specs.Legal.{IsLegalCode}
use Rattle.tta_hardware.specs.Hardware.{circuit_of}
use Rattle.tta_trap.specs.Trap.{trap_circuit}
use Rattle.tta_boxed.specs.Boxed.{box_inputs, boxed}
use Rattle.tta_boxed.specs.Theorem.{whole}
use Rattle.tta_verilog.specs.Circuits.{parts_text, parts_beside}
use Rattle.tta_verilog.specs.Laws.{begins_apart, begins_behind}
use Rattle.tta_names.specs.Names.{names_of}

-- A machine over some units with code that it can carry out, and with the words that its data space begins with.
pub record IsProgrammed (u : Units) (m : Machine) (code : Code) (memory : List ℕ) : Type 0 where
  pub rules : IsMachine m
  pub over : StandsOver u m
  pub legal : IsLegalCode m code
  pub many : length memory ≡ m.data_words
  pub words : AllByRecursion (λ w. w < 2 ^ 32) memory

-- Two machines whose buses, files, immediate units and units are called alike.
pub record AreCalledAlike (m n : Machine) : Type 0 where
  pub buses : map (λ b. b.name) m.buses ≡ map (λ b. b.name) n.buses
  pub files : map (λ f. f.name) m.files ≡ map (λ f. f.name) n.files
  pub imms : map (λ i. i.name) m.imms ≡ map (λ i. i.name) n.imms
  pub units : map (λ u. u.name) m.units ≡ map (λ u. u.name) n.units

-- Of machines that are called alike, the text of the parts, with these functions of operations, is that of at most one circuit: it tells all
-- wires and registers, the words of the code, and those that the data space begins with.
abbrev pub OneText : Type 0
OneText =
    (u : Units) (m n : Machine) (code other : Code) (memory other_memory : List ℕ) (functions : List ℕ)
    → IsProgrammed u m code memory → IsProgrammed u n other other_memory → AreCalledAlike m n → begins_apart functions ≡ true
    → parts_text (names_of m) functions (circuit_of m code memory) ≡ parts_text (names_of n) functions (circuit_of n other other_memory)
    → circuit_of m code memory ≡ circuit_of n other other_memory

-- The same of circuits that tell the first fault.
abbrev pub OneTrapText : Type 0
OneTrapText =
    (u : Units) (m n : Machine) (code other : Code) (memory other_memory : List ℕ) (functions : List ℕ)
    → IsProgrammed u m code memory → IsProgrammed u n other other_memory → AreCalledAlike m n → begins_apart functions ≡ true
    → parts_text (names_of m) functions (trap_circuit m code memory)
    ≡ parts_text (names_of n) functions (trap_circuit n other other_memory)
    → trap_circuit m code memory ≡ trap_circuit n other other_memory

-- The same of circuits that leave operations to modules, and either both tell faults or both do not: the text, with these functions and
-- these modules, tells also which operations are left, for it declares what the module of each shows.
abbrev pub OneBoxedText : Type 0
OneBoxedText =
    (u : Units) (m n : Machine) (leaves others : ℕ → Bool) (faults : Bool) (code other : Code) (memory other_memory : List ℕ)
    (functions modules : List ℕ)
    → IsProgrammed u m code memory → IsProgrammed u n other other_memory → AreCalledAlike m n
    → begins_apart functions ≡ true → begins_behind modules ≡ true
    → parts_beside (names_of m) functions (box_inputs m leaves) modules (boxed m leaves (whole faults m code memory))
    ≡ parts_beside (names_of n) functions (box_inputs n others) modules (boxed n others (whole faults n other other_memory))
    → boxed m leaves (whole faults m code memory) ≡ boxed n others (whole faults n other other_memory)
