-- The text of a circuit of an operation within a function: its wires are variables.
use Rattle.std.specs.Prelude.{ℕ, Bool, true, false, List, [], ◌++◌, codes, decimal}
use Rattle.std.specs.List.{flat_map}
use Rattle.tta_rtl.specs.Cited.{Wire, Names, expression, range, Worked, OpPort, First, Second, Inner}

-- ---- what circuits are called

-- the variable of a wire, by the number of the wire
unfoldable pub variable : (number : ℕ) → List ℕ
variable number = codes "t_" ++ decimal number

-- the names of a circuit of an operation: its two words are the inputs of the function, and its wires are variables
abbrev pub port_name : OpPort → List ℕ
port_name First = codes "a"
port_name Second = codes "b"
port_name (Inner number) = variable number

abbrev pub port_names : Names OpPort ⊥
port_names = record { signal = port_name; memory = λ m. []; is_constant = λ m. false; op = λ op. [] }

-- ---- lines

-- a variable of so many bits, and what it takes
unfoldable pub declaration : (name : List ℕ) → (width : ℕ) → List ℕ
declaration name width = codes "reg " ++ (range width ++ (name ++ codes ";\n"))

unfoldable pub assignment : (name word : List ℕ) → List ℕ
assignment name word = name ++ (codes " = " ++ (word ++ codes ";\n"))

-- the line of a wire: where it is declared, or what it takes
abbrev pub line : (declares : Bool) → Wire OpPort ⊥ → List ℕ
line true w = declaration (port_name w.name) w.width
line false w = assignment (port_name w.name) (expression port_names w.word)

-- the lines of some wires
abbrev pub lines : (declares : Bool) → List (Wire OpPort ⊥) → List ℕ
lines declares ws = flat_map (line declares) ws

-- the lines of a circuit before its word: each of its wires as a variable, and then in their order what they take
abbrev pub before_word : Worked → List ℕ
before_word w = lines true w.wires ++ (codes "begin\n" ++ lines false w.wires)
