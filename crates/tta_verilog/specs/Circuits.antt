-- The text of the parts of a circuit.
use Rattle.std.specs.Prelude.{ℕ, zero, suc, ◌-◌, ◌/◌, ◌%◌, ◌^◌, ◌==◌, Bool, true, false, if◌then◌else◌, List, [], ◌++◌, length, Option, Some, None, codes, decimal}
use Rattle.std.specs.List.{flat_map, enumerate_from}
use Rattle.tta_circuit.specs.Circuit.{Wire, Register, WritePort, Memory, Circuit}
use Rattle.tta_verilog.specs.Expressions.{Names, constant, expression}

-- how many bits a name has, before the name
unfoldable pub range : (width : ℕ) → List ℕ
range width = codes "[" ++ (decimal (width - 1) ++ codes ":0] ")

-- a wire with its name, its width and its word
unfoldable pub wire_line : (name : List ℕ) → (width : ℕ) → (word : List ℕ) → List ℕ
wire_line name width word = codes "wire " ++ (range width ++ (name ++ (codes " = " ++ (word ++ codes ";\n"))))

-- a word in so many bits
abbrev pub bits_text : (width word : ℕ) → List ℕ
bits_text zero word = []
bits_text (suc w) word = (if word / 2 ^ w % 2 == 1 then codes "1" else codes "0") ++ bits_text w word

-- what is carried out at a clock, if a test holds
abbrev pub clocked : (enable done : List ℕ) → List ℕ
clocked enable done = codes "always @(posedge clk) if (" ++ enable ++ codes ") " ++ done

-- ---- the lines of memories by their names

-- a word of a memory that keeps its first words, by its address
unfoldable pub case_line : (name : List ℕ) → (width address word : ℕ) → List ℕ
case_line name width address word =
    decimal address ++ (codes ": " ++ (name ++ (codes " = " ++ (decimal width ++ (codes "'b" ++ (bits_text width word ++ codes ";\n"))))))

-- such a memory is a function of an address: the lines before its words, and those after them; past its end its words are 0
unfoldable pub case_start : (name : List ℕ) → (width : ℕ) → List ℕ
case_start name width = codes "function " ++ (range width ++ (name ++ (codes ";\ninput " ++ (range 32 ++ codes "at;\ncase (at)\n"))))

unfoldable pub case_end : (name : List ℕ) → (width : ℕ) → List ℕ
case_end name width = codes "default: " ++ (name ++ (codes " = " ++ (constant width 0 ++ codes ";\nendcase\nendfunction\n")))

-- a first word of a memory that is written, if it is not 0
unfoldable pub first_line : (name : List ℕ) → (width address word : ℕ) → List ℕ
first_line name width address word =
    if word == 0 then [] else name ++ (codes "[" ++ (decimal address ++ (codes "] = " ++ (constant width word ++ codes ";\n"))))

-- all words of a memory are set to 0
unfoldable pub array_zeros : (name : List ℕ) → (width size : ℕ) → List ℕ
array_zeros name width size =
    codes "];\ninitial begin\n`ifndef SYNTHESIS\nfor (k = 0; k < " ++ (decimal size
    ++ (codes "; k = k + 1) " ++ (name ++ (codes "[k] = " ++ (constant width 0 ++ codes ";\n`endif\n")))))

-- The lines of such a memory before its first words. A simulator sets all to 0 before; in hardware they are 0 without that.
unfoldable pub array_start : (name : List ℕ) → (width size : ℕ) → List ℕ
array_start name width size = codes "reg " ++ (range width ++ (name ++ (codes " [0:" ++ (decimal (size - 1) ++ array_zeros name width size))))

-- where it is written at a clock
unfoldable pub write_line : (name enable address word : List ℕ) → List ℕ
write_line name enable address word =
    codes "always @(posedge clk) if (" ++ (enable ++ (codes ") " ++ (name ++ (codes "[" ++ (address ++ (codes "] <= " ++ (word ++ codes ";\n")))))))

module _ {N M : Type 0} (names : Names N M) where
  -- a wire
  abbrev pub wire_text : Wire N M → List ℕ
  wire_text w = wire_line (names.signal w.name) w.width (expression names w.word)

  -- a register as it is declared
  abbrev pub declared : Register N M → List ℕ
  declared r = codes "reg " ++ range r.width ++ names.signal r.name ++ codes ";\n"

  -- what a register takes at a clock
  abbrev pub next_text : Register N M → List ℕ
  next_text r = clocked (expression names r.enable) (names.signal r.name ++ codes " <= " ++ expression names r.next ++ codes ";\n")

  -- one of both
  abbrev pub register_text : (declares : Bool) → Register N M → List ℕ
  register_text true r = declared r
  register_text false r = next_text r

  -- a memory that keeps its first words
  abbrev pub function_text : Memory N M → List ℕ
  function_text m =
      let name = names.memory m.name in
      case_start name m.width ++ (flat_map (λ k. case_line name m.width k.0 k.1) (enumerate_from 0 m.words) ++ case_end name m.width)

  -- a memory that is written
  abbrev pub array_text : Memory N M → List ℕ
  array_text m =
      let name = names.memory m.name in
      array_start name m.width (length m.words)
      ++ (flat_map (λ k. first_line name m.width k.0 k.1) (enumerate_from 0 m.words) ++ codes "end\n")

  -- a memory
  abbrev pub memory_text : Memory N M → List ℕ
  memory_text m = if names.is_constant m.name then function_text m else array_text m

  -- where a memory is written at a clock
  abbrev pub port_text : M → WritePort N M → List ℕ
  port_text m p = write_line (names.memory m) (expression names p.enable) (expression names p.address) (expression names p.word)

  -- the same of a memory, if it is written
  abbrev pub store_text : Memory N M → List ℕ
  store_text m = of m.port where
    of : Option (WritePort N M) → List ℕ
    of None = []
    of (Some p) = port_text m.name p

  -- The parts of a circuit, with functions of its operations: the registers are declared, then come the memories, the functions, the
  -- wires in their order, what each register takes at a clock, and where memories are written.
  abbrev pub parts_text : (functions : List ℕ) → Circuit N M → List ℕ
  parts_text functions c =
      flat_map (register_text true) c.registers ++ (flat_map memory_text c.memories ++ (functions ++ (flat_map wire_text c.wires
      ++ (flat_map (register_text false) c.registers ++ flat_map store_text c.memories))))

  -- a signal that the circuit is given, as a wire that something else drives
  abbrev pub given_text : N × ℕ → List ℕ
  given_text i = codes "wire " ++ (range i.1 ++ (names.signal i.0 ++ codes ";\n"))

  -- The same parts with modules beside them: before the wires stand the signals that the modules show, and behind the wires the modules.
  abbrev pub parts_beside : (functions : List ℕ) → (shown : List (N × ℕ)) → (modules : List ℕ) → Circuit N M → List ℕ
  parts_beside functions shown modules c =
      flat_map (register_text true) c.registers ++ (flat_map memory_text c.memories ++ (functions ++ (flat_map given_text shown
      ++ (flat_map wire_text c.wires ++ (modules ++ (flat_map (register_text false) c.registers ++ flat_map store_text c.memories))))))
