-- What is told of a machine's circuit.
use Rattle.std.specs.Prelude.{ℕ, ◌*◌, List, [], ◌∷◌, ◌++◌, codes, decimal, length}
use Rattle.tta_arch.specs.declared.parts.File.{File}
use Rattle.tta_cost.specs.Cited.{Units, Machine, Store, Code, Data, Frame, Memory, Circuit, circuit_with, Cost, memory_bits, layout_of, word_width, BusFields, choice_depth, gate_depth, equal_depth, sum_depth, shift_depth, product_depth, quotient_depth, read_depth, plus}
use Rattle.tta_hardware.specs.Signals.{Signal as Named}
use Rattle.tta_cost.specs.Operations.{operation_depths}
use Rattle.tta_cost.specs.Tally.{all_parts, parts_of}
use Rattle.tta_cost.specs.declared.parts.Parts.{Parts}

-- a number, and what it counts before it
unfoldable pub count_text : (what : List ℕ) → ℕ → List ℕ
count_text what n = what ++ decimal n

-- what a memory is called
abbrev pub memory_name : Store → List ℕ
memory_name Code = codes "code"
memory_name Data = codes "data"
memory_name Frame = codes "frame"

-- how many bits a memory has
unfoldable pub memory_text : (name : List ℕ) → (bits : ℕ) → List ℕ
memory_text name bits = codes "memory " ++ (name ++ (count_text (codes " bits ") bits ++ codes "\n"))

-- the same of some memories
abbrev pub memories_text : List (Memory Named Store) → List ℕ
memories_text [] = []
memories_text (x ∷ xs) = memory_text (memory_name x.name) (memory_bits x) ++ memories_text xs

-- how many moves of a cycle all files let read them, and write them
abbrev pub reads : List File → ℕ
reads [] = 0
reads (f ∷ fs) = plus f.read (reads fs)

abbrev pub writes : List File → ℕ
writes [] = 0
writes (f ∷ fs) = plus f.write (writes fs)

-- from how many sources buses take words, and to how many destinations they bring them, bus by bus
abbrev pub source_joints : List BusFields → ℕ
source_joints [] = 0
source_joints (f ∷ fs) = plus (length f.sources) (source_joints fs)

abbrev pub dest_joints : List BusFields → ℕ
dest_joints [] = 0
dest_joints (f ∷ fs) = plus (length f.dests) (dest_joints fs)

-- a line of two numbers, and what each counts before it
unfoldable pub pair_text : (what : List ℕ) → ℕ → (other : List ℕ) → ℕ → List ℕ
pair_text what n other k = count_text what n ++ (count_text other k ++ codes "\n")

-- the ports of files
abbrev pub ports_text : List File → List ℕ
ports_text files = pair_text (codes "ports read ") (reads files) (codes " write ") (writes files)

-- the joints of buses
abbrev pub joints_text : List BusFields → List ℕ
joints_text buses = pair_text (codes "joints sources ") (source_joints buses) (codes " destinations ") (dest_joints buses)

-- the width of an instruction
unfoldable pub instruction_text : (width : ℕ) → List ℕ
instruction_text width = count_text (codes "instruction ") width ++ codes "\n"

-- a part
unfoldable pub part_text : (name : List ℕ) → Cost → List ℕ
part_text name c =
    codes "part " ++ (name ++ (count_text (codes " bits ") c.bits
    ++ (count_text (codes " choices ") c.choices ++ (count_text (codes " depth ") c.depth ++ codes "\n"))))

-- the parts that move words
unfoldable pub moving_text : Parts → List ℕ
moving_text t =
    part_text (codes "instruction") t.instruction
    ++ (part_text (codes "buses") t.buses ++ (part_text (codes "files") t.files ++ part_text (codes "immediates") t.immediates))

-- those that work on them
unfoldable pub working_text : Parts → List ℕ
working_text t =
    part_text (codes "operands") t.operands
    ++ (part_text (codes "results") t.results ++ (part_text (codes "control") t.control ++ part_text (codes "spaces") t.spaces))

-- all parts, and all of them together
unfoldable pub parts_text : Parts → List ℕ
parts_text t = moving_text t ++ (working_text t ++ part_text (codes "all") (all_parts t))

-- the depths of what takes longer than a sum
unfoldable pub long_text : List ℕ
long_text =
    count_text (codes " shift ") shift_depth ++ (count_text (codes " product ") product_depth
    ++ (count_text (codes " quotient ") quotient_depth ++ (count_text (codes " memory ") read_depth ++ codes "\n")))

-- those of gates, and of what tells equal words
unfoldable pub short_text : List ℕ
short_text = count_text (codes " gate ") gate_depth ++ (count_text (codes " equal ") equal_depth ++ count_text (codes " sum ") sum_depth)

-- the depths of what the longest path goes through
unfoldable pub table_text : List ℕ
table_text = count_text (codes "depths choice ") choice_depth ++ (short_text ++ long_text)

-- what is told of a machine besides its circuit
unfoldable pub machine_text : Machine → List ℕ
machine_text m = instruction_text (word_width m) ++ (ports_text m.files ++ joints_text (layout_of m).buses)

-- all that is told of the circuit of a machine
unfoldable pub cost_text : Units → Machine → Circuit Named Store → List ℕ
cost_text u m c =
    machine_text m ++ (memories_text c.memories ++ (parts_text (parts_of (operation_depths u) m c) ++ table_text))

-- ---- the same by the number of instructions

-- the memories, where the code has so many words
unfoldable pub spaces_text : Machine → (words : ℕ) → List ℕ
spaces_text m words =
    memory_text (codes "code") (word_width m * words)
    ++ (memory_text (codes "data") (32 * m.data_words) ++ memory_text (codes "frame") (32 * m.frame_words))

-- what is told of the circuit, where these are the depths of operations
unfoldable pub circuit_text : (applied : List ℕ) → Machine → (words : ℕ) → List ℕ
circuit_text applied m words = spaces_text m words ++ (parts_text (parts_of applied m (circuit_with m [] [])) ++ table_text)

-- all that is told
unfoldable pub told_text : (applied : List ℕ) → Machine → (words : ℕ) → List ℕ
told_text applied m words = machine_text m ++ circuit_text applied m words
