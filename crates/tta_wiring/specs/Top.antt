-- The text of the module that joins cores by queues.
use Rattle.std.specs.Prelude.{ℕ, Bool, if◌then◌else◌, List, [], ◌++◌, Option, codes}
use Rattle.std.specs.List.{flat_map, enumerate_from}
use Rattle.tta_verilog.specs.Expressions.{expression}
use Rattle.tta_verilog.specs.Circuits.{range, wire_text}
use Rattle.tta_wiring.specs.declared.part.Part.{Part}
use Rattle.tta_wiring.specs.declared.part.Part.TheVariants as part
use Rattle.tta_wiring.specs.declared.part.Ends.{Ends}
use Rattle.tta_wiring.specs.declared.part.Source.{Source}
use Rattle.tta_wiring.specs.Queues.{numbered}
use Rattle.tta_wiring.specs.Signals.{Joint, CorePort, joint_name, joint_names, core_wires, queue_wires, source_at, is_outside, word_valid, port_name, core_joints, queue_joints}

-- ---- its ports

-- those of the words of a core in the first line
unfoldable pub word_names : (core : ℕ) → List ℕ
word_names core = numbered (codes ", out_valid_") core ++ (numbered (codes ", out_data_") core ++ numbered (codes ", out_ready_") core)

-- those of the words that a core takes from outside
unfoldable pub input_names : (core : ℕ) → List ℕ
input_names core = numbered (codes ", in_valid_") core ++ (numbered (codes ", in_data_") core ++ numbered (codes ", in_ready_") core)

-- those of a core there: whether it has halted; where it can put words out, those of the words; and those of the words that it takes where
-- they come from outside
unfoldable pub port_names : (core : ℕ) → (gives : Bool) → Source → List ℕ
port_names core gives source =
    numbered (codes ", halted_") core
    ++ ((if gives then word_names core else []) ++ (if is_outside source then input_names core else []))

-- the ports of the words of a core, as they are declared
unfoldable pub word_ports : (core : ℕ) → List ℕ
word_ports core =
    numbered (codes ";\noutput [0:0] out_valid_") core ++ (numbered (codes ";\noutput [31:0] out_data_") core
    ++ (numbered (codes ";\ninput [0:0] out_ready_") core ++ codes ";\n"))

-- nobody takes words of a core that puts none out
unfoldable pub no_ports : (core : ℕ) → List ℕ
no_ports core = numbered (codes ";\nwire [0:0] out_ready_") core ++ codes " = 1'd0;\n"

-- the ports of the words that a core takes from outside, as they are declared
unfoldable pub input_ports : (core : ℕ) → List ℕ
input_ports core =
    numbered (codes "input [0:0] in_valid_") core ++ (numbered (codes ";\ninput [31:0] in_data_") core
    ++ (numbered (codes ";\noutput [0:0] in_ready_") core ++ codes ";\n"))

-- the ports of a core, as they are declared
unfoldable pub ports_text : (core : ℕ) → (gives : Bool) → Source → List ℕ
ports_text core gives source =
    numbered (codes "output [0:0] halted_") core
    ++ ((if gives then word_ports core else no_ports core) ++ (if is_outside source then input_ports core else []))

-- what the ports of words show
unfoldable pub word_shown : (core : ℕ) → List ℕ
word_shown core =
    numbered (codes "assign out_valid_") core ++ (codes " = " ++ (expression joint_names (word_valid core)
    ++ (numbered (codes ";\nassign out_data_") core ++ (numbered (codes " = word_") core ++ codes ";\n"))))

-- a word from outside is taken where the queue before the core has room
unfoldable pub input_shown : (core : ℕ) → List ℕ
input_shown core = numbered (codes "assign in_ready_") core ++ (numbered (codes " = room_") core ++ codes ";\n")

-- what the ports of a core show
abbrev pub shown_text : (core : ℕ) → (gives : Bool) → Source → List ℕ
shown_text core gives source = (if gives then word_shown core else []) ++ (if is_outside source then input_shown core else [])

-- ---- its wires

-- how the line of a wire begins, up to its word
unfoldable pub wire_start : (name : List ℕ) → (width : ℕ) → List ℕ
wire_start name width = codes "wire " ++ (range width ++ (name ++ codes " = "))

-- the wires that the module of a core and that of the queue before it drive
unfoldable pub driven_text : ℕ → List ℕ
driven_text core =
    numbered (codes "wire [0:0] cycle_") core ++ (numbered (codes ";\nwire [0:0] valid_") core ++ (numbered (codes ";\nwire [31:0] word_") core
    ++ (numbered (codes ";\nwire [0:0] asks_") core ++ (numbered (codes ";\nwire [0:0] room_") core
    ++ (numbered (codes ";\nwire [0:0] has_word_") core ++ (numbered (codes ";\nwire [31:0] first_") core ++ codes ";\n"))))))

-- the other wires of a core, where this core feeds each, and of the queue before it
unfoldable pub core_wires_text : (feeds : List (Option ℕ)) → (core : ℕ) → List ℕ
core_wires_text feeds core = flat_map (wire_text joint_names) (core_wires feeds core)

unfoldable pub queue_wires_text : (core : ℕ) → Source → List ℕ
queue_wires_text core source = flat_map (wire_text joint_names) (queue_wires core source)

-- ---- the modules below it

-- a port that is joined to a signal, by the names of both
unfoldable pub bound : (port signal : List ℕ) → List ℕ
bound port signal = codes ", ." ++ (port ++ (codes "(" ++ (signal ++ codes ")")))

abbrev pub joint_text : CorePort × Joint → List ℕ
joint_text j = bound (port_name j.0) (joint_name j.1)

-- the module of a core, and that of the queue before it
unfoldable pub core_text : (core : ℕ) → List ℕ
core_text core =
    numbered (codes "tta_core_") core ++ (numbered (codes " core_") core
    ++ (codes " (.clk(clk), .pc()" ++ (flat_map joint_text (core_joints core) ++ codes ");\n")))

unfoldable pub queue_text : (core : ℕ) → List ℕ
queue_text core =
    numbered (codes "tta_queue_") core ++ (numbered (codes " queue_") core
    ++ (codes " (.clk(clk)" ++ (flat_map joint_text (queue_joints core) ++ codes ");\n")))

-- ---- the module

-- what a part says of a core, where this core feeds each
abbrev pub part_text : Part → (feeds : List (Option ℕ)) → ℕ × Ends → List ℕ
part_text part.Names feeds c = port_names c.0 c.1.gives (source_at feeds c.0 c.1.takes)
part_text part.Ports feeds c = ports_text c.0 c.1.gives (source_at feeds c.0 c.1.takes)
part_text part.Driven feeds c = driven_text c.0
part_text part.Wires feeds c = core_wires_text feeds c.0
part_text part.Offered feeds c = queue_wires_text c.0 (source_at feeds c.0 c.1.takes)
part_text part.Shown feeds c = shown_text c.0 c.1.gives (source_at feeds c.0 c.1.takes)
part_text part.Core feeds c = core_text c.0
part_text part.Queue feeds c = queue_text c.0

-- what a part says of all cores, which have these words
abbrev pub each_text : Part → List Ends → (feeds : List (Option ℕ)) → List ℕ
each_text what ends feeds = flat_map (part_text what feeds) (enumerate_from 0 ends)

-- the ports
abbrev pub head_text : List Ends → (feeds : List (Option ℕ)) → List ℕ
head_text ends feeds =
    codes "module tta_net (clk, reset" ++ (each_text part.Names ends feeds
    ++ (codes ");\ninput clk;\ninput [0:0] reset;\n" ++ each_text part.Ports ends feeds))

-- the wires: first those that modules drive, and then all others
abbrev pub wires_text : List Ends → (feeds : List (Option ℕ)) → List ℕ
wires_text ends feeds =
    each_text part.Driven ends feeds ++ (each_text part.Wires ends feeds ++ each_text part.Offered ends feeds)

-- The module of cores that have these words, where this core feeds each: ports, wires, what the ports show, and the modules of the cores
-- and of the queues before them.
abbrev pub top_text : List Ends → (feeds : List (Option ℕ)) → List ℕ
top_text ends feeds =
    head_text ends feeds ++ (wires_text ends feeds ++ (each_text part.Shown ends feeds
    ++ (each_text part.Core ends feeds ++ (each_text part.Queue ends feeds ++ codes "endmodule\n"))))
