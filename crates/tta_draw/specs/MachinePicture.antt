-- The picture of a machine: its buses as lines, and under them its parts, whose ports are joined to the buses by dots.
use Rattle.std.specs.Prelude.{ℕ, ◌+◌, ◌==◌, Bool, if◌then◌else◌, List, [], ◌∷◌, ◌++◌, length, Option, slice_get, codes, decimal}
use Rattle.std.specs.Option.{option_map_or}
use Rattle.std.specs.List.{flat_map, enumerate_from}
use Rattle.tta_draw.specs.Cited.{Units, Bus, Socket, File, ImmUnit, UnitOp, Template, Machine, has_bit, numbers, op_name, imm_name, place_text}
use Rattle.tta_arch.specs.declared.parts.Unit.{Unit as OpUnit}
use Rattle.tta_draw.specs.Svg.{box_text, dot_text, label_text, count_text, head_text, tail_text}
use Rattle.tta_draw.specs.Legends.{machine_legend}
use Rattle.tta_draw.specs.MachineWidths.{port_width, port_width_if, file_width, imm_width, template_width, unit_width, control_width}
use Rattle.tta_draw.specs.MachinePlaces.{bus_y, part_frame, line_spot, files_x, imms_x, templates_x, units_x, control_x, stem_frame, port_spot, socket_spot, machine_width, machine_height, bus_frame, bus_spot, short_spot, space_spot}

-- how many words a space has
unfoldable pub space_text : (space : ℕ) → (name : List ℕ) → (words : ℕ) → List ℕ
space_text space name words = count_text (codes "note") (space_spot space) name words

-- how many words the spaces have
unfoldable pub spaces_text : Machine → List ℕ
spaces_text m = space_text 0 (codes "data words ") m.data_words ++ space_text 1 (codes "frame words ") m.frame_words

-- how many bits a short word of a bus has, and whether it is signed
abbrev pub short_text : Machine → (bus : ℕ) → Bus → List ℕ
short_text m bus b =
    label_text (codes "note") (short_spot m bus) (decimal b.short ++ (if b.signed then codes " signed" else codes " unsigned"))

-- a bus: its name, its short words, and its line
unfoldable pub bus_text : Units → Machine → (bus : ℕ) → Bus → List ℕ
bus_text u m bus b =
    label_text (codes "title") (bus_spot bus) b.name
    ++ (short_text m bus b ++ box_text (codes "bus") (bus_frame u m bus))

-- buses, the first of them at the top
abbrev pub buses_text : Units → Machine → List Bus → List ℕ
buses_text u m buses = flat_map (λ b. bus_text u m b.0 b.1) (enumerate_from 0 buses)

-- a dot on each bus of a set
abbrev pub dots_text : Machine → (class : List ℕ) → (x buses : ℕ) → List ℕ
dots_text m class x buses = flat_map (λ bus. if has_bit buses bus then dot_text class x (bus_y bus) else []) (numbers (length m.buses))

-- a line up to the buses, with a dot on each bus of a set
unfoldable pub stem_text : Machine → (class : List ℕ) → (x buses : ℕ) → List ℕ
stem_text m class x buses = box_text class (stem_frame m x) ++ dots_text m class (x + 1) buses

-- the class of a socket by its direction
abbrev pub socket_class : (input : Bool) → List ℕ
socket_class input = if input then codes "in" else codes "out"

-- a socket at a port: its line and dots, and its name
abbrev pub socket_text : Machine → (x : ℕ) → Socket → List ℕ
socket_text m x s = stem_text m (socket_class s.input) x s.buses ++ label_text (codes "note") (socket_spot m x) s.name

-- a port: its name, and its socket
unfoldable pub port_text : Machine → (x : ℕ) → (name : List ℕ) → (socket : ℕ) → List ℕ
port_text m x name socket =
    label_text (codes "port") (port_spot m x) name ++ option_map_or (socket_text m x) (slice_get m.sockets socket) []

-- a port, where a part has it
abbrev pub port_if_text : Machine → (x : ℕ) → (name : List ℕ) → (socket : Option ℕ) → List ℕ
port_if_text m x name socket = option_map_or (port_text m x name) socket []

-- the box of a part, so wide and for so many lines, with its name
unfoldable pub part_text : Machine → (left width lines : ℕ) → (name : List ℕ) → List ℕ
part_text m left width lines name =
    box_text (codes "part") (part_frame m left width lines) ++ label_text (codes "title") (line_spot m left 0) name

-- a line of a part that has a number
abbrev pub told_text : Machine → (left line : ℕ) → (name : List ℕ) → ℕ → List ℕ
told_text m left line name n = count_text (codes "line") (line_spot m left line) name n

-- what is told of a file
unfoldable pub file_lines_text : Machine → (left : ℕ) → File → List ℕ
file_lines_text m left f =
    told_text m left 1 (codes "registers ") f.size
    ++ (told_text m left 2 (codes "bits ") f.width
    ++ (told_text m left 3 (codes "reads ") f.read ++ told_text m left 4 (codes "writes ") f.write))

-- a file
unfoldable pub file_text : Machine → (left : ℕ) → File → List ℕ
file_text m left f =
    part_text m left (file_width m f) 4 f.name
    ++ (file_lines_text m left f
    ++ (port_text m (left + 20) (codes "in") f.into ++ port_text m (left + 60 + port_width m f.into) (codes "out") f.out))

-- files side by side, the first of them so far to the right
abbrev pub files_text : Machine → (left : ℕ) → List File → List ℕ
files_text m left [] = []
files_text m left (f ∷ fs) = file_text m left f ++ files_text m (left + file_width m f + 16) fs

-- an immediate unit
unfoldable pub imm_text : Machine → (left : ℕ) → ImmUnit → List ℕ
imm_text m left i =
    part_text m left (imm_width m i) 1 i.name
    ++ (told_text m left 1 (codes "registers ") i.size ++ port_text m (left + 100) (codes "out") i.out)

-- immediate units
abbrev pub imms_text : Machine → (left : ℕ) → List ImmUnit → List ℕ
imms_text m left [] = []
imms_text m left (i ∷ is) = imm_text m left i ++ imms_text m (left + imm_width m i + 16) is

-- the register that a template writes, as a line of its part
abbrev pub written_text : Machine → (left : ℕ) → Template → List ℕ
written_text m left t = label_text (codes "line") (line_spot m left 2) (place_text (imm_name m t.imm) t.reg)

-- a template: the register that it writes, and a dot on each bus that it takes
unfoldable pub template_text : Machine → (left : ℕ) → Template → List ℕ
template_text m left t =
    part_text m left (template_width m t) 2 t.name
    ++ (label_text (codes "note") (line_spot m left 1) (codes "long word to")
    ++ (written_text m left t ++ stem_text m (codes "takes") (left + 60) t.buses))

-- templates
abbrev pub templates_text : Machine → (left : ℕ) → List Template → List ℕ
templates_text m left [] = []
templates_text m left (t ∷ ts) = template_text m left t ++ templates_text m (left + template_width m t + 16) ts

-- an operation, with its latency if it has a result
abbrev pub op_text : Units → UnitOp → List ℕ
op_text u o = op_name u o.op ++ (if o.latency == 0 then [] else codes " " ++ decimal o.latency)

-- the same as a line of its unit
abbrev pub op_line_text : Units → Machine → (left line : ℕ) → UnitOp → List ℕ
op_line_text u m left line o = label_text (codes "line") (line_spot m left line) (op_text u o)

-- the operations of a unit, a line each
abbrev pub ops_text : Units → Machine → (left : ℕ) → List UnitOp → List ℕ
ops_text u m left ops = flat_map (λ o. op_line_text u m left (o.0 + 1) o.1) (enumerate_from 0 ops)

-- the ports of a unit: each begins after the room of those before it
unfoldable pub unit_ports_text : Machine → (left : ℕ) → OpUnit → List ℕ
unit_ports_text m left q =
    port_if_text m (left + 20) (codes "o") q.operand
    ++ (port_text m (left + 20 + port_width_if m q.operand) (codes "t") q.trigger
    ++ port_if_text m (left + 20 + port_width_if m q.operand + port_width m q.trigger) (codes "r") q.result)

-- a unit: its operations, and its ports
unfoldable pub unit_text : Units → Machine → (left : ℕ) → OpUnit → List ℕ
unit_text u m left q =
    part_text m left (unit_width u m q) (length q.ops) q.name ++ (ops_text u m left q.ops ++ unit_ports_text m left q)

-- units
abbrev pub units_text : Units → Machine → (left : ℕ) → List OpUnit → List ℕ
units_text u m left [] = []
units_text u m left (q ∷ qs) = unit_text u m left q ++ units_text u m (left + unit_width u m q + 16) qs

-- control
unfoldable pub control_text : Machine → (left : ℕ) → List ℕ
control_text m left =
    part_text m left (control_width m) 2 (codes "gcu")
    ++ (told_text m left 1 (codes "delay ") m.control.delay
    ++ (told_text m left 2 (codes "address bits ") m.control.address
    ++ (port_text m (left + 60) (codes "t") m.control.trigger
    ++ port_if_text m (left + 60 + port_width m m.control.trigger) (codes "ra") m.control.ra)))

-- the parts: files, immediate units, templates, units and control
unfoldable pub parts_text : Units → Machine → List ℕ
parts_text u m =
    files_text m (files_x m) m.files
    ++ (imms_text m (imms_x m) m.imms
    ++ (templates_text m (templates_x m) m.templates
    ++ (units_text u m (units_x m) m.units
    ++ control_text m (control_x u m))))

-- the picture of a machine: how large its spaces are, a legend, its buses, and its parts from left to right
unfoldable pub picture_of_machine : Units → Machine → List ℕ
picture_of_machine u m =
    head_text (machine_width u m) (machine_height m)
    ++ (spaces_text m ++ (machine_legend ++ (buses_text u m m.buses ++ (parts_text u m ++ tail_text))))
