-- Where the parts of a machine stand in its picture. All measures are pixels.
use Rattle.std.specs.Prelude.{ℕ, ◌+◌, ◌-◌, ◌*◌, max, List, [], ◌∷◌, length}
use Rattle.tta_draw.specs.Cited.{Units, Machine}
use Rattle.tta_arch.specs.declared.parts.Unit.{Unit as OpUnit}
use Rattle.tta_draw.specs.declared.frame.Frame.{Frame}
use Rattle.tta_draw.specs.declared.frame.Spot.{Spot}
use Rattle.tta_draw.specs.Svg.{frame, spot}
use Rattle.tta_draw.specs.MachineWidths.{wider_buses, after_files, after_imms, after_templates, after_units, control_width}

-- ---- how low

-- the height of a bus: the buses are lines over one another, under the legend
abbrev pub bus_y : (bus : ℕ) → ℕ
bus_y bus = 196 + 28 * bus

-- the parts stand side by side under the buses: how low they begin
abbrev pub parts_y : Machine → ℕ
parts_y m = bus_y (length m.buses) + 16

-- how high a part is that has so many lines under its name
abbrev pub part_height : (lines : ℕ) → ℕ
part_height lines = 48 + 18 * lines

-- the greatest of a number and the numbers of operations of units
abbrev pub most_from : ℕ → List OpUnit → ℕ
most_from n [] = n
most_from n (u ∷ us) = most_from (max n (length u.ops)) us

-- the most lines of a part: the 4 of a file, or the operations of a unit
abbrev pub most_lines : List OpUnit → ℕ
most_lines units = most_from 4 units

-- the height of the picture
abbrev pub machine_height : Machine → ℕ
machine_height m = parts_y m + part_height (most_lines m.units) + 16

-- ---- how far to the right

-- after the names of the buses their short words
abbrev pub short_x : Machine → ℕ
short_x m = wider_buses 72 m.buses + 4

-- and then their lines
abbrev pub lines_x : Machine → ℕ
lines_x m = short_x m + 88

-- the first part of each kind, with control as the last
abbrev pub files_x : Machine → ℕ
files_x m = lines_x m + 16

abbrev pub imms_x : Machine → ℕ
imms_x m = after_files m (files_x m) m.files

abbrev pub templates_x : Machine → ℕ
templates_x m = after_imms m (imms_x m) m.imms

abbrev pub units_x : Machine → ℕ
units_x m = after_templates m (templates_x m) m.templates

abbrev pub control_x : Units → Machine → ℕ
control_x u m = after_units u m (units_x m) m.units

-- the width of the picture, in which the legend has room
abbrev pub machine_width : Units → Machine → ℕ
machine_width u m = max 800 (control_x u m + control_width m + 16)

-- ---- frames and spots

-- the box of a part
abbrev pub part_frame : Machine → (left width lines : ℕ) → Frame
part_frame m left width lines = frame left (parts_y m) width (part_height lines)

-- a line in it; line 0 is its name
abbrev pub line_spot : Machine → (left line : ℕ) → Spot
line_spot m left line = spot (left + 8) (parts_y m + 35 + 18 * line)

-- the line from the first bus down to a port
abbrev pub stem_frame : Machine → (x : ℕ) → Frame
stem_frame m x = frame x (bus_y 0) 2 (parts_y m - bus_y 0)

-- the name of the port, in its part and under the line
abbrev pub port_spot : Machine → (x : ℕ) → Spot
port_spot m x = spot (x + 1) (parts_y m + 15)

-- the name of its socket, above the part and beside the line
abbrev pub socket_spot : Machine → (x : ℕ) → Spot
socket_spot m x = spot (x + 6) (parts_y m - 5)

-- the line of a bus
abbrev pub bus_frame : Units → Machine → (bus : ℕ) → Frame
bus_frame u m bus = frame (lines_x m) (bus_y bus - 1) (machine_width u m - lines_x m - 16) 2

-- its name
abbrev pub bus_spot : (bus : ℕ) → Spot
bus_spot bus = spot 8 (bus_y bus + 4)

-- how wide its short words are, between both
abbrev pub short_spot : Machine → (bus : ℕ) → Spot
short_spot m bus = spot (short_x m + 4) (bus_y bus + 4)

-- how many words the spaces have, over all else
abbrev pub space_spot : (space : ℕ) → Spot
space_spot space = spot (8 + 160 * space) 20
