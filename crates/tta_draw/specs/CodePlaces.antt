-- Where the moves of code stand in its picture. All measures are pixels.
use Rattle.std.specs.Prelude.{ℕ, ◌+◌, ◌-◌, ◌*◌, max, length}
use Rattle.tta_draw.specs.Cited.{Machine}
use Rattle.tta_draw.specs.declared.frame.Frame.{Frame}
use Rattle.tta_draw.specs.declared.frame.Spot.{Spot}
use Rattle.tta_draw.specs.declared.sizes.Sizes.{Sizes}
use Rattle.tta_draw.specs.declared.span.Span.{Span}
use Rattle.tta_draw.specs.Svg.{frame, spot}
use Rattle.tta_draw.specs.CodeWidths.{after_columns}

-- a row is an instruction, by its address
abbrev pub row_y : (row : ℕ) → ℕ
row_y row = 208 + 24 * row

-- where a text begins that stands in a row
abbrev pub row_spot : (x row : ℕ) → Spot
row_spot x row = spot x (row_y row + 17)

-- after the arrows, the labels and the addresses come the remarks, and then a column for each bus
abbrev pub column_x : Sizes → (bus : ℕ) → ℕ
column_x s bus = 170 + s.remarks + (s.bus + 4) * bus

-- the cell of a bus in a row
abbrev pub cell_frame : Sizes → (row bus : ℕ) → Frame
cell_frame s row bus = frame (column_x s bus) (row_y row + 2) s.bus 20

-- after the buses comes a column for long immediates
abbrev pub long_x : Machine → Sizes → ℕ
long_x m s = column_x s (length m.buses)

-- its cell in a row
abbrev pub long_frame : Machine → Sizes → (row : ℕ) → Frame
long_frame m s row = frame (long_x m s) (row_y row + 2) s.long 20

-- and then one for each unit
abbrev pub columns_x : Machine → Sizes → ℕ
columns_x m s = long_x m s + s.long + 12

-- the bar of a result in a lane of its unit's column
abbrev pub bar_x : (left lane : ℕ) → ℕ
bar_x left lane = left + 4 + 8 * lane

-- The bar leads from the row that starts the result to the row from which it shows, where it ends in a dot; it leaves room for the dot
-- of the result before it.
abbrev pub bar_frame : (left lane : ℕ) → Span → Frame
bar_frame left lane s = frame (bar_x left lane) (row_y s.from + 16) 4 (24 * (s.to - s.from) + 16)

-- how low that dot is
abbrev pub due_y : Span → ℕ
due_y s = row_y s.to + 32

-- the name of a column, and the colour of a unit under it
abbrev pub name_spot : (x : ℕ) → Spot
name_spot x = spot (x + 4) 190

abbrev pub colour_frame : (left width : ℕ) → Frame
colour_frame left width = frame (left + 4) 196 (width - 8) 4

-- the width of the picture, in which the legend has room
abbrev pub code_width : Machine → Sizes → ℕ
code_width m s = max 920 (after_columns (columns_x m s) m.units)

-- its height, for so many instructions
abbrev pub code_height : (rows : ℕ) → ℕ
code_height rows = row_y rows + 16

-- the line over a row
abbrev pub rule_frame : Machine → Sizes → (row : ℕ) → Frame
rule_frame m s row = frame 4 (row_y row) (code_width m s - 8) 1

-- the ground of a delay slot, from its address to the last bus
abbrev pub slot_frame : Machine → Sizes → (row : ℕ) → Frame
slot_frame m s row = frame 122 (row_y row + 1) (long_x m s - 124) 23

-- the label of a row, if it has one, and its address
abbrev pub label_x : ℕ
label_x = 82

abbrev pub address_x : ℕ
address_x = 130

-- what is remarked of a row
abbrev pub remark_x : ℕ
remark_x = 174

-- left of the labels stand eight lanes for arrows, the first of them on the right
abbrev pub lane_x : (lane : ℕ) → ℕ
lane_x lane = 58 - 7 * lane

-- how low in its row an arrow begins
abbrev pub tail_y : (from : ℕ) → ℕ
tail_y from = row_y from + 16

-- how low in its row it ends
abbrev pub tip_y : (to : ℕ) → ℕ
tip_y to = row_y to + 8

-- a level line of an arrow, between its lane and the labels
abbrev pub level_frame : (lane y : ℕ) → Frame
level_frame lane y = frame (lane_x lane) y (68 - lane_x lane) 2

-- the upright line of an arrow in its lane, from its upper end to its lower
abbrev pub upright_frame : (lane upper lower : ℕ) → Frame
upright_frame lane upper lower = frame (lane_x lane) upper 2 (lower + 2 - upper)
