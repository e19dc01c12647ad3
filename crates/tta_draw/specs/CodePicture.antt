-- The picture of code: a row for each instruction, with a cell for each move, and a bar for each result on the way.
use Rattle.std.specs.Prelude.{ℕ, ◌+◌, ◌%◌, ◌==◌, nat_le, if◌then◌else◌, List, [], ◌∷◌, ◌++◌, length, Option, Some, None, codes}
use Rattle.std.specs.List.{flat_map, enumerate_from}
use Rattle.tta_draw.specs.Cited.{Units, Bus, Dest, Machine, has_bit, numbers, Code, Instruction, Long, Move, taken}
use Rattle.tta_arch.specs.declared.parts.Unit.{Unit as OpUnit}
use Rattle.tta_arch.specs.declared.ends.Dest.TheVariants as dest
use Rattle.tta_draw.specs.declared.frame.Frame.{Frame}
use Rattle.tta_draw.specs.declared.remark.Remark.{Remark}
use Rattle.tta_draw.specs.declared.sizes.Sizes.{Sizes}
use Rattle.tta_draw.specs.declared.span.Span.{Span}
use Rattle.tta_draw.specs.declared.span.Laid.{Laid}
use Rattle.tta_draw.specs.Targets.{arrows_of}
use Rattle.tta_draw.specs.DelaySlots.{is_delay_slot}
use Rattle.tta_draw.specs.Results.{results_of, lanes_in}
use Rattle.tta_draw.specs.Lanes.{has_label, laid_in}
use Rattle.tta_draw.specs.Legends.{code_legend, remark_legend}
use Rattle.tta_draw.specs.Written.{written_move, written_long}
use Rattle.tta_draw.specs.Svg.{box_text, dot_text, label_text, count_text, tip_text, head_text, tail_text}
use Rattle.tta_draw.specs.CodeWidths.{sizes_of, column_width}
use Rattle.tta_draw.specs.CodePlaces.{row_spot, column_x, cell_frame, long_x, long_frame, columns_x, bar_x, bar_frame, due_y, name_spot, colour_frame, code_width, code_height, rule_frame, slot_frame, label_x, address_x, remark_x, level_frame, upright_frame, tail_y, tip_y}

-- ---- rows

-- a text in the cell of a frame
unfoldable pub cell_text : (class : List ℕ) → Frame → (text : List ℕ) → List ℕ
cell_text class f text = box_text class f ++ label_text (codes "line") (record { x = f.x + 4; y = f.y + 15 }) text

-- the cells of the buses that a long immediate takes
abbrev pub taken_text : Machine → Sizes → (row buses : ℕ) → List ℕ
taken_text m s row buses =
    flat_map (λ bus. if has_bit buses bus then box_text (codes "taken") (cell_frame s row bus) else []) (numbers (length m.buses))

-- a long immediate in its cell
abbrev pub long_cell_text : Machine → Sizes → (row : ℕ) → Option Long → List ℕ
long_cell_text m s row None = []
long_cell_text m s row (Some l) = cell_text (codes "long") (long_frame m s row) (written_long m l)

-- the classes of the six colours of units
abbrev pub light_class : ℕ → List ℕ
light_class n =
    if n == 0 then codes "u0"
    else if n == 1 then codes "u1"
    else if n == 2 then codes "u2"
    else if n == 3 then codes "u3"
    else if n == 4 then codes "u4"
    else codes "u5"

-- the class of a move: a trigger has the colour of its unit
abbrev pub move_class : Dest → List ℕ
move_class (dest.Trigger unit op) = light_class (unit % 6)
move_class dest.Jump = codes "control"
move_class dest.Call = codes "control"
move_class dest.Halt = codes "control"
move_class (dest.Reg file index) = codes "move"
move_class (dest.Operand unit) = codes "move"

-- a move in its cell, with its guard
abbrev pub move_text : Units → Machine → Frame → Move → List ℕ
move_text u m cell v = cell_text (move_class v.dst) cell (written_move u m v)

-- a cell, if it has a move
abbrev pub slot_text : Units → Machine → Frame → Option Move → List ℕ
slot_text u m cell None = []
slot_text u m cell (Some v) = move_text u m cell v

-- the cells of the buses of a row, if they have moves
abbrev pub cells_text : Units → Machine → Sizes → (row : ℕ) → List (Option Move) → List ℕ
cells_text u m s row slots = flat_map (λ o. slot_text u m (cell_frame s row o.0) o.1) (enumerate_from 0 slots)

-- a row: its address, the buses that a long immediate takes, the long immediate, and the moves
unfoldable pub row_text : Units → Machine → Sizes → (row : ℕ) → Instruction → List ℕ
row_text u m s row i =
    box_text (codes "row") (rule_frame m s row)
    ++ (count_text (codes "note") (row_spot address_x row) [] row
    ++ (taken_text m s row (taken m i)
    ++ (long_cell_text m s row i.long ++ cells_text u m s row i.moves)))

-- rows, the first of them that of address 0
abbrev pub rows_text : Units → Machine → Sizes → List Instruction → List ℕ
rows_text u m s words = flat_map (λ i. row_text u m s i.0 i.1) (enumerate_from 0 words)

-- the grounds of the rows that are delay slots
abbrev pub grounds_text : Machine → Sizes → List Instruction → List ℕ
grounds_text m s words =
    flat_map (λ row. if is_delay_slot m words row then box_text (codes "slot") (slot_frame m s row) else []) (numbers (length words))

-- ---- results

-- the classes of the colours of units where nothing is written on them
abbrev pub dark_class : ℕ → List ℕ
dark_class n =
    if n == 0 then codes "b0"
    else if n == 1 then codes "b1"
    else if n == 2 then codes "b2"
    else if n == 3 then codes "b3"
    else if n == 4 then codes "b4"
    else codes "b5"

-- the bar of a result of a unit, in its lane of the unit's column, with a dot where it shows
unfoldable pub bar_text : (unit left : ℕ) → Laid → List ℕ
bar_text unit left l =
    box_text (dark_class (unit % 6)) (bar_frame left l.lane l.span)
    ++ dot_text (dark_class (unit % 6)) (bar_x left l.lane + 2) (due_y l.span)

-- the column of a unit: its name, its colour, and the bars of its results
unfoldable pub column_text : Machine → List Instruction → (unit left : ℕ) → OpUnit → List ℕ
column_text m words unit left q =
    label_text (codes "title") (name_spot left) q.name
    ++ (box_text (dark_class (unit % 6)) (colour_frame left (column_width q))
    ++ flat_map (bar_text unit left) (laid_in (lanes_in q) (results_of m words unit)))

-- the columns of units, the first of which has this number and begins so far to the right
abbrev pub columns_text : Machine → List Instruction → (unit left : ℕ) → List OpUnit → List ℕ
columns_text m words unit left [] = []
columns_text m words unit left (q ∷ qs) =
    column_text m words unit left q ++ columns_text m words (unit + 1) (left + column_width q + 8) qs

-- ---- jumps

-- the label of a row, which is named by its address
unfoldable pub label_row_text : (row : ℕ) → List ℕ
label_row_text row = count_text (codes "title") (row_spot label_x row) (codes "L") row

-- the labels of so many rows
abbrev pub labels_text : List Span → (rows : ℕ) → List ℕ
labels_text spans rows = flat_map (λ row. if has_label spans row then label_row_text row else []) (numbers rows)

-- the upright line of an arrow: from where it begins to where it ends, or the other way round
abbrev pub upright_text : (lane from to : ℕ) → List ℕ
upright_text lane from to =
    if nat_le to from
    then box_text (codes "arrow") (upright_frame lane (tip_y to) (tail_y from))
    else box_text (codes "arrow") (upright_frame lane (tail_y from) (tip_y to))

-- an arrow: out of the row after which its jump takes effect into its lane, along the lane, and into the row of the target
unfoldable pub arrow_text : Laid → List ℕ
arrow_text a =
    box_text (codes "arrow") (level_frame a.lane (tail_y a.span.from))
    ++ (upright_text a.lane a.span.from a.span.to
    ++ (box_text (codes "arrow") (level_frame a.lane (tip_y a.span.to))
    ++ tip_text (codes "arrow") 76 (tip_y a.span.to + 1)))

-- arrows in eight lanes
abbrev pub arrows_text : List Span → List ℕ
arrows_text spans = flat_map arrow_text (laid_in 8 spans)

-- the labels and the arrows of jumps among so many rows
abbrev pub guides_text : List Span → (rows : ℕ) → List ℕ
guides_text spans rows = labels_text spans rows ++ arrows_text spans

-- ---- all

-- a remark on a row
abbrev pub remark_text : Remark → List ℕ
remark_text r = label_text (codes "remark") (row_spot remark_x r.row) r.text

-- remarks, if there are some, with what they mean
abbrev pub remarks_text : List Remark → List ℕ
remarks_text [] = []
remarks_text (r ∷ rs) = remark_legend ++ flat_map remark_text (r ∷ rs)

-- the name of a bus
abbrev pub bus_column_text : Sizes → (bus : ℕ) → Bus → List ℕ
bus_column_text s bus b = label_text (codes "title") (name_spot (column_x s bus)) b.name

-- the names of buses
abbrev pub bus_columns_text : Sizes → List Bus → List ℕ
bus_columns_text s buses = flat_map (λ b. bus_column_text s b.0 b.1) (enumerate_from 0 buses)

-- the name of the column of long immediates
unfoldable pub long_column_text : Machine → Sizes → List ℕ
long_column_text m s = label_text (codes "title") (name_spot (long_x m s)) (codes "long immediate")

-- the instructions: the grounds of delay slots, the rows over them, and over these the results and the labels and arrows of jumps
unfoldable pub body_text : Units → Machine → Sizes → List Instruction → List ℕ
body_text u m s words =
    grounds_text m s words
    ++ (rows_text u m s words
    ++ (columns_text m words 0 (columns_x m s) m.units ++ guides_text (arrows_of m words) (length words)))

-- the picture of code in columns of these sizes: a legend, the names of the columns, the instructions, and remarks on rows
unfoldable pub picture_in : Units → Machine → Sizes → List Instruction → List Remark → List ℕ
picture_in u m s words remarks =
    head_text (code_width m s) (code_height (length words))
    ++ (code_legend
    ++ (bus_columns_text s m.buses
    ++ (long_column_text m s ++ (body_text u m s words ++ (remarks_text remarks ++ tail_text)))))

-- the picture of code for a machine, with remarks on rows
unfoldable pub picture_of_code : Units → Machine → Code → List Remark → List ℕ
picture_of_code u m code remarks = picture_in u m (sizes_of u m code.words remarks) code.words remarks
