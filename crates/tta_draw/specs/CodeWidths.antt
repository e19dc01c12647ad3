-- How wide the columns of the picture of code are, so that all that stands in them has room.
use Rattle.std.specs.Prelude.{ℕ, ◌+◌, ◌*◌, max, List, [], ◌∷◌, length, Option, Some, None}
use Rattle.tta_draw.specs.Cited.{Units, Machine, Instruction, Long, Move}
use Rattle.tta_arch.specs.declared.parts.Unit.{Unit as OpUnit}
use Rattle.tta_draw.specs.declared.remark.Remark.{Remark}
use Rattle.tta_draw.specs.declared.sizes.Sizes.{Sizes}
use Rattle.tta_draw.specs.Widths.{text_width}
use Rattle.tta_draw.specs.MachineWidths.{wider_buses}
use Rattle.tta_draw.specs.Results.{lanes_in}
use Rattle.tta_draw.specs.Written.{written_move, written_long}

-- the widest of a width and of moves
abbrev pub wider_moves : Units → Machine → ℕ → List (Option Move) → ℕ
wider_moves u m w [] = w
wider_moves u m w (None ∷ slots) = wider_moves u m w slots
wider_moves u m w (Some v ∷ slots) = wider_moves u m (max w (text_width (length (written_move u m v)))) slots

-- the widest of a width and of the moves of instructions
abbrev pub wider_rows : Units → Machine → ℕ → List Instruction → ℕ
wider_rows u m w [] = w
wider_rows u m w (i ∷ is) = wider_rows u m (wider_moves u m w i.moves) is

-- the widest of a width and of a long immediate, if there is one
abbrev pub wider_long : Machine → ℕ → Option Long → ℕ
wider_long m w None = w
wider_long m w (Some l) = max w (text_width (length (written_long m l)))

-- the widest of a width and of the long immediates of instructions
abbrev pub wider_longs : Machine → ℕ → List Instruction → ℕ
wider_longs m w [] = w
wider_longs m w (i ∷ is) = wider_longs m (wider_long m w i.long) is

-- the widest of a width and of remarks
abbrev pub wider_remarks : ℕ → List Remark → ℕ
wider_remarks w [] = w
wider_remarks w (r ∷ rs) = wider_remarks (max w (text_width (length r.text))) rs

-- how wide the columns are: that of remarks, which takes no room where there are none, that of each bus, and that of long immediates,
-- over which its name stands
abbrev pub sizes_of : Units → Machine → List Instruction → List Remark → Sizes
sizes_of u m words remarks =
    record { remarks = wider_remarks 0 remarks; bus = wider_rows u m (wider_buses 60 m.buses) words; long = wider_longs m 106 words }

-- how wide the column of a unit is, which has lanes for bars under the unit's name
abbrev pub column_width : OpUnit → ℕ
column_width q = max (text_width (length q.name)) (8 * lanes_in q + 8)

-- how far to the right the next column begins after those of units, the first of which begins so
abbrev pub after_columns : (left : ℕ) → List OpUnit → ℕ
after_columns left [] = left
after_columns left (q ∷ qs) = after_columns (left + column_width q + 8) qs
