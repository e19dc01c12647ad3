-- How wide the parts of a machine are in its picture, so that their names stand beside one another.
use Rattle.std.specs.Prelude.{ℕ, ◌+◌, max, List, [], ◌∷◌, length, Option, slice_get}
use Rattle.std.specs.Option.{option_map_or}
use Rattle.tta_draw.specs.Cited.{Units, Bus, File, ImmUnit, Template, UnitOp, Machine, op_name, imm_name}
use Rattle.tta_arch.specs.declared.parts.Unit.{Unit as OpUnit}
use Rattle.tta_draw.specs.Widths.{text_width}

-- how much room a port takes: the name of its socket stands beside it
abbrev pub port_width : Machine → (socket : ℕ) → ℕ
port_width m socket = option_map_or (λ s. max 40 (text_width (length s.name))) (slice_get m.sockets socket) 40

-- the same for a port that a part may lack
abbrev pub port_width_if : Machine → Option ℕ → ℕ
port_width_if m socket = option_map_or (port_width m) socket 40

-- how wide a part is: its widest line and all its ports have room
abbrev pub part_width : (line ports : ℕ) → ℕ
part_width line ports = max (max 124 (line + 8)) (ports + 4)

-- a file, with a port in and one out
abbrev pub file_width : Machine → File → ℕ
file_width m f = part_width (text_width (length f.name)) (port_width m f.into + 40 + port_width m f.out)

-- an immediate unit
abbrev pub imm_width : Machine → ImmUnit → ℕ
imm_width m i = part_width (text_width (length i.name)) (80 + port_width m i.out)

-- a template, of which a line tells the register that it writes: a point and two digits follow its unit's name
abbrev pub template_width : Machine → Template → ℕ
template_width m t = part_width (max (text_width (length t.name)) (text_width (length (imm_name m t.imm)) + 21)) 120

-- the widest of a width and of the lines of operations: a blank and two digits follow an operation's name
abbrev pub wider_ops : Units → ℕ → List UnitOp → ℕ
wider_ops u w [] = w
wider_ops u w (o ∷ os) = wider_ops u (max w (text_width (length (op_name u o.op)) + 21)) os

-- a unit, with room for three ports
abbrev pub unit_width : Units → Machine → OpUnit → ℕ
unit_width u m q =
    part_width (wider_ops u (text_width (length q.name)) q.ops) (port_width_if m q.operand + port_width m q.trigger + port_width_if m q.result)

-- control
abbrev pub control_width : Machine → ℕ
control_width m = part_width 0 (40 + port_width m m.control.trigger + port_width_if m m.control.ra)

-- the widest of a width and of the names of buses
abbrev pub wider_buses : ℕ → List Bus → ℕ
wider_buses w [] = w
wider_buses w (b ∷ bs) = wider_buses (max w (text_width (length b.name))) bs

-- ---- the parts side by side: how far to the right the next one begins after parts of a kind, where the first of them begins so

abbrev pub after_files : Machine → (left : ℕ) → List File → ℕ
after_files m left [] = left
after_files m left (f ∷ fs) = after_files m (left + file_width m f + 16) fs

abbrev pub after_imms : Machine → (left : ℕ) → List ImmUnit → ℕ
after_imms m left [] = left
after_imms m left (i ∷ is) = after_imms m (left + imm_width m i + 16) is

abbrev pub after_templates : Machine → (left : ℕ) → List Template → ℕ
after_templates m left [] = left
after_templates m left (t ∷ ts) = after_templates m (left + template_width m t + 16) ts

abbrev pub after_units : Units → Machine → (left : ℕ) → List OpUnit → ℕ
after_units u m left [] = left
after_units u m left (q ∷ qs) = after_units u m (left + unit_width u m q + 16) qs
