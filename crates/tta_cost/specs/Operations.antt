-- The depths of operations, by their names.
use Rattle.std.specs.Prelude.{ℕ, Bool, ◌||◌, if◌then◌else◌, List, [], codes, length, map, slice_index_or}
use Rattle.std.specs.Str.{bytes_eq}
use Rattle.tta_cost.specs.Cited.{Units, numbers, gate_depth, equal_depth, sum_depth, shift_depth, product_depth, quotient_depth}

-- whether an operation goes bit by bit
abbrev pub is_gate : (name : List ℕ) → Bool
is_gate name =
    bytes_eq name (codes "and") || (bytes_eq name (codes "or") || (bytes_eq name (codes "xor") || bytes_eq name (codes "not")))

-- whether it tells equal words
abbrev pub is_equality : (name : List ℕ) → Bool
is_equality name = bytes_eq name (codes "eq") || bytes_eq name (codes "ne")

-- whether it shifts
abbrev pub is_shift : (name : List ℕ) → Bool
is_shift name = bytes_eq name (codes "shl") || (bytes_eq name (codes "shr") || bytes_eq name (codes "shru"))

-- whether it multiplies
abbrev pub is_product : (name : List ℕ) → Bool
is_product name = bytes_eq name (codes "mul") || bytes_eq name (codes "mulhu")

-- whether it divides
abbrev pub is_quotient : (name : List ℕ) → Bool
is_quotient name = bytes_eq name (codes "divu") || bytes_eq name (codes "remu")

-- The depth of an operation. All that are named above none of these go through a sum, as comparisons do; and one of one's own counts as
-- a sum: what it is made of is not known here.
abbrev pub operation_depth : (name : List ℕ) → ℕ
operation_depth name =
    if is_gate name then gate_depth
    else if is_equality name then equal_depth
    else if is_shift name then shift_depth
    else if is_product name then product_depth
    else if is_quotient name then quotient_depth
    else sum_depth

-- the depths of all operations, by their numbers
abbrev pub operation_depths : Units → List ℕ
operation_depths u = map (λ op. operation_depth (slice_index_or u.names op [])) (numbers (length u.names))
