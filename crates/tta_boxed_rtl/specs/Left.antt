-- Which operations are left to modules, and the functions of those that the circuit makes itself.
use Rattle.std.specs.Prelude.{ℕ, Bool, false, not, ◌&&◌, ◌||◌, if◌then◌else◌, List, [], Option, Some, None, is_some, codes, length, map, slice_index_or}
use Rattle.std.specs.List.{enumerate_from, flat_map, list_any}
use Rattle.std.specs.Str.{bytes_eq}
use Rattle.tta_boxed_rtl.specs.Cited.{Units, numbers, Machine, Op, Set, UnitOp, has_number, is_standard, operation_text, is_left, left_ops}
use Rattle.tta_arch.specs.declared.parts.Unit.{Unit as OpUnit}
use Rattle.tta_divider.specs.declared.kind.Kind.{Kind}
use Rattle.tta_divider.specs.declared.kind.Kind.TheVariants as kind
use Rattle.tta_boxed_rtl.specs.declared.left.Left.{Left}

-- ---- which they are

-- what a division gives, by its name
abbrev pub kind_of : (name : List ℕ) → Option Kind
kind_of name =
    if bytes_eq name (codes "divu") then Some kind.Quotient else if bytes_eq name (codes "remu") then Some kind.Remainder else None

-- whether an operation may be left to a module, by its name: a division, or one that is no standard one
abbrev pub may_be_left : (name : List ℕ) → Bool
may_be_left name = is_some (kind_of name) || not (is_standard name)

-- a test of the numbers of operations, by a list that tells it of each
abbrev pub told_by : List Bool → (op : ℕ) → Bool
told_by test op = slice_index_or test op false

-- the test of those that may be left
abbrev pub leaves_of : Units → (op : ℕ) → Bool
leaves_of u = told_by (map may_be_left u.names)

-- all operations that are left, each with its unit and its number
abbrev pub all_left : Machine → (leaves : ℕ → Bool) → List (ℕ × (ℕ × UnitOp))
all_left m leaves = flat_map (λ u. map (λ o. (u.0, o)) (left_ops m leaves u.0)) (enumerate_from 0 m.units)

-- the same, as the writers are given them
abbrev pub lefts : List Left → List (ℕ × (ℕ × UnitOp))
lefts ls = map (λ l. (l.unit, (l.op, l.o))) ls

-- what an operation is called
abbrev pub op_name : Units → Op → List ℕ
op_name u (Set id) = slice_index_or u.names id.0 []
op_name u op = []

-- ---- functions

-- whether an operation of a unit is the one of a number, and the circuit makes it itself
abbrev pub is_made : Machine → (leaves : ℕ → Bool) → (op : ℕ) → UnitOp → Bool
is_made m leaves op o = has_number op o.op && not (is_left m leaves o)

-- whether one of these operations is so, and whether one of some unit is
abbrev pub is_made_among : Machine → (leaves : ℕ → Bool) → (op : ℕ) → List UnitOp → Bool
is_made_among m leaves op ops = list_any (is_made m leaves op) ops

abbrev pub is_made_by : Machine → (leaves : ℕ → Bool) → (op : ℕ) → List OpUnit → Bool
is_made_by m leaves op all = list_any (λ u. is_made_among m leaves op u.ops) all

-- the function of the operation of a number, if some unit has it made by the circuit
abbrev pub made_function : Units → Machine → (leaves : ℕ → Bool) → (op : ℕ) → List ℕ
made_function u m leaves op = if is_made_by m leaves op m.units then operation_text op (slice_index_or u.names op []) else []

-- the functions of all these operations, by their numbers
abbrev pub functions_text : Units → Machine → (leaves : ℕ → Bool) → List ℕ
functions_text u m leaves = flat_map (made_function u m leaves) (numbers (length u.names))
