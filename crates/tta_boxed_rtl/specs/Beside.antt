-- The text of the modules beside a circuit, and of what joins them to it.
use Rattle.std.specs.Prelude.{ℕ, ◌-◌, ◌==◌, Bool, if◌then◌else◌, List, [], ◌++◌, Option, Some, None, codes, decimal}
use Rattle.std.specs.List.{flat_map}
use Rattle.tta_boxed_rtl.specs.Cited.{Units, UnitOp, Machine, Signal, Boxes, Expression, Operand, Shows, Trigger, nothing, counted, signal_name, text_of, unit_name, box_inputs, divider_text, range}
use Rattle.tta_hardware.specs.Signals.{Signal as Named}
use Rattle.tta_divider.specs.declared.kind.Kind.{Kind}
use Rattle.tta_boxed_rtl.specs.Left.{all_left, kind_of, op_name}

-- ---- what modules show

-- the declaration of a word that a module shows
unfoldable pub made_line : Machine → Named × ℕ → List ℕ
made_line m i = codes "wire " ++ (range i.1 ++ (signal_name m i.0 ++ codes ";\n"))

-- all of them
abbrev pub made_lines : Machine → (leaves : ℕ → Bool) → List ℕ
made_lines m leaves = flat_map (made_line m) (box_inputs m leaves)

-- ---- where they stand

-- the first word that the module of an operation is given: 0 where the operation takes one word alone
abbrev pub first_word : (unit : ℕ) → UnitOp → Expression
first_word unit o = if o.arity == 2 then Signal (Operand unit) else nothing

-- the name of the module that divides
abbrev pub divider_name : Machine → (unit op : ℕ) → List ℕ
divider_name m unit op = counted (codes "divider_") (unit_name m unit) op

-- the module of an operation of the designer's own, with so many stages
unfoldable pub own_module : (name : List ℕ) → (stages : ℕ) → List ℕ
own_module name stages = codes "box_" ++ (name ++ (codes " #(.STAGES(" ++ (decimal stages ++ codes "))")))

-- The module that an operation is left to: one that divides has its stages in its own text.
abbrev pub module_of : Units → Machine → ℕ × (ℕ × UnitOp) → List ℕ
module_of u m l = on (kind_of (op_name u l.1.1.op)) where
  on : Option Kind → List ℕ
  on (Some k) = divider_name m l.0 l.1.0
  on None = own_module (op_name u l.1.1.op) (l.1.1.latency - 1)

-- the ports of that module with what they are joined to
unfoldable pub joined_ports : Machine → ℕ × (ℕ × UnitOp) → List ℕ
joined_ports m l =
    codes " (.clk(clk), .enable(n_goes), .a(" ++ (text_of m (first_word l.0 l.1.1) ++ (codes "), .b("
    ++ (signal_name m (Trigger l.0) ++ (codes "), .word(" ++ (signal_name m (Boxes (Shows l.0 l.1.0)) ++ codes "));\n")))))

-- the line of a module: which it is, what it is called, and its ports
unfoldable pub module_line : Units → Machine → ℕ × (ℕ × UnitOp) → List ℕ
module_line u m l = module_of u m l ++ (counted (codes " module_") (unit_name m l.0) l.1.0 ++ joined_ports m l)

-- all of them
abbrev pub module_lines : Units → Machine → (leaves : ℕ → Bool) → List ℕ
module_lines u m leaves = flat_map (module_line u m) (all_left m leaves)

-- ---- their own text

-- the text of the module that an operation is left to, if that divides; the designer writes those of other operations
abbrev pub divider_of : Units → Machine → ℕ × (ℕ × UnitOp) → List ℕ
divider_of u m l = on (kind_of (op_name u l.1.1.op)) where
  on : Option Kind → List ℕ
  on (Some k) = divider_text (divider_name m l.0 l.1.0) k (l.1.1.latency - 1)
  on None = []

-- those of all
abbrev pub dividers_text : Units → Machine → (leaves : ℕ → Bool) → List ℕ
dividers_text u m leaves = flat_map (divider_of u m) (all_left m leaves)
