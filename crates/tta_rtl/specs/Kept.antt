-- The text of what registers take, piece by piece.
use Rattle.std.specs.Prelude.{ℕ, ◌+◌, ◌-◌, ◌==◌, ◌&&◌, Bool, true, if◌then◌else◌, List, [], ◌∷◌, ◌++◌, map, codes, decimal}
use Rattle.std.specs.List.{range_with_len}
use Rattle.tta_rtl.specs.Cited.{Dest, Template, Machine, is_dest_on, numbers, template_width, KeptReg, KeptImm, KeptRa, Signal, Slice, Const, Equal, Join, Plus, Pc, HasHalted, Underway, Goal, Ends, Word, Fetched, TemplateOf, LongOf, Keeps, Expression, hits, register_width, restarts, becomes, signal_name, text_of}
use Rattle.tta_hardware.specs.Signals.{Signal as Named, Whole}
use Rattle.tta_rtl.specs.Texts.{choice_start, register_line}

-- a word, or its lowest bit
abbrev pub cut : (one_bit : Bool) → Expression → Expression
cut one_bit word = if one_bit then Slice 0 1 word else word

-- what the move of a bus brings to a register, after the test whether it does; nothing where the bus does not lead there
unfoldable pub brought : Machine → Dest → (one_bit : Bool) → (bus : ℕ) → List ℕ
brought m dst one_bit bus =
    if is_dest_on m bus dst then choice_start (text_of m (hits m dst bus)) (text_of m (cut one_bit (Signal (Word bus)))) else []

-- whether the instruction has a template with a number
abbrev pub has_template : Machine → (template : ℕ) → Expression
has_template m template = Equal (Signal (Fetched TemplateOf)) (Const (template_width m) (template + 1))

-- the long immediate, after that test
unfoldable pub template_choice : Machine → (template : ℕ) → List ℕ
template_choice m template = choice_start (text_of m (has_template m template)) (text_of m (Signal (Fetched LongOf)))

-- the same, and nothing where the template writes another register
unfoldable pub long_choice : Machine → (unit index : ℕ) → ℕ × Template → List ℕ
long_choice m unit index t =
    if t.1.imm == unit && t.1.reg == index then template_choice m t.0 else []

-- so many registers of a file, and of an immediate unit
abbrev pub registers_of_file : (file size : ℕ) → List Named
registers_of_file file size = map (λ index. Keeps (KeptReg file index)) (numbers size)

abbrev pub registers_of_imm : (unit size : ℕ) → List Named
registers_of_imm unit size = map (λ index. Keeps (KeptImm unit index)) (numbers size)

-- the registers that say when control moves take effect
abbrev pub underways : Machine → List Named
underways m = map Underway (range_with_len 1 m.control.delay)

-- the name of what says whether a control move takes effect in so many cycles
unfoldable pub underway_name : (delay : ℕ) → List ℕ
underway_name delay = codes "n_underway_" ++ decimal delay

-- the registers that every machine has
abbrev pub fixed : List Named
fixed = Keeps KeptRa ∷ Pc ∷ Whole ∷ HasHalted ∷ Goal ∷ Ends ∷ []

-- the address to which a call returns
abbrev pub return_address : Machine → Expression
return_address m =
    Plus 32 (Join m.control.address (Const (32 - m.control.address) 0) (Signal Pc)) (Const 32 (1 + m.control.delay))

-- the line of a register by its name
abbrev pub line_of : Machine → (declares : Bool) → Named → List ℕ
line_of m declares n = register_line declares (register_width m n) (restarts n) (signal_name m n) (text_of m (becomes m n))

-- the line of a register of a file, and of an immediate unit
unfoldable pub file_line : Machine → (declares : Bool) → (file index : ℕ) → List ℕ
file_line m declares file index = line_of m declares (Keeps (KeptReg file index))

unfoldable pub imm_line : Machine → (declares : Bool) → (unit index : ℕ) → List ℕ
imm_line m declares unit index = line_of m declares (Keeps (KeptImm unit index))

-- the line of what says whether a control move takes effect in so many cycles
unfoldable pub underway_line : Machine → (declares : Bool) → (delay : ℕ) → List ℕ
underway_line m declares delay = register_line declares 1 true (underway_name delay) (text_of m (becomes m (Underway delay)))
