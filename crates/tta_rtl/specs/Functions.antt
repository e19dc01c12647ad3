-- The text of the operations of a machine, as functions of two words.
use Rattle.std.specs.Prelude.{ℕ, ◌==◌, Bool, false, if◌then◌else◌, List, [], ◌∷◌, ◌++◌, Option, None, Some, is_some, codes, decimal, length, slice_index_or}
use Rattle.std.specs.List.{flat_map, list_any}
use Rattle.std.specs.Str.{bytes_eq}
use Rattle.tta_rtl.specs.Cited.{Units, or_else, numbers, Op, Set, UnitOp, Machine, Worked, divide_circuit, expression}
use Rattle.tta_rtl.specs.Variables.{before_word, port_names}
use Rattle.tta_arch.specs.declared.parts.Unit.{Unit as OpUnit}

-- ---- the standard operations

-- an operation by its name, and what its word is made of
pub record Standard : Type 0 where
  pub name : List ℕ
  pub word : List ℕ

abbrev pub by : (name word : List ℕ) → Standard
by name word = record { name = name; word = word }

-- sums and products
abbrev pub arithmetic : List Standard
arithmetic =
    by (codes "add") (codes "(a)+(b)")
    ∷ by (codes "sub") (codes "(a)-(b)")
    ∷ by (codes "mul") (codes "(a)*(b)")
    ∷ by (codes "mulhu") (codes "t_0[32+:32]")
    ∷ by (codes "neg") (codes "(32'd0)-(b)")
    ∷ []

-- operations on bits; `shr` copies the top bit
abbrev pub logic : List Standard
logic =
    by (codes "and") (codes "(a)&(b)")
    ∷ by (codes "or") (codes "(a)|(b)")
    ∷ by (codes "xor") (codes "(a)^(b)")
    ∷ by (codes "not") (codes "(b)^(32'd4294967295)")
    ∷ by (codes "shl") (codes "(a)<<(b[0+:5])")
    ∷ by (codes "shr") (codes "t_0[0+:32]")
    ∷ by (codes "shru") (codes "(a)>>(b[0+:5])")
    ∷ []

-- comparisons; `lt` and `gt` turn the top bits, so that words compare as signed numbers
abbrev pub comparisons : List Standard
comparisons =
    by (codes "eq") (codes "{31'd0,(a)==(b)}")
    ∷ by (codes "ne") (codes "{31'd0,!((a)==(b))}")
    ∷ by (codes "lt") (codes "{31'd0,({!(a[31+:1]),a[0+:31]})<({!(b[31+:1]),b[0+:31]})}")
    ∷ by (codes "gt") (codes "{31'd0,({!(b[31+:1]),b[0+:31]})<({!(a[31+:1]),a[0+:31]})}")
    ∷ by (codes "ltu") (codes "{31'd0,(a)<(b)}")
    ∷ by (codes "gtu") (codes "{31'd0,(b)<(a)}")
    ∷ []

-- divisions, whose last digit leaves a rest and the digits of the quotient
abbrev pub divisions : List Standard
divisions = by (codes "divu") (codes "t_159") ∷ by (codes "remu") (codes "t_158") ∷ []

-- what the word of the first of these with a name is made of
abbrev pub word_in : List Standard → (name : List ℕ) → Option (List ℕ)
word_in [] name = None
word_in (o ∷ ops) name = if bytes_eq name o.name then Some o.word else word_in ops name

-- what the word of the operation of a name is made of, if it is a standard one
abbrev pub word_of : (name : List ℕ) → Option (List ℕ)
word_of name = or_else (word_in arithmetic name) (or_else (word_in logic name) (or_else (word_in comparisons name) (word_in divisions name)))

-- whether the operation of a name is a standard one, and whether it is a division
abbrev pub is_standard : (name : List ℕ) → Bool
is_standard name = is_some (word_of name)

abbrev pub is_division : (name : List ℕ) → Bool
is_division name = is_some (word_in divisions name)

-- The lines before that word: some operations have wires of their own, which are variables. A division has five for each digit.
abbrev pub before_other : (name : List ℕ) → List ℕ
before_other name =
    if bytes_eq name (codes "mulhu") then codes "reg [63:0] t_0;\nbegin\nt_0 = ({32'd0,a})*({32'd0,b});\n"
    else if bytes_eq name (codes "shr")
    then codes "reg [63:0] t_0;\nbegin\nt_0 = ({(a[31+:1])?(32'd4294967295):32'd0,a})>>(b[0+:5]);\n"
    else codes "begin\n"

abbrev pub before_of : (name : List ℕ) → List ℕ
before_of name = if is_division name then before_word (divide_circuit 0) else before_other name

-- ---- which of them a machine offers

-- whether this is the operation of a number
abbrev pub has_number : (op : ℕ) → Op → Bool
has_number op (Set id) = id.0 == op
has_number op o = false

-- whether one of these operations is, and whether some unit offers it
abbrev pub is_among : (op : ℕ) → List UnitOp → Bool
is_among op ops = list_any (λ o. has_number op o.op) ops

abbrev pub is_offered : (op : ℕ) → List OpUnit → Bool
is_offered op all = list_any (λ u. is_among op u.ops) all

-- ---- their text

-- what stands between the name of an operation and its number, and after its number
abbrev pub before_number : List ℕ
before_number = codes "\nfunction [31:0] op_"

abbrev pub after_number : List ℕ
after_number = codes ";\ninput [31:0] a;\ninput [31:0] b;\n"

-- the lines of a function before what it makes; it is called by the number of its operation
unfoldable pub function_head : (op : ℕ) → (name : List ℕ) → List ℕ
function_head op name = codes "// " ++ (name ++ (before_number ++ (decimal op ++ after_number)))

-- its last lines: it takes its word
unfoldable pub function_end : (op : ℕ) → (word : List ℕ) → List ℕ
function_end op word = codes "op_" ++ (decimal op ++ (codes " = " ++ (word ++ codes ";\nend\nendfunction\n")))

-- a function by the lines before its word, and the word
abbrev pub made_text : (op : ℕ) → (name before word : List ℕ) → List ℕ
made_text op name before word = function_head op name ++ (before ++ function_end op word)

-- the function of a standard operation
abbrev pub standard_text : (op : ℕ) → (name word : List ℕ) → List ℕ
standard_text op name word = made_text op name (before_of name) word

-- the function that is the text of a circuit
abbrev pub circuit_text : (op : ℕ) → (name : List ℕ) → Worked → List ℕ
circuit_text op name w = made_text op name (before_word w) (expression port_names w.word)

-- what an operation of one's own makes of its two words: what a function makes of them that a file holds
unfoldable pub called_text : (op : ℕ) → (name : List ℕ) → List ℕ
called_text op name = codes "op_" ++ (decimal op ++ (codes " = own_" ++ (name ++ codes "(a, b);\nendfunction\n")))

-- The function of an operation of one's own. The designer writes the file NAME.v with the function own_NAME, which is to make of two
-- words what the unit makes of them.
unfoldable pub own_text : (op : ℕ) → (name : List ℕ) → List ℕ
own_text op name = codes "`include \"" ++ (name ++ (codes ".v\"\n" ++ (function_head op name ++ called_text op name)))

-- the function of the operation of a number and a name
abbrev pub operation_text : (op : ℕ) → (name : List ℕ) → List ℕ
operation_text op name = of (word_of name) where
  of : Option (List ℕ) → List ℕ
  of (Some word) = standard_text op name word
  of None = own_text op name

-- the same, if the machine offers the operation
abbrev pub offered_text : Units → Machine → (op : ℕ) → List ℕ
offered_text u m op = if is_offered op m.units then operation_text op (slice_index_or u.names op []) else []

-- the functions of all operations that the machine offers, by their numbers
abbrev pub functions_text : Units → Machine → List ℕ
functions_text u m = flat_map (offered_text u m) (numbers (length u.names))
