-- The forms of a program text's lines.
use Rattle.std.specs.Prelude.{ℕ, not, if◌then◌else◌, List, [], ◌∷◌, Option, Some, None, codes}
use Rattle.tta_tac.specs.Cited.{Lexeme, Line, is_keyword, is_mark, name_of, value_of, constant_of, only_if, is_reserved, Rel, Eq, Ne, Lt, Ge, Ltu, Geu}
use Rattle.tta_parse.specs.Steps.{◌>>?◌}

-- ---- words

-- a name that is no reserved word
abbrev pub free_name : Lexeme → Option (List ℕ)
free_name w = name_of w >>? λ name. only_if (not (is_reserved name)) (Some name)

-- an operand: the name of a variable, or a constant
pub data Operand : Type 0 where
  Named : List ℕ → Operand
  Constant : ℕ → Operand

-- a constant as an operand, where there is one
abbrev pub constant_operand : Option ℕ → Option Operand
constant_operand None = None
constant_operand (Some n) = Some (Constant n)

-- a name as an operand, or else a constant
abbrev pub or_constant : Option (List ℕ) → Option ℕ → Option Operand
or_constant (Some name) constant = Some (Named name)
or_constant None constant = constant_operand constant

-- what a word is as an operand
abbrev pub operand_of : Lexeme → Option Operand
operand_of w = or_constant (free_name w) (constant_of w)

-- operands alone
abbrev pub operands_alone : Line → Option (List Operand)
operands_alone [] = Some []
operands_alone (w ∷ ws) = operand_of w >>? λ first. operands_alone ws >>? λ rest. Some (first ∷ rest)

-- free names alone
abbrev pub names_alone : Line → Option (List (List ℕ))
names_alone [] = Some []
names_alone (w ∷ ws) = free_name w >>? λ first. names_alone ws >>? λ rest. Some (first ∷ rest)

-- the relation of a condition
abbrev pub rel_of : Lexeme → Option Rel
rel_of w =
    if is_keyword (codes "eq") w then Some Eq
    else if is_keyword (codes "ne") w then Some Ne
    else if is_keyword (codes "lt") w then Some Lt
    else if is_keyword (codes "ge") w then Some Ge
    else if is_keyword (codes "ltu") w then Some Ltu
    else if is_keyword (codes "geu") w then Some Geu
    else None

-- ---- lines

-- what a line says, its names as they stand
pub data Form : Type 0 where
  ProcForm : (name : List ℕ) (params : List (List ℕ)) → Form
  DataForm : (address value : ℕ) → Form
  LabelForm : (name : List ℕ) → Form
  CopyForm : (d : List ℕ) (s : Operand) → Form
  ApplyForm : (d op : List ℕ) (operands : List Operand) → Form
  LoadForm : (d : List ℕ) (a : Operand) → Form
  StoreForm : (a v : Operand) → Form
  PutForm : (v : Operand) → Form
  TakeForm : (d : List ℕ) → Form
  IfForm : (rel : Rel) (a b : Operand) (label : List ℕ) → Form
  GotoForm : (label : List ℕ) → Form
  WhenForm : (rel : Rel) (a b : Operand) (d : List ℕ) (s : Operand) → Form
  CallForm : (d : Option (List ℕ)) (callee : List ℕ) (args : List Operand) → Form
  ReturnForm : (s : Option Operand) → Form
  HaltForm : Form
  EndForm : Form

-- proc NAME x ..
unfoldable pub proc_form : Line → Option Form
proc_form (n ∷ params) = free_name n >>? λ name. names_alone params >>? λ all. Some (ProcForm name all)
proc_form line = None

-- data A V
unfoldable pub data_form : Line → Option Form
data_form (a ∷ v ∷ []) = value_of a >>? λ address. constant_of v >>? λ value. Some (DataForm address value)
data_form line = None

-- store a v
unfoldable pub store_form : Line → Option Form
store_form (a ∷ v ∷ []) = operand_of a >>? λ address. operand_of v >>? λ value. Some (StoreForm address value)
store_form line = None

-- out v
unfoldable pub put_form : Line → Option Form
put_form (v ∷ []) = operand_of v >>? λ value. Some (PutForm value)
put_form line = None

-- if REL a b goto NAME
unfoldable pub if_form : Line → Option Form
if_form (r ∷ a ∷ b ∷ goto ∷ n ∷ []) =
    only_if (is_keyword (codes "goto") goto) (
    rel_of r >>? λ rel. operand_of a >>? λ left. operand_of b >>? λ right. free_name n >>? λ label. Some (IfForm rel left right label))
if_form line = None

-- goto NAME
unfoldable pub goto_form : Line → Option Form
goto_form (n ∷ []) = free_name n >>? λ label. Some (GotoForm label)
goto_form line = None

-- when REL a b d = s
unfoldable pub when_form : Line → Option Form
when_form (r ∷ a ∷ b ∷ d ∷ equals ∷ s ∷ []) =
    only_if (is_mark (codes "=") equals) (
    rel_of r >>? λ rel. operand_of a >>? λ left. operand_of b >>? λ right. free_name d >>? λ target. operand_of s >>? λ value.
    Some (WhenForm rel left right target value))
when_form line = None

-- call NAME s .., after a destination or none
unfoldable pub call_form : Option (List ℕ) → Line → Option Form
call_form d (n ∷ args) = free_name n >>? λ callee. operands_alone args >>? λ all. Some (CallForm d callee all)
call_form d line = None

-- return, and return s
unfoldable pub return_form : Line → Option Form
return_form [] = Some (ReturnForm None)
return_form (s ∷ []) = operand_of s >>? λ value. Some (ReturnForm (Some value))
return_form line = None

-- a word that stands alone
abbrev pub alone_form : Form → Line → Option Form
alone_form form [] = Some form
alone_form form line = None

-- d = s, d = in, d = load a, d = call NAME s .., d = OPERATION s and d = OPERATION a b, after the equals sign
unfoldable pub assign_form : (d : List ℕ) → Line → Option Form
assign_form d (s ∷ []) =
    if is_keyword (codes "in") s then Some (TakeForm d) else operand_of s >>? λ value. Some (CopyForm d value)
assign_form d (w ∷ a ∷ rest) =
    if is_keyword (codes "call") w then call_form (Some d) (a ∷ rest)
    else if is_keyword (codes "load") w then load_form rest
    else apply_form rest where
      load_form : Line → Option Form
      load_form [] = operand_of a >>? λ address. Some (LoadForm d address)
      load_form more = None

      apply_form : Line → Option Form
      apply_form [] = free_name w >>? λ op. operand_of a >>? λ only. Some (ApplyForm d op (only ∷ []))
      apply_form (b ∷ []) = free_name w >>? λ op. operand_of a >>? λ left. operand_of b >>? λ right. Some (ApplyForm d op (left ∷ right ∷ []))
      apply_form more = None
assign_form d line = None

-- NAME : and the assignments
unfoldable pub named_form : Lexeme → Line → Option Form
named_form n (mark ∷ rest) =
    free_name n >>? λ name.
    if is_mark (codes "=") mark then assign_form name rest
    else only_if (is_mark (codes ":") mark) (alone_form (LabelForm name) rest)
named_form n line = None

-- a line that is not blank, by its first word
unfoldable pub form_of : Lexeme → Line → Option Form
form_of key words =
    if is_keyword (codes "proc") key then proc_form words
    else if is_keyword (codes "data") key then data_form words
    else if is_keyword (codes "store") key then store_form words
    else if is_keyword (codes "out") key then put_form words
    else if is_keyword (codes "if") key then if_form words
    else if is_keyword (codes "goto") key then goto_form words
    else if is_keyword (codes "when") key then when_form words
    else if is_keyword (codes "call") key then call_form None words
    else if is_keyword (codes "return") key then return_form words
    else if is_keyword (codes "halt") key then alone_form HaltForm words
    else if is_keyword (codes "end") key then alone_form EndForm words
    else named_form key words
