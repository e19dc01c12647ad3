-- The forms of a machine text's lines: which words a declaration is made of. Each stands without its first word,
-- which chooses the form.
use Rattle.std.specs.Prelude.{ℕ, Bool, true, false, if◌then◌else◌, List, [], ◌∷◌, Option, Some, None, codes}
use Rattle.tta_machine.specs.Cited.{Lexeme, Line, is_keyword, is_mark, name_of, value_of, only_if}
use Rattle.tta_parse.specs.Steps.{◌>>?◌}

-- one of two words
abbrev pub one_of_two : (yes no : List ℕ) → Lexeme → Option Bool
one_of_two first second w = if is_keyword first w then Some true else if is_keyword second w then Some false else None

-- names alone
abbrev pub names_alone : Line → Option (List (List ℕ))
names_alone [] = Some []
names_alone (w ∷ ws) = name_of w >>? λ name. names_alone ws >>? λ names. Some (name ∷ names)

-- ---- bus NAME short N signed, or unsigned

-- what a bus line says
pub record BusForm : Type 0 where
  pub name : List ℕ
  pub short : ℕ
  pub signed : Bool

-- the words after `bus`, where they have this form
unfoldable pub bus_form : Line → Option BusForm
bus_form (n ∷ short ∷ bits ∷ sign ∷ []) =
    only_if (is_keyword (codes "short") short) (
    name_of n >>? λ name. value_of bits >>? λ count. one_of_two (codes "signed") (codes "unsigned") sign >>? λ signed.
    Some (record { name = name; short = count; signed = signed }))
bus_form line = None

-- ---- socket NAME in BUS .., or out

-- what a socket line says
pub record SocketForm : Type 0 where
  pub name : List ℕ
  pub input : Bool
  pub buses : List (List ℕ)

-- the words after `socket`, where they have this form
unfoldable pub socket_form : Line → Option SocketForm
socket_form (n ∷ direction ∷ bus ∷ buses) =
    name_of n >>? λ name. one_of_two (codes "in") (codes "out") direction >>? λ input. names_alone (bus ∷ buses) >>? λ all.
    Some (record { name = name; input = input; buses = all })
socket_form line = None

-- ---- file NAME width W size K read R write T out SOCKET in SOCKET

-- what a file line says
pub record FileForm : Type 0 where
  pub name : List ℕ
  pub width : ℕ
  pub size : ℕ
  pub read : ℕ
  pub write : ℕ
  pub out : List ℕ
  pub into : List ℕ

-- a word of the language and a number
abbrev pub keyed_value : (word : List ℕ) → (key value : Lexeme) → Option ℕ
keyed_value word key value = only_if (is_keyword word key) (value_of value)

-- a word of the language and a name
abbrev pub keyed_name : (word : List ℕ) → (key name : Lexeme) → Option (List ℕ)
keyed_name word key name = only_if (is_keyword word key) (name_of name)

-- the sockets of a file of these numbers
abbrev pub file_sockets : (name : List ℕ) → (width size read write : ℕ) → Line → Option FileForm
file_sockets name w s r t (k1 ∷ out ∷ k2 ∷ into ∷ []) =
    keyed_name (codes "out") k1 out >>? λ o. keyed_name (codes "in") k2 into >>? λ i.
    Some (record { name = name; width = w; size = s; read = r; write = t; out = o; into = i })
file_sockets name w s r t line = None

-- the words after `file`, where they have this form
unfoldable pub file_form : Line → Option FileForm
file_form (n ∷ k1 ∷ width ∷ k2 ∷ size ∷ k3 ∷ read ∷ k4 ∷ write ∷ k5 ∷ out ∷ k6 ∷ into ∷ []) =
    name_of n >>? λ name.
    keyed_value (codes "width") k1 width >>? λ w. keyed_value (codes "size") k2 size >>? λ s.
    keyed_value (codes "read") k3 read >>? λ r. keyed_value (codes "write") k4 write >>? λ t.
    keyed_name (codes "out") k5 out >>? λ o. keyed_name (codes "in") k6 into >>? λ i.
    Some (record { name = name; width = w; size = s; read = r; write = t; out = o; into = i })
file_form line = None

-- ---- imm NAME size K out SOCKET

-- what the line of an immediate unit says
pub record ImmForm : Type 0 where
  pub name : List ℕ
  pub size : ℕ
  pub out : List ℕ

-- the words after `imm`, where they have this form
unfoldable pub imm_form : Line → Option ImmForm
imm_form (n ∷ k1 ∷ size ∷ k2 ∷ out ∷ []) =
    name_of n >>? λ name. keyed_value (codes "size") k1 size >>? λ s. keyed_name (codes "out") k2 out >>? λ o.
    Some (record { name = name; size = s; out = o })
imm_form line = None

-- ---- unit NAME o SOCKET t SOCKET r SOCKET, where the first and the last pair may be left out

-- what a unit line says
pub record UnitForm : Type 0 where
  pub name : List ℕ
  pub operand : Option (List ℕ)
  pub trigger : List ℕ
  pub result : Option (List ℕ)

-- the pair of the trigger port, and then that of the result port or nothing
abbrev pub unit_ports : (name : List ℕ) → (operand : Option (List ℕ)) → Line → Option UnitForm
unit_ports name operand (k1 ∷ trigger ∷ []) =
    keyed_name (codes "t") k1 trigger >>? λ t. Some (record { name = name; operand = operand; trigger = t; result = None })
unit_ports name operand (k1 ∷ trigger ∷ k2 ∷ result ∷ []) =
    keyed_name (codes "t") k1 trigger >>? λ t. keyed_name (codes "r") k2 result >>? λ r.
    Some (record { name = name; operand = operand; trigger = t; result = Some r })
unit_ports name operand line = None

-- the words after `unit`, where they have this form
unfoldable pub unit_form : Line → Option UnitForm
unit_form (n ∷ k1 ∷ first ∷ rest) =
    name_of n >>? λ name.
    if is_keyword (codes "o") k1
    then (name_of first >>? λ o. unit_ports name (Some o) rest)
    else unit_ports name None (k1 ∷ first ∷ rest)
unit_form line = None

-- ---- op UNIT OPERATION L, or without a latency

-- what an operation line says
pub record OpForm : Type 0 where
  pub unit : List ℕ
  pub operation : List ℕ
  pub latency : Option ℕ

-- the words after `op`, where they have this form
unfoldable pub op_form : Line → Option OpForm
op_form (u ∷ o ∷ []) =
    name_of u >>? λ unit. name_of o >>? λ operation. Some (record { unit = unit; operation = operation; latency = None })
op_form (u ∷ o ∷ l ∷ []) =
    name_of u >>? λ unit. name_of o >>? λ operation. value_of l >>? λ latency.
    Some (record { unit = unit; operation = operation; latency = Some latency })
op_form line = None

-- ---- guard BUS FILE.INDEX plain, or inverted

-- what a guard line says
pub record GuardForm : Type 0 where
  pub bus : List ℕ
  pub file : List ℕ
  pub index : ℕ
  pub inverted : Bool

-- the words after `guard`, where they have this form
unfoldable pub guard_form : Line → Option GuardForm
guard_form (b ∷ f ∷ dot ∷ i ∷ sense ∷ []) =
    only_if (is_mark (codes ".") dot) (
    name_of b >>? λ bus. name_of f >>? λ file. value_of i >>? λ index. one_of_two (codes "inverted") (codes "plain") sense >>? λ inverted.
    Some (record { bus = bus; file = file; index = index; inverted = inverted }))
guard_form line = None

-- ---- template NAME IMM.INDEX BUS ..

-- what a template line says
pub record TemplateForm : Type 0 where
  pub name : List ℕ
  pub imm : List ℕ
  pub index : ℕ
  pub buses : List (List ℕ)

-- the words after `template`, where they have this form
unfoldable pub template_form : Line → Option TemplateForm
template_form (n ∷ u ∷ dot ∷ i ∷ bus ∷ buses) =
    only_if (is_mark (codes ".") dot) (
    name_of n >>? λ name. name_of u >>? λ imm. value_of i >>? λ index. names_alone (bus ∷ buses) >>? λ all.
    Some (record { name = name; imm = imm; index = index; buses = all }))
template_form line = None

-- ---- control delay D address A t SOCKET ra SOCKET, where the last pair may be left out

-- what a control line says
pub record ControlForm : Type 0 where
  pub delay : ℕ
  pub address : ℕ
  pub trigger : List ℕ
  pub ra : Option (List ℕ)

-- the pair of the return address, or nothing
abbrev pub ra_pair : Line → Option (Option (List ℕ))
ra_pair [] = Some None
ra_pair (key ∷ socket ∷ []) = keyed_name (codes "ra") key socket >>? λ name. Some (Some name)
ra_pair line = None

-- the words after `control`, where they have this form
unfoldable pub control_form : Line → Option ControlForm
control_form (k1 ∷ delay ∷ k2 ∷ address ∷ k3 ∷ trigger ∷ rest) =
    keyed_value (codes "delay") k1 delay >>? λ d. keyed_value (codes "address") k2 address >>? λ a.
    keyed_name (codes "t") k3 trigger >>? λ t. ra_pair rest >>? λ ra.
    Some (record { delay = d; address = a; trigger = t; ra = ra })
control_form line = None

-- ---- space data N, or frame

-- what the line of a space says
pub record SpaceForm : Type 0 where
  pub is_data : Bool
  pub size : ℕ

-- the words after `space`, where they have this form
unfoldable pub space_form : Line → Option SpaceForm
space_form (which ∷ n ∷ []) =
    one_of_two (codes "data") (codes "frame") which >>? λ is_data. value_of n >>? λ size.
    Some (record { is_data = is_data; size = size })
space_form line = None
