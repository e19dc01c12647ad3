-- What a machine text says, read from all its lines at once: which lines declare what, each part from its own line with
-- names replaced by their places, and a unit with the operations of all lines that name it.
use Rattle.std.specs.Prelude.{◌≡◌, ℕ, Bool, true, not, ◌&&◌, ◌||◌, List, [], ◌∷◌, map, filter, filter_map, Option, Some, None, is_some, option_map, codes}
use Rattle.std.specs.Str.{bytes_eq}
use Rattle.std.specs.Option.{option_map_or}
use Rattle.std.specs.List.{list_all, list_any, position_or_len}
use Rattle.tta_machine.specs.Cited.{Line, is_keyword, only_if, Units, Bus, Socket, File, ImmUnit, UnitOp, Guard, Template, Control, Machine}
use Rattle.tta_arch.specs.declared.parts.Unit.{Unit as OpUnit}
use Rattle.tta_machine.specs.Forms.{BusForm, SocketForm, FileForm, ImmForm, UnitForm, OpForm, GuardForm, TemplateForm, ControlForm, SpaceForm, bus_form, socket_form, file_form, imm_form, unit_form, op_form, guard_form, template_form, control_form, space_form}
use Rattle.tta_machine.specs.Declarations.{bus_set, op_named, arity_of}

-- ---- lines of a kind

-- what a line declares as a line of one kind: it begins with the kind's word, and its form follows
abbrev pub declared_as : {F : Type 0} → (word : List ℕ) → (form : Line → Option F) → Line → Option F
declared_as word form [] = None
declared_as word form (key ∷ words) = only_if (is_keyword word key) (form words)

-- what the bus lines of a text declare, in text order
abbrev pub bus_lines : List Line → List BusForm
bus_lines lines = filter_map (declared_as (codes "bus") bus_form) lines

-- the same of the socket lines
abbrev pub socket_lines : List Line → List SocketForm
socket_lines lines = filter_map (declared_as (codes "socket") socket_form) lines

-- of the file lines
abbrev pub file_lines : List Line → List FileForm
file_lines lines = filter_map (declared_as (codes "file") file_form) lines

-- of the lines of immediate units
abbrev pub imm_lines : List Line → List ImmForm
imm_lines lines = filter_map (declared_as (codes "imm") imm_form) lines

-- of the unit lines
abbrev pub unit_lines : List Line → List UnitForm
unit_lines lines = filter_map (declared_as (codes "unit") unit_form) lines

-- of the operation lines
abbrev pub op_lines : List Line → List OpForm
op_lines lines = filter_map (declared_as (codes "op") op_form) lines

-- of the guard lines
abbrev pub guard_lines : List Line → List GuardForm
guard_lines lines = filter_map (declared_as (codes "guard") guard_form) lines

-- of the template lines
abbrev pub template_lines : List Line → List TemplateForm
template_lines lines = filter_map (declared_as (codes "template") template_form) lines

-- of the control lines
abbrev pub control_lines : List Line → List ControlForm
control_lines lines = filter_map (declared_as (codes "control") control_form) lines

-- of the lines of both spaces
abbrev pub space_lines : List Line → List SpaceForm
space_lines lines = filter_map (declared_as (codes "space") space_form) lines

-- a line is blank or of one of the kinds
abbrev pub is_declaration : Line → Bool
is_declaration [] = true
is_declaration (key ∷ words) =
    let line : Line = key ∷ words in
    is_some (declared_as (codes "bus") bus_form line)
    || is_some (declared_as (codes "socket") socket_form line)
    || is_some (declared_as (codes "file") file_form line)
    || is_some (declared_as (codes "imm") imm_form line)
    || is_some (declared_as (codes "unit") unit_form line)
    || is_some (declared_as (codes "op") op_form line)
    || is_some (declared_as (codes "guard") guard_form line)
    || is_some (declared_as (codes "template") template_form line)
    || is_some (declared_as (codes "control") control_form line)
    || is_some (declared_as (codes "space") space_form line)

-- ---- names and their places

-- the names of the buses, in text order
abbrev pub bus_names : List Line → List (List ℕ)
bus_names lines = map (λ f. f.name) (bus_lines lines)

-- of the sockets
abbrev pub socket_names : List Line → List (List ℕ)
socket_names lines = map (λ f. f.name) (socket_lines lines)

-- of the files
abbrev pub file_names : List Line → List (List ℕ)
file_names lines = map (λ f. f.name) (file_lines lines)

-- of the immediate units
abbrev pub imm_names : List Line → List (List ℕ)
imm_names lines = map (λ f. f.name) (imm_lines lines)

-- of the units
abbrev pub unit_names : List Line → List (List ℕ)
unit_names lines = map (λ f. f.name) (unit_lines lines)

-- the place of a name among the names of its kind, counted from 0
abbrev pub place_of : List (List ℕ) → List ℕ → ℕ
place_of names name = position_or_len (bytes_eq name) names

-- ---- the part that a line makes

-- a bus
abbrev pub bus_made : BusForm → Bus
bus_made f = record { name = f.name; short = f.short; signed = f.signed }

-- a socket, with the set of its buses
abbrev pub socket_made : (buses : List (List ℕ)) → SocketForm → Socket
socket_made buses f = record { name = f.name; input = f.input; buses = bus_set (map (place_of buses) f.buses) }

-- a file between two sockets
abbrev pub file_made : (sockets : List (List ℕ)) → FileForm → File
file_made sockets f = record {
  name = f.name;
  width = f.width;
  size = f.size;
  read = f.read;
  write = f.write;
  out = place_of sockets f.out;
  into = place_of sockets f.into;
}

-- an immediate unit with its socket
abbrev pub imm_made : (sockets : List (List ℕ)) → ImmForm → ImmUnit
imm_made sockets f = record { name = f.name; size = f.size; out = place_of sockets f.out }

-- an operation with its number of words, and with latency 0 where its line has none
abbrev pub op_made : Units → OpForm → Option UnitOp
op_made u f =
    option_map (λ o. record { op = o; arity = arity_of u o; latency = option_map_or (λ l. l) f.latency 0 }) (op_named u f.latency f.operation)

-- an operation line names a unit, and an operation in the form of its kind
abbrev pub is_known_op : Units → (units : List (List ℕ)) → OpForm → Bool
is_known_op u units f = list_any (bytes_eq f.unit) units && is_some (op_made u f)

-- the operations of the unit of a name, in text order
abbrev pub ops_of : Units → List OpForm → (unit : List ℕ) → List UnitOp
ops_of u ops unit = filter_map (op_made u) (filter (λ f. bytes_eq f.unit unit) ops)

-- a unit with its ports' sockets and the operations of all lines that name it
abbrev pub unit_made : Units → (sockets : List (List ℕ)) → List OpForm → UnitForm → OpUnit
unit_made u sockets ops f = record {
  name = f.name;
  operand = option_map (place_of sockets) f.operand;
  trigger = place_of sockets f.trigger;
  result = option_map (place_of sockets) f.result;
  ops = ops_of u ops f.name;
}

-- a guard of a bus
abbrev pub guard_made : (buses files : List (List ℕ)) → GuardForm → Guard
guard_made buses files f = record {
  bus = place_of buses f.bus;
  on = record { file = place_of files f.file; index = f.index; inverted = f.inverted };
}

-- a template with the set of its buses
abbrev pub template_made : (buses imms : List (List ℕ)) → TemplateForm → Template
template_made buses imms f = record {
  name = f.name;
  imm = place_of imms f.imm;
  reg = f.index;
  buses = bus_set (map (place_of buses) f.buses);
}

-- control with its sockets
abbrev pub control_made : (sockets : List (List ℕ)) → ControlForm → Control
control_made sockets f = record {
  delay = f.delay;
  address = f.address;
  trigger = place_of sockets f.trigger;
  ra = option_map (place_of sockets) f.ra;
}

-- the size of the data space, where a line gives it
abbrev pub data_size : SpaceForm → Option ℕ
data_size f = only_if f.is_data (Some f.size)

-- the size of the frame space, where a line gives it
abbrev pub frame_size : SpaceForm → Option ℕ
frame_size f = only_if (not f.is_data) (Some f.size)

-- at most one line gives the size, and without one it is 0
abbrev pub IsSize : List ℕ → ℕ → Type 0
IsSize [] size = size ≡ 0
IsSize (given ∷ []) size = size ≡ given
IsSize (given ∷ another ∷ more) size = ⊥

-- ---- a text and its machine

-- a text of these lines describes this machine
pub record IsMachineText (u : Units) (lines : List Line) (m : Machine) : Type 0 where
  pub all : list_all is_declaration lines ≡ true
  pub known_ops : list_all (is_known_op u (unit_names lines)) (op_lines lines) ≡ true
  pub buses : m.buses ≡ map bus_made (bus_lines lines)
  pub sockets : m.sockets ≡ map (socket_made (bus_names lines)) (socket_lines lines)
  pub files : m.files ≡ map (file_made (socket_names lines)) (file_lines lines)
  pub imms : m.imms ≡ map (imm_made (socket_names lines)) (imm_lines lines)
  pub units : m.units ≡ map (unit_made u (socket_names lines) (op_lines lines)) (unit_lines lines)
  pub guards : m.guards ≡ map (guard_made (bus_names lines) (file_names lines)) (guard_lines lines)
  pub templates : m.templates ≡ map (template_made (bus_names lines) (imm_names lines)) (template_lines lines)
  pub control : m.control ∷ [] ≡ map (control_made (socket_names lines)) (control_lines lines)
  pub data_words : IsSize (filter_map data_size (space_lines lines)) m.data_words
  pub frame_words : IsSize (filter_map frame_size (space_lines lines)) m.frame_words
