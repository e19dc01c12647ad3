-- A machine while its text is read: what the lines so far declare, and what their names name.
use Rattle.std.specs.Prelude.{ℕ, Bool, ◌||◌, if◌then◌else◌, List, [], length, Option, Some, None, is_some, codes, nat_lt, unwrap_or}
use Rattle.std.specs.Str.{bytes_eq}
use Rattle.std.specs.Option.{option_map_or}
use Rattle.tta_machine.specs.Cited.{named_in, Control, Machine, is_socket}
use Rattle.tta_machine.specs.declared.refusal.Refusal.{Refusal}
use Rattle.tta_machine.specs.declared.refusal.Refusal.TheVariants.{Syntax, Unknown, Twice, Range, Missing, TooNarrow}
use Rattle.tta_machine.specs.declared.draft.Named.{Named}
use Rattle.tta_machine.specs.declared.draft.Named.TheVariants as named
use Rattle.tta_machine.specs.declared.draft.Draft.{Draft}

-- the number of a refusal
abbrev pub code_of : Refusal → ℕ
code_of Syntax = 10
code_of Unknown = 11
code_of Twice = 12
code_of Range = 13
code_of Missing = 14
code_of TooNarrow = 15

-- before the first line
abbrev pub nothing : Draft
nothing = record {
  names = [];
  buses = [];
  sockets = [];
  files = [];
  imms = [];
  units = [];
  guards = [];
  templates = [];
  template_lines = [];
  control = None;
  data_words = None;
  frame_words = None;
}

-- ---- names

-- a name that cannot be declared once more: it is there already, or it is control's
abbrev pub is_taken : Draft → List ℕ → Bool
is_taken d name = is_some (named_in d.names name) || bytes_eq name (codes "gcu")

-- a declared name has at most 64 bytes
abbrev pub is_too_long : List ℕ → Bool
is_too_long name = nat_lt 64 (length name)

-- the number of a bus, where a name names one
abbrev pub bus_place : Named → Option ℕ
bus_place (named.Bus k) = Some k
bus_place place = None

-- the same of a socket
abbrev pub socket_place : Named → Option ℕ
socket_place (named.Socket k) = Some k
socket_place place = None

-- the same of a file
abbrev pub file_place : Named → Option ℕ
file_place (named.File k) = Some k
file_place place = None

-- the same of an immediate unit
abbrev pub imm_place : Named → Option ℕ
imm_place (named.Imm k) = Some k
imm_place place = None

-- the same of a unit
abbrev pub unit_place : Named → Option ℕ
unit_place (named.Unit k) = Some k
unit_place place = None

-- the bus of a name
abbrev pub bus_named : Draft → List ℕ → Option ℕ
bus_named d name = option_map_or bus_place (named_in d.names name) None

-- the socket of a name, where it has this direction
abbrev pub socket_named : Draft → (input : Bool) → List ℕ → Option ℕ
socket_named d input name = option_map_or of_direction (option_map_or socket_place (named_in d.names name) None) None where
  of_direction : ℕ → Option ℕ
  of_direction k = if is_socket d.sockets input k then Some k else None

-- the file of a name
abbrev pub file_named : Draft → List ℕ → Option ℕ
file_named d name = option_map_or file_place (named_in d.names name) None

-- the immediate unit of a name
abbrev pub imm_named : Draft → List ℕ → Option ℕ
imm_named d name = option_map_or imm_place (named_in d.names name) None

-- the unit of a name
abbrev pub unit_named : Draft → List ℕ → Option ℕ
unit_named d name = option_map_or unit_place (named_in d.names name) None

-- ---- the machine

-- what was declared, as a machine; a space without a line has no words
abbrev pub machine_of : Draft → Control → Machine
machine_of d control = record {
  buses = d.buses;
  sockets = d.sockets;
  files = d.files;
  imms = d.imms;
  units = d.units;
  guards = d.guards;
  templates = d.templates;
  control = control;
  data_words = unwrap_or d.data_words 0;
  frame_words = unwrap_or d.frame_words 0;
}

-- a machine without its templates
abbrev pub without_templates : Machine → Machine
without_templates m = record m { templates = [] }
