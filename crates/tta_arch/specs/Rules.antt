-- The rules that every machine keeps.
use Rattle.std.specs.Prelude.{◌≡◌, ℕ, ◌<◌, ◌≤◌, ◌^◌, ◌==◌, Bool, true, false, not, ◌&&◌, ◌||◌, nat_le, nat_lt, List, [], ◌∷◌, ◌++◌, length, map, filter, Option, is_some, slice_get, codes}
use Rattle.std.specs.Str.{bytes_eq}
use Rattle.std.specs.Option.{option_map_or}
use Rattle.std.specs.List.{list_all, list_any, AllByRecursion}
use Rattle.tta_text.specs.Words.{is_name}
use Rattle.tta_arch.specs.declared.parts.Bus.{Bus}
use Rattle.tta_arch.specs.declared.parts.Socket.{Socket}
use Rattle.tta_arch.specs.declared.parts.File.{File}
use Rattle.tta_arch.specs.declared.parts.ImmUnit.{ImmUnit}
use Rattle.tta_arch.specs.declared.parts.Unit.{Unit as OpUnit}
use Rattle.tta_arch.specs.declared.parts.UnitOp.{UnitOp}
use Rattle.tta_arch.specs.declared.parts.Op.{Op}
use Rattle.tta_arch.specs.declared.parts.Op.TheVariants.{Ldw, Stw, Ldf, Stf, Out, Take, Set}
use Rattle.tta_arch.specs.declared.parts.Guard.{Guard}
use Rattle.tta_arch.specs.declared.parts.Template.{Template}
use Rattle.tta_arch.specs.declared.parts.Control.{Control}
use Rattle.tta_arch.specs.Machine.{Machine}
use Rattle.tta_arch.specs.Joins.{is_same, is_same_guard}
use Rattle.tta_arch.specs.Effects.{has_result}
use Rattle.tta_arch.specs.Fields.{taken_width}

-- ---- names

-- a name that a machine may declare: a name of its text of at most 64 bytes, and not the name of control
pub record IsMachineName (name : List ℕ) : Type 0 where
  pub written : is_name name ≡ true
  pub short : length name ≤ 64
  pub free : bytes_eq name (codes "gcu") ≡ false

-- all names that a machine declares
abbrev pub names_of : Machine → List (List ℕ)
names_of m =
    map (λ b. b.name) m.buses ++ map (λ s. s.name) m.sockets ++ map (λ f. f.name) m.files ++ map (λ i. i.name) m.imms
    ++ map (λ u. u.name) m.units ++ map (λ t. t.name) m.templates

-- no item stands twice, by this test
abbrev pub are_different : {A : Type 0} → (A → A → Bool) → List A → Bool
are_different same [] = true
are_different same (x ∷ xs) = not (list_any (same x) xs) && are_different same xs

-- ---- parts

-- whether a socket of this direction has this number
abbrev pub is_socket : List Socket → (input : Bool) → ℕ → Bool
is_socket sockets input k = option_map_or (λ s. is_same input s.input) (slice_get sockets k) false

-- the same, where a port may be left out
abbrev pub is_port_socket : List Socket → (input : Bool) → Option ℕ → Bool
is_port_socket sockets input port = option_map_or (is_socket sockets input) port true

-- a set of the buses below n, at least one
abbrev pub IsBusSet : ℕ → ℕ → Type 0
IsBusSet n mask = (0 < mask) × (mask < 2 ^ n)

-- a number from a least to a greatest
abbrev pub is_from_to : (least greatest n : ℕ) → Bool
is_from_to least greatest n = nat_le least n && nat_le n greatest

-- a bus: 1 to 32 bits for a short word
abbrev pub is_bus : Bus → Bool
is_bus b = is_from_to 1 32 b.short

-- a file: 1 to 64 registers of 1 or 32 bits, 1 to 16 reads and writes a cycle, one socket out and one in
abbrev pub is_file : List Socket → File → Bool
is_file sockets f =
    (f.width == 1 || f.width == 32) && is_from_to 1 64 f.size && is_from_to 1 16 f.read && is_from_to 1 16 f.write
    && is_socket sockets false f.out && is_socket sockets true f.into

-- an immediate unit: 1 to 16 registers that share one output socket
abbrev pub is_imm : List Socket → ImmUnit → Bool
is_imm sockets i = is_from_to 1 16 i.size && is_socket sockets false i.out

-- whether an operation takes the words and shows the result that its kind asks for: an operation of the set of
-- units takes one word or two and shows its result after 1 to 16 cycles
abbrev pub fits_kind : UnitOp → Bool
fits_kind o = kind o.op where
  kind : Op → Bool
  kind Ldw = o.arity == 1 && is_from_to 1 16 o.latency
  kind Stw = o.arity == 2 && o.latency == 0
  kind Ldf = o.arity == 1 && is_from_to 1 16 o.latency
  kind Stf = o.arity == 2 && o.latency == 0
  kind Out = o.arity == 1 && o.latency == 0
  kind Take = o.arity == 1 && is_from_to 1 16 o.latency
  kind (Set id) = is_from_to 1 2 o.arity && is_from_to 1 16 o.latency

-- an operation of a unit: two words need an operand port, and a result needs a result port
abbrev pub is_unit_op : OpUnit → UnitOp → Bool
is_unit_op u o = fits_kind o && (o.arity == 1 || is_some u.operand) && (not (has_result o.op) || is_some u.result)

-- whether two operations are one
abbrev pub same_op : Op → Op → Bool
same_op Ldw Ldw = true
same_op Stw Stw = true
same_op Ldf Ldf = true
same_op Stf Stf = true
same_op Out Out = true
same_op Take Take = true
same_op (Set a) (Set b) = a.0 == b.0
same_op a b = false

-- a unit: at most 32 operations, each once
abbrev pub is_unit : List Socket → OpUnit → Bool
is_unit sockets u =
    is_socket sockets true u.trigger && is_port_socket sockets true u.operand && is_port_socket sockets false u.result
    && nat_le (length u.ops) 32 && list_all (is_unit_op u) u.ops && are_different (λ o p. same_op o.op p.op) u.ops

-- whether an operation belongs to what one unit alone may serve: the data space
abbrev pub is_data_op : Op → Bool
is_data_op o = same_op o Ldw || same_op o Stw

-- the same of the frame space
abbrev pub is_frame_op : Op → Bool
is_frame_op o = same_op o Ldf || same_op o Stf

-- the same of the input and the output, so that one unit orders both
abbrev pub is_stream_op : Op → Bool
is_stream_op o = same_op o Out || same_op o Take

-- at most one unit has an operation of this kind
abbrev pub has_one_owner : (Op → Bool) → List OpUnit → Bool
has_one_owner kind units = nat_le (length (filter (λ u. list_any (λ o. kind o.op) u.ops) units)) 1

-- a guard of a bus: a register of a file of width 1
abbrev pub is_guard : (buses : ℕ) → List File → Guard → Bool
is_guard buses files g =
    nat_lt g.bus buses && option_map_or (λ f. f.width == 1 && nat_lt g.on.index f.size) (slice_get files g.on.file) false

-- whether two guards of buses are one
abbrev pub same_guard : Guard → Guard → Bool
same_guard a b = a.bus == b.bus && is_same_guard a.on b.on

-- a template writes a register that there is
abbrev pub is_template : List ImmUnit → Template → Bool
is_template imms t = option_map_or (λ i. nat_lt t.reg i.size) (slice_get imms t.imm) false

-- control: a delay of at most 4, addresses of 1 to 16 bits, a socket in, and a socket out for the return address
abbrev pub is_control : List Socket → Control → Bool
is_control sockets c =
    nat_le c.delay 4 && is_from_to 1 16 c.address && is_socket sockets true c.trigger && is_port_socket sockets false c.ra

-- ---- machines

-- how many parts of each kind a machine may have
pub record HasLimits (m : Machine) : Type 0 where
  pub some_bus : 0 < length m.buses
  pub buses : length m.buses ≤ 16
  pub sockets : length m.sockets ≤ 128
  pub files : length m.files ≤ 8
  pub imms : length m.imms ≤ 4
  pub units : length m.units ≤ 32
  pub guards : length m.guards ≤ 64
  pub templates : length m.templates ≤ 8
  pub data_words : m.data_words ≤ 2 ^ 20
  pub frame_words : m.frame_words ≤ 65536

-- every machine is so
pub record IsMachine (m : Machine) : Type 0 where
  pub limits : HasLimits m
  pub names : AllByRecursion IsMachineName (names_of m)
  pub different : are_different bytes_eq (names_of m) ≡ true
  pub buses : list_all is_bus m.buses ≡ true
  pub sockets : AllByRecursion (λ s. IsBusSet (length m.buses) s.buses) m.sockets
  pub files : list_all (is_file m.sockets) m.files ≡ true
  pub imms : list_all (is_imm m.sockets) m.imms ≡ true
  pub units : list_all (is_unit m.sockets) m.units ≡ true
  pub one_data : has_one_owner is_data_op m.units ≡ true
  pub one_frame : has_one_owner is_frame_op m.units ≡ true
  pub one_stream : has_one_owner is_stream_op m.units ≡ true
  pub guards : list_all (is_guard (length m.buses) m.files) m.guards ≡ true
  pub different_guards : are_different same_guard m.guards ≡ true
  pub templates : list_all (is_template m.imms) m.templates ≡ true
  pub template_buses : AllByRecursion (λ t. IsBusSet (length m.buses) t.buses) m.templates
  pub wide : AllByRecursion (λ t. 32 ≤ taken_width m t.buses) m.templates
  pub control : is_control m.sockets m.control ≡ true
