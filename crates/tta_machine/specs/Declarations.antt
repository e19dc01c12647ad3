-- What each declaration does to a machine that is being read, and when it is refused. Where several refusals of a line
-- hold, the first in their order is reported: unknown, twice, range, missing.
use Rattle.std.specs.Prelude.{ℕ, ◌+◌, ◌^◌, ◌==◌, Bool, true, false, not, ◌&&◌, ◌||◌, nat_lt, nat_le, if◌then◌else◌, List, [], ◌∷◌, ◌++◌, length, Option, Some, None, is_some, is_none, slice_get, slice_set, Result, Ok, codes, option_map}
use Rattle.std.specs.Str.{bytes_eq}
use Rattle.std.specs.Option.{option_map_or}
use Rattle.std.specs.List.{list_any}
use Rattle.tta_machine.specs.Cited.{or_refuse, refuse_if, Units, named, UnitOp, Op, Ldw, Stw, Ldf, Stf, Out, Take, Set, Guard, is_from_to, are_different, same_op, is_data_op, is_frame_op, is_stream_op, same_guard, has_result}
use Rattle.tta_parse.specs.Steps.{◌>>=◌, ◌>>?◌}
use Rattle.std.specs.Prelude.{get_or}
use Rattle.tta_machine.specs.declared.refusal.Refusal.{Refusal}
use Rattle.tta_machine.specs.declared.refusal.Refusal.TheVariants.{Unknown, Twice, Range, Missing}
use Rattle.tta_machine.specs.declared.draft.Named.TheVariants as place
use Rattle.tta_machine.specs.declared.draft.Draft.{Draft}
use Rattle.tta_arch.specs.declared.parts.Unit.{Unit as OpUnit}
use Rattle.tta_machine.specs.Forms.{BusForm, SocketForm, FileForm, ImmForm, UnitForm, OpForm, GuardForm, TemplateForm, ControlForm, SpaceForm}
use Rattle.tta_machine.specs.Draft.{is_taken, is_too_long, bus_named, socket_named, file_named, imm_named, unit_named}

-- ---- buses and sockets

-- the draft with a bus more
unfoldable pub take_bus : Draft → BusForm → Result Draft Refusal
take_bus d f =
    refuse_if (is_taken d f.name) Twice (
    refuse_if (not (is_from_to 1 32 f.short) || is_too_long f.name || nat_le 16 (length d.buses)) Range (
    Ok (record d {
      names = d.names ++ (f.name, place.Bus (length d.buses)) ∷ [];
      buses = d.buses ++ record { name = f.name; short = f.short; signed = f.signed } ∷ [];
    })))

-- the buses of names, where each is one
abbrev pub buses_named : Draft → List (List ℕ) → Option (List ℕ)
buses_named d [] = Some []
buses_named d (name ∷ names) = bus_named d name >>? λ bus. buses_named d names >>? λ buses. Some (bus ∷ buses)

-- a set of buses, one bit each
abbrev pub bus_set : List ℕ → ℕ
bus_set [] = 0
bus_set (bus ∷ buses) = 2 ^ bus + bus_set buses

-- the draft with a socket more, at buses that are there, each of them once
unfoldable pub take_socket : Draft → SocketForm → Result Draft Refusal
take_socket d f =
    or_refuse Unknown (buses_named d f.buses) >>= λ buses.
    refuse_if (is_taken d f.name || not (are_different (λ a b. a == b) buses)) Twice (
    refuse_if (is_too_long f.name || nat_le 128 (length d.sockets)) Range (
    Ok (record d {
      names = d.names ++ (f.name, place.Socket (length d.sockets)) ∷ [];
      sockets = d.sockets ++ record { name = f.name; input = f.input; buses = bus_set buses } ∷ [];
    })))

-- ---- files and immediate units

-- the draft with a register file more, between a socket out and a socket in
unfoldable pub take_file : Draft → FileForm → Result Draft Refusal
take_file d f =
    or_refuse Unknown (socket_named d false f.out) >>= λ out.
    or_refuse Unknown (socket_named d true f.into) >>= λ into.
    refuse_if (is_taken d f.name) Twice (
    refuse_if (
    not (f.width == 1 || f.width == 32) || not (is_from_to 1 64 f.size) || not (is_from_to 1 16 f.read) || not (is_from_to 1 16 f.write)
    || is_too_long f.name || nat_le 8 (length d.files)) Range (
    Ok (record d {
      names = d.names ++ (f.name, place.File (length d.files)) ∷ [];
      files = d.files ++ record { name = f.name; width = f.width; size = f.size; read = f.read; write = f.write; out = out; into = into } ∷ [];
    })))

-- the draft with an immediate unit more, with its output socket
unfoldable pub take_imm : Draft → ImmForm → Result Draft Refusal
take_imm d f =
    or_refuse Unknown (socket_named d false f.out) >>= λ out.
    refuse_if (is_taken d f.name) Twice (
    refuse_if (not (is_from_to 1 16 f.size) || is_too_long f.name || nat_le 4 (length d.imms)) Range (
    Ok (record d {
      names = d.names ++ (f.name, place.Imm (length d.imms)) ∷ [];
      imms = d.imms ++ record { name = f.name; size = f.size; out = out } ∷ [];
    })))

-- ---- units

-- the socket of a port that may be left out
abbrev pub port_named : Draft → (input : Bool) → Option (List ℕ) → Result (Option ℕ) Refusal
port_named d input None = Ok None
port_named d input (Some name) = or_refuse Unknown (option_map (λ k. Some k) (socket_named d input name))

-- the draft with a unit more, which has no operation yet
unfoldable pub take_unit : Draft → UnitForm → Result Draft Refusal
take_unit d f =
    port_named d true f.operand >>= λ operand.
    or_refuse Unknown (socket_named d true f.trigger) >>= λ trigger.
    port_named d false f.result >>= λ result.
    refuse_if (is_taken d f.name) Twice (
    refuse_if (is_too_long f.name || nat_le 32 (length d.units)) Range (
    Ok (record d {
      names = d.names ++ (f.name, place.Unit (length d.units)) ∷ [];
      units = d.units ++ record { name = f.name; operand = operand; trigger = trigger; result = result; ops = [] } ∷ [];
    })))

-- ---- operations

-- the operation of a name in a line with a latency: a load, the input, or one of the set of units
abbrev pub timed_op : Units → List ℕ → Option Op
timed_op u name =
    if bytes_eq name (codes "ldw") then Some Ldw
    else if bytes_eq name (codes "ldf") then Some Ldf
    else if bytes_eq name (codes "in") then Some Take
    else option_map (λ id. Set (record { 0 = id })) (named u name)

-- the operation of a name in a line without one: a store, or the output
abbrev pub untimed_op : List ℕ → Option Op
untimed_op name =
    if bytes_eq name (codes "stw") then Some Stw
    else if bytes_eq name (codes "stf") then Some Stf
    else if bytes_eq name (codes "out") then Some Out
    else None

-- the operation of a name in a line with this latency, or with none
abbrev pub op_named : Units → (latency : Option ℕ) → List ℕ → Option Op
op_named u None name = untimed_op name
op_named u (Some latency) name = timed_op u name

-- how many words an operation takes
abbrev pub arity_of : Units → Op → ℕ
arity_of u Ldw = 1
arity_of u Stw = 2
arity_of u Ldf = 1
arity_of u Stf = 2
arity_of u Out = 1
arity_of u Take = 1
arity_of u (Set id) = get_or u.arities id.0 0

-- whether a unit has an operation of this kind
abbrev pub has_op : (Op → Bool) → OpUnit → Bool
has_op kind u = list_any (λ o. kind o.op) u.ops

-- whether a unit other than the k-th has an operation of this kind, counted from this place
abbrev pub has_other : (Op → Bool) → (k at : ℕ) → List OpUnit → Bool
has_other kind k at [] = false
has_other kind k at (u ∷ units) = (not (at == k) && has_op kind u) || has_other kind k (at + 1) units

-- a space is served by one unit alone, and so are the input and the output together
abbrev pub is_served : List OpUnit → ℕ → Op → Bool
is_served units k o =
    (is_data_op o && has_other is_data_op k 0 units)
    || (is_frame_op o && has_other is_frame_op k 0 units)
    || (is_stream_op o && has_other is_stream_op k 0 units)

-- a latency is from 1 to 16
abbrev pub is_latency : Option ℕ → Bool
is_latency None = true
is_latency (Some latency) = is_from_to 1 16 latency

-- a unit has one operation more
abbrev pub with_op : OpUnit → UnitOp → OpUnit
with_op unit o = record unit { ops = unit.ops ++ o ∷ [] }

-- an operation of a unit that stands at place k
abbrev pub add_op : Units → Draft → (k : ℕ) → OpUnit → Op → (latency : Option ℕ) → Result Draft Refusal
add_op u d k unit o latency =
    let added : UnitOp = record { op = o; arity = arity_of u o; latency = option_map_or (λ l. l) latency 0 } in
    refuse_if (list_any (λ p. same_op p.op o) unit.ops || is_served d.units k o) Twice (
    refuse_if (not (is_latency latency) || nat_le 32 (length unit.ops)) Range (
    refuse_if ((arity_of u o == 2 && is_none unit.operand) || (has_result o && is_none unit.result)) Missing (
    Ok (record d { units = slice_set d.units k (with_op unit added) }))))

-- the draft with an operation more in the unit that the line names
unfoldable pub take_op : Units → Draft → OpForm → Result Draft Refusal
take_op u d f =
    or_refuse Unknown (unit_named d f.unit) >>= λ k.
    or_refuse Unknown (slice_get d.units k) >>= λ unit.
    or_refuse Unknown (op_named u f.latency f.operation) >>= λ o.
    add_op u d k unit o f.latency

-- ---- guards and templates

-- the draft with a guard more: a register of a file of width 1, for one bus
unfoldable pub take_guard : Draft → GuardForm → Result Draft Refusal
take_guard d f =
    or_refuse Unknown (bus_named d f.bus) >>= λ bus.
    or_refuse Unknown (file_named d f.file) >>= λ file.
    or_refuse Unknown (slice_get d.files file) >>= λ q.
    let added : Guard = record { bus = bus; on = record { file = file; index = f.index; inverted = f.inverted } } in
    refuse_if (list_any (λ g. same_guard g added) d.guards) Twice (
    refuse_if (not (q.width == 1) || nat_le q.size f.index || nat_le 64 (length d.guards)) Range (
    Ok (record d { guards = d.guards ++ added ∷ [] })))

-- the draft with a template more, and with the line where it stands
unfoldable pub take_template : (line : ℕ) → Draft → TemplateForm → Result Draft Refusal
take_template line d f =
    or_refuse Unknown (imm_named d f.imm) >>= λ imm.
    or_refuse Unknown (slice_get d.imms imm) >>= λ i.
    or_refuse Unknown (buses_named d f.buses) >>= λ buses.
    refuse_if (is_taken d f.name || not (are_different (λ a b. a == b) buses)) Twice (
    refuse_if (nat_le i.size f.index || is_too_long f.name || nat_le 8 (length d.templates)) Range (
    Ok (record d {
      names = d.names ++ (f.name, place.Template (length d.templates)) ∷ [];
      templates = d.templates ++ record { name = f.name; imm = imm; reg = f.index; buses = bus_set buses } ∷ [];
      template_lines = d.template_lines ++ line ∷ [];
    })))

-- ---- control and spaces

-- the draft with control, where it had none
unfoldable pub take_control : Draft → ControlForm → Result Draft Refusal
take_control d f =
    or_refuse Unknown (socket_named d true f.trigger) >>= λ trigger.
    port_named d false f.ra >>= λ ra.
    refuse_if (is_some d.control) Twice (
    refuse_if (not (nat_le f.delay 4) || not (is_from_to 1 16 f.address)) Range (
    Ok (record d { control = Some (record { delay = f.delay; address = f.address; trigger = trigger; ra = ra }) })))

-- the draft with the size of one of the two spaces, where it had none
unfoldable pub take_space : Draft → SpaceForm → Result Draft Refusal
take_space d f =
    if f.is_data
    then refuse_if (is_some d.data_words) Twice (refuse_if (nat_lt (2 ^ 20) f.size) Range (Ok (record d { data_words = Some f.size })))
    else refuse_if (is_some d.frame_words) Twice (refuse_if (nat_lt 65536 f.size) Range (Ok (record d { frame_words = Some f.size })))
