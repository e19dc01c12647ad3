-- The same of operations, guards, templates, control and spaces: what each declaration that was taken found, and what it
-- made of the draft.
use Rattle.std.proofs.Common.{◌≡◌, ◌≤◌, ◌++◌, ◌∷◌, [], ◌⊎◌, inl, inr, refl}
use Rattle.std.specs.Prelude.{ℕ, Bool, true, false, not, ◌||◌, ◌==◌, ◌&&◌, nat_lt, nat_le, List, length, Option, Some, Ok, is_some, is_none, slice_get, slice_set, if◌then◌else◌, ◌^◌}
use Rattle.std.specs.Option.{option_map_or}
use Rattle.std.specs.List.{list_any}
use Rattle.std.proofs.lemmas.Bool.{or_parts, not-false, ltb-false}
use Rattle.tta_machine.specs.Cited.{refuse_if, Units, File, ImmUnit, UnitOp, Op, Guard, Template, Control, has_result, is_from_to, are_different, same_op, same_guard}
use Rattle.tta_parse.proofs.Steps.{then-ok, some-ok, refuse_if-ok, same_ok}
use Rattle.tta_machine.specs.declared.refusal.Refusal.TheVariants.{Unknown, Twice, Range, Missing}
use Rattle.tta_machine.specs.declared.draft.Named.TheVariants as place
use Rattle.tta_machine.specs.declared.draft.Draft.{Draft}
use Rattle.tta_arch.specs.declared.parts.Unit.{Unit as OpUnit}
use Rattle.tta_machine.specs.Forms.{OpForm, GuardForm, TemplateForm, ControlForm, SpaceForm}
use Rattle.tta_machine.specs.Draft.{is_taken, is_too_long, bus_named, socket_named, file_named, imm_named, unit_named}
use Rattle.tta_machine.specs.Declarations.{take_op, take_guard, take_template, take_control, take_space, buses_named, bus_set, port_named, op_named, arity_of, is_latency, is_served, with_op}

-- ---- operations

-- the operation that a line gives to a unit, with its number of words, and with latency 0 where the line has none
abbrev pub unit_op : Units → Op → Option ℕ → UnitOp
unit_op u o latency = record { op = o; arity = arity_of u o; latency = option_map_or (λ l. l) latency 0 }

-- the draft whose k-th unit is this one with an operation more
abbrev pub op_added : Draft → ℕ → OpUnit → UnitOp → Draft
op_added d k unit o = record d { units = slice_set d.units k (with_op unit o) }

-- what is known of a draft with the operation of a line added to its unit
pub record OpMade (u : Units) (d e : Draft) (f : OpForm) : Type 0 where
  pub k : ℕ
  pub unit : OpUnit
  pub op : Op
  pub found : unit_named d f.unit ≡ Some k
  pub there : slice_get d.units k ≡ Some unit
  pub is : op_named u f.latency f.operation ≡ Some op
  pub new : (list_any (λ p. same_op p.op op) unit.ops || is_served d.units k op) ≡ false
  pub range : (not (is_latency f.latency) || nat_le 32 (length unit.ops)) ≡ false
  pub ports : ((arity_of u op == 2 && is_none unit.operand) || (has_result op && is_none unit.result)) ≡ false
  pub made : op_added d k unit (unit_op u op f.latency) ≡ e

pub take_op-made : (u : Units) (d e : Draft) (f : OpForm) → take_op u d f ≡ Ok e → OpMade u d e f
unfolding take_op
take_op-made u d e f h =
    let k = some-ok Unknown (unit_named d f.unit) _ e h in
    let unit = some-ok Unknown (slice_get d.units k.0) _ e k.2 in
    let o = some-ok Unknown (op_named u f.latency f.operation) _ e unit.2 in
    let new = refuse_if-ok (list_any (λ p. same_op p.op o.0) unit.0.ops || is_served d.units k.0 o.0) Twice _ e o.2 in
    let range = refuse_if-ok (not (is_latency f.latency) || nat_le 32 (length unit.0.ops)) Range _ e new.1 in
    let ports = refuse_if-ok ((arity_of u o.0 == 2 && is_none unit.0.operand) || (has_result o.0 && is_none unit.0.result)) Missing _ e range.1 in
    record {
      k = k.0;
      unit = unit.0;
      op = o.0;
      found = k.1;
      there = unit.1;
      is = o.1;
      new = new.0;
      range = range.0;
      ports = ports.0;
      made = same_ok (op_added d k.0 unit.0 (unit_op u o.0 f.latency)) e ports.1;
    }

-- ---- guards and templates

-- the guard of a line, written for this bus and on a register of this file
abbrev pub guard_of : GuardForm → (bus file : ℕ) → Guard
guard_of f bus file = record { bus = bus; on = record { file = file; index = f.index; inverted = f.inverted } }

-- the draft with a guard more
abbrev pub guard_added : Draft → Guard → Draft
guard_added d guard = record d { guards = d.guards ++ guard ∷ [] }

-- what is known of a draft with the guard of a line added
pub record GuardMade (d e : Draft) (f : GuardForm) : Type 0 where
  pub bus : ℕ
  pub file : ℕ
  pub on : File
  pub found_bus : bus_named d f.bus ≡ Some bus
  pub found_file : file_named d f.file ≡ Some file
  pub there : slice_get d.files file ≡ Some on
  pub new : list_any (λ g. same_guard g (guard_of f bus file)) d.guards ≡ false
  pub range : (not (on.width == 1) || nat_le on.size f.index || nat_le 64 (length d.guards)) ≡ false
  pub made : guard_added d (guard_of f bus file) ≡ e

pub take_guard-made : (d e : Draft) (f : GuardForm) → take_guard d f ≡ Ok e → GuardMade d e f
unfolding take_guard
take_guard-made d e f h =
    let bus = some-ok Unknown (bus_named d f.bus) _ e h in
    let file = some-ok Unknown (file_named d f.file) _ e bus.2 in
    let on = some-ok Unknown (slice_get d.files file.0) _ e file.2 in
    let new = refuse_if-ok (list_any (λ g. same_guard g (guard_of f bus.0 file.0)) d.guards) Twice _ e on.2 in
    let range = refuse_if-ok (not (on.0.width == 1) || nat_le on.0.size f.index || nat_le 64 (length d.guards)) Range _ e new.1 in
    record {
      bus = bus.0;
      file = file.0;
      on = on.0;
      found_bus = bus.1;
      found_file = file.1;
      there = on.1;
      new = new.0;
      range = range.0;
      made = same_ok (guard_added d (guard_of f bus.0 file.0)) e range.1;
    }

-- the template of a line, which takes these buses and writes a register of this immediate unit
abbrev pub template_of : TemplateForm → (imm : ℕ) → List ℕ → Template
template_of f imm buses = record { name = f.name; imm = imm; reg = f.index; buses = bus_set buses }

-- the draft with the template of a line more, its name, and the number of that line
abbrev pub template_added : (line : ℕ) → Draft → TemplateForm → (imm : ℕ) → List ℕ → Draft
template_added line d f imm buses = record d {
  names = d.names ++ (f.name, place.Template (length d.templates)) ∷ [];
  templates = d.templates ++ template_of f imm buses ∷ [];
  template_lines = d.template_lines ++ line ∷ [];
}

-- what is known of a draft with the template of a line added
pub record TemplateMade (line : ℕ) (d e : Draft) (f : TemplateForm) : Type 0 where
  pub imm : ℕ
  pub unit : ImmUnit
  pub buses : List ℕ
  pub found_imm : imm_named d f.imm ≡ Some imm
  pub there : slice_get d.imms imm ≡ Some unit
  pub found_buses : buses_named d f.buses ≡ Some buses
  pub free : is_taken d f.name ≡ false
  pub different : are_different (λ a b. a == b) buses ≡ true
  pub range : (nat_le unit.size f.index || is_too_long f.name || nat_le 8 (length d.templates)) ≡ false
  pub made : template_added line d f imm buses ≡ e

pub take_template-made : (line : ℕ) (d e : Draft) (f : TemplateForm) → take_template line d f ≡ Ok e → TemplateMade line d e f
unfolding take_template
take_template-made line d e f h =
    let imm = some-ok Unknown (imm_named d f.imm) _ e h in
    let unit = some-ok Unknown (slice_get d.imms imm.0) _ e imm.2 in
    let buses = some-ok Unknown (buses_named d f.buses) _ e unit.2 in
    let twice = refuse_if-ok (is_taken d f.name || not (are_different (λ a b. a == b) buses.0)) Twice _ e buses.2 in
    let range = refuse_if-ok (nat_le unit.0.size f.index || is_too_long f.name || nat_le 8 (length d.templates)) Range _ e twice.1 in
    let new = or_parts (is_taken d f.name) (not (are_different (λ a b. a == b) buses.0)) twice.0 in
    record {
      imm = imm.0;
      unit = unit.0;
      buses = buses.0;
      found_imm = imm.1;
      there = unit.1;
      found_buses = buses.1;
      free = new.0;
      different = not-false (are_different (λ a b. a == b) buses.0) new.1;
      range = range.0;
      made = same_ok (template_added line d f imm.0 buses.0) e range.1;
    }

-- ---- control and spaces

-- the control unit of a line, joined to the sockets of its trigger port and of its return address, if that can be read
abbrev pub control_of : ControlForm → (trigger : ℕ) → Option ℕ → Control
control_of f trigger ra = record { delay = f.delay; address = f.address; trigger = trigger; ra = ra }

-- the draft with its control unit
abbrev pub control_added : Draft → Control → Draft
control_added d control = record d { control = Some control }

-- what is known of a draft with the control unit of a line added
pub record ControlMade (d e : Draft) (f : ControlForm) : Type 0 where
  pub trigger : ℕ
  pub ra : Option ℕ
  pub found_trigger : socket_named d true f.trigger ≡ Some trigger
  pub found_ra : port_named d false f.ra ≡ Ok ra
  pub first : is_some d.control ≡ false
  pub range : (not (nat_le f.delay 4) || not (is_from_to 1 16 f.address)) ≡ false
  pub made : control_added d (control_of f trigger ra) ≡ e

pub take_control-made : (d e : Draft) (f : ControlForm) → take_control d f ≡ Ok e → ControlMade d e f
unfolding take_control
take_control-made d e f h =
    let trigger = some-ok Unknown (socket_named d true f.trigger) _ e h in
    let ra = then-ok (port_named d false f.ra) _ e trigger.2 in
    let first = refuse_if-ok (is_some d.control) Twice _ e ra.2 in
    let range = refuse_if-ok (not (nat_le f.delay 4) || not (is_from_to 1 16 f.address)) Range _ e first.1 in
    record {
      trigger = trigger.0;
      ra = ra.0;
      found_trigger = trigger.1;
      found_ra = ra.1;
      first = first.0;
      range = range.0;
      made = same_ok (control_added d (control_of f trigger.0 ra.0)) e range.1;
    }

-- the draft with these sizes of its data space and its frame space, where they are declared
abbrev pub spaces_added : Draft → (words frame : Option ℕ) → Draft
spaces_added d words frame = record d { data_words = words; frame_words = frame }

-- what is known of a draft with the data space of a line added
pub record DataMade (d e : Draft) (f : SpaceForm) : Type 0 where
  pub of_data : f.is_data ≡ true
  pub first : is_some d.data_words ≡ false
  pub few : f.size ≤ 2 ^ 20
  pub made : spaces_added d (Some f.size) d.frame_words ≡ e

-- what is known of a draft with the frame space of a line added
pub record FrameMade (d e : Draft) (f : SpaceForm) : Type 0 where
  pub of_frame : f.is_data ≡ false
  pub first : is_some d.frame_words ≡ false
  pub few : f.size ≤ 65536
  pub made : spaces_added d d.data_words (Some f.size) ≡ e

pub take_space-made : (d e : Draft) (f : SpaceForm) → take_space d f ≡ Ok e → DataMade d e f ⊎ FrameMade d e f
unfolding take_space
take_space-made d e f h = by f.is_data refl h where
  by : (is_data : Bool) → f.is_data ≡ is_data → (if is_data
      then refuse_if (is_some d.data_words) Twice (refuse_if (nat_lt (2 ^ 20) f.size) Range (Ok (spaces_added d (Some f.size) d.frame_words)))
      else refuse_if (is_some d.frame_words) Twice (refuse_if (nat_lt 65536 f.size) Range (Ok (spaces_added d d.data_words (Some f.size))))) ≡ Ok e
      → DataMade d e f ⊎ FrameMade d e f
  by true is t =
      let first = refuse_if-ok (is_some d.data_words) Twice _ e t in
      let range = refuse_if-ok (nat_lt (2 ^ 20) f.size) Range _ e first.1 in
      inl (record { of_data = is; first = first.0; few = ltb-false (2 ^ 20) f.size range.0; made = same_ok (spaces_added d (Some f.size) d.frame_words) e range.1 })
  by false is t =
      let first = refuse_if-ok (is_some d.frame_words) Twice _ e t in
      let range = refuse_if-ok (nat_lt 65536 f.size) Range _ e first.1 in
      inr (record { of_frame = is; first = first.0; few = ltb-false 65536 f.size range.0; made = same_ok (spaces_added d d.data_words (Some f.size)) e range.1 })
