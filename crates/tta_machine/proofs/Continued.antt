-- What lines add to a draft.
use Rattle.std.proofs.Common.{◌≡◌, ◌++◌, ◌∷◌, [], ◌⊎◌, inl, inr, ℕ, Bool, List, Option, Some, None, true, false, not, length, filter_map, option_map, option_to_list, is_some, refl, sym, ap, ap₂, subst, ◌∙◌}
use Rattle.std.specs.List.{list_all, list_any, cons_option}
use Rattle.std.specs.Str.{bytes_eq}
use Rattle.std.proofs.lemmas.Bool.{and_from}
use Rattle.tta_list.proofs.Tests.{none_from_is_some}
use Rattle.tta_machine.specs.Cited.{named_in, only_if, Units, Socket, UnitOp}
use Rattle.tta_machine.specs.declared.draft.Named.{Named}
use Rattle.tta_machine.specs.declared.draft.Named.TheVariants as place
use Rattle.tta_machine.specs.declared.draft.Draft.{Draft}
use Rattle.tta_arch.specs.declared.parts.Unit.{Unit as OpUnit}
use Rattle.tta_machine.specs.Forms.{BusForm, SocketForm, FileForm, ImmForm, UnitForm, OpForm, GuardForm, TemplateForm, ControlForm, SpaceForm}
use Rattle.tta_machine.specs.Declarations.{bus_set}
use Rattle.tta_machine.specs.Kept.{IsDraft}
use Rattle.tta_machine.specs.Grammar.{is_known_op, place_of, bus_made, socket_made, file_made, imm_made, op_made, ops_of, unit_made, guard_made, template_made, control_made, data_size, frame_size}
use Rattle.tta_machine.proofs.Naming.{named_in-longer}
use Rattle.tta_machine.proofs.LookedUp.{unit_named-some}
use Rattle.tta_machine.proofs.MadeParts.{bus_added, BusMade, socket_of, socket_added, SocketMade, file_of, file_added, FileMade, imm_of, imm_added, ImmMade, unit_of, unit_added, UnitMade}
use Rattle.tta_machine.proofs.MadeLinks.{unit_op, op_added, OpMade, guard_of, guard_added, GuardMade, template_of, template_added, TemplateMade, control_of, control_added, ControlMade, spaces_added, DataMade, FrameMade}
use Rattle.tta_machine.proofs.KindLines.{ByKind, Adds, adds_one}
use Rattle.tta_machine.proofs.UnitLines.{AddsUnits, with_ops, units_one, units_op}
use Rattle.tta_machine.proofs.Borne.{AreBorne}
use Rattle.tta_machine.proofs.Positions.{HasPlaces, NamesStay, bus_names_of, socket_names_of, file_names_of, imm_names_of, unit_names_of, name_among, bus_found, socket_found, file_found, imm_found, buses_found, port_found}

-- what lines add to a draft d, where they end in the draft e
pub record Continues (u : Units) (d e : Draft) (lines : ByKind) : Type 0 where
  pub names : NamesStay d e
  pub all : lines.all ≡ true
  pub known_ops : list_all (is_known_op u (unit_names_of e)) lines.ops ≡ true
  pub buses : Adds d.buses e.buses bus_made lines.buses
  pub sockets : Adds d.sockets e.sockets (socket_made (bus_names_of e)) lines.sockets
  pub files : Adds d.files e.files (file_made (socket_names_of e)) lines.files
  pub imms : Adds d.imms e.imms (imm_made (socket_names_of e)) lines.imms
  pub units : AddsUnits u (socket_names_of e) d.units e.units lines.ops lines.units
  pub guards : Adds d.guards e.guards (guard_made (bus_names_of e) (file_names_of e)) lines.guards
  pub templates : Adds d.templates e.templates (template_made (bus_names_of e) (imm_names_of e)) lines.templates
  pub control : Adds (option_to_list d.control) (option_to_list e.control) (control_made (socket_names_of e)) lines.controls
  pub data_words : option_to_list e.data_words ≡ option_to_list d.data_words ++ filter_map data_size lines.spaces
  pub frame_words : option_to_list e.frame_words ≡ option_to_list d.frame_words ++ filter_map frame_size lines.spaces

-- a name that was there before another was declared stays as well
stay_before : (d next e : Draft) (name : List ℕ) (at : Named) → next.names ≡ d.names ++ (name, at) ∷ [] → NamesStay next e → NamesStay d e
stay_before d next e name at more s = record { stay = λ n p h. s.stay n p (rw more (named_in-longer d.names ((name, at) ∷ []) n p h)) }

-- ---- parts

-- each adds to the lines of its kind, and leaves the others
pub bus_continues : (u : Units) (d next e : Draft) (lines : ByKind) (f : BusForm) → BusMade d next f → Continues u next e lines
    → Continues u d e (record lines { buses = f ∷ lines.buses })
bus_continues u d next e lines f m later =
    let ih : Continues u (bus_added d f) e lines = subst (λ x. Continues u x e lines) (sym m.made) later in
    assumption (
      stay_before d (bus_added d f) e f.name (place.Bus (length d.buses)) refl ih.names,
      adds_one d.buses e.buses (bus_made f) bus_made f lines.buses ih.buses refl,
    )

pub socket_continues : (u : Units) (d next e : Draft) (lines : ByKind) (f : SocketForm) → HasPlaces e → SocketMade d next f → Continues u next e lines
    → Continues u d e (record lines { sockets = f ∷ lines.sockets })
socket_continues u d next e lines f places m later =
    let ih : Continues u (socket_added d f m.buses) e lines = subst (λ x. Continues u x e lines) (sym m.made) later in
    let names = stay_before d (socket_added d f m.buses) e f.name (place.Socket (length d.sockets)) refl ih.names in
    let made : socket_made (bus_names_of e) f ≡ socket_of f m.buses =
    ap (λ ks. let s : Socket = record { name = f.name; input = f.input; buses = bus_set ks } in s) (buses_found d e places names f.buses m.buses m.found) in
    assumption (adds_one d.sockets e.sockets (socket_of f m.buses) (socket_made (bus_names_of e)) f lines.sockets ih.sockets made)

pub file_continues : (u : Units) (d next e : Draft) (lines : ByKind) (f : FileForm) → HasPlaces e → FileMade d next f → Continues u next e lines
    → Continues u d e (record lines { files = f ∷ lines.files })
file_continues u d next e lines f places m later =
    let ih : Continues u (file_added d f m.out m.into) e lines = subst (λ x. Continues u x e lines) (sym m.made) later in
    let names = stay_before d (file_added d f m.out m.into) e f.name (place.File (length d.files)) refl ih.names in
    let made : file_made (socket_names_of e) f ≡ file_of f m.out m.into =
    ap₂ (file_of f) (socket_found d e places names false f.out m.out m.found_out) (socket_found d e places names true f.into m.into m.found_into) in
    assumption (adds_one d.files e.files (file_of f m.out m.into) (file_made (socket_names_of e)) f lines.files ih.files made)

pub imm_continues : (u : Units) (d next e : Draft) (lines : ByKind) (f : ImmForm) → HasPlaces e → ImmMade d next f → Continues u next e lines
    → Continues u d e (record lines { imms = f ∷ lines.imms })
imm_continues u d next e lines f places m later =
    let ih : Continues u (imm_added d f m.out) e lines = subst (λ x. Continues u x e lines) (sym m.made) later in
    let names = stay_before d (imm_added d f m.out) e f.name (place.Imm (length d.imms)) refl ih.names in
    let made : imm_made (socket_names_of e) f ≡ imm_of f m.out = ap (imm_of f) (socket_found d e places names false f.out m.out m.found) in
    assumption (adds_one d.imms e.imms (imm_of f m.out) (imm_made (socket_names_of e)) f lines.imms ih.imms made)

-- ---- units and operations

pub unit_continues : (u : Units) (d next e : Draft) (lines : ByKind) (f : UnitForm) → HasPlaces e → UnitMade d next f → Continues u next e lines
    → Continues u d e (record lines { units = f ∷ lines.units })
unit_continues u d next e lines f places m later =
    let unit : OpUnit = unit_of f m.operand m.trigger m.result in
    let ih : Continues u (unit_added d (unit_of f m.operand m.trigger m.result)) e lines = subst (λ x. Continues u x e lines) (sym m.made) later in
    let names = stay_before d (unit_added d unit) e f.name (place.Unit (length d.units)) refl ih.names in
    let ops : List UnitOp = ops_of u lines.ops f.name in
    let made : unit_made u (socket_names_of e) lines.ops f ≡ with_ops u lines.ops (unit_of f m.operand m.trigger m.result) =
    ap (λ o. let x : OpUnit = record { name = f.name; operand = o; trigger = place_of (socket_names_of e) f.trigger; result = option_map (place_of (socket_names_of e)) f.result; ops = ops_of u lines.ops f.name } in x)
    (port_found d e places names true f.operand m.operand m.found_operand)
    ∙ ap₂ (λ t r. let x : OpUnit = record { name = f.name; operand = m.operand; trigger = t; result = r; ops = ops_of u lines.ops f.name } in x)
    (socket_found d e places names true f.trigger m.trigger m.found_trigger) (port_found d e places names false f.result m.result m.found_result) in
    assumption (units_one u (socket_names_of e) d.units e.units unit f lines.ops lines.units ih.units made)

pub op_continues : (u : Units) (d next e : Draft) (lines : ByKind) (f : OpForm) → IsDraft d → AreBorne d → IsDraft e → AreBorne e → OpMade u d next f → Continues u next e lines
    → Continues u d e (record lines { ops = f ∷ lines.ops })
op_continues u d next e lines f r b end end_borne m later =
    let ih : Continues u (op_added d m.k m.unit (unit_op u m.op f.latency)) e lines = subst (λ x. Continues u x e lines) (sym m.made) later in
    let made : op_made u f ≡ Some (unit_op u m.op f.latency) = ap (option_map (λ o. unit_op u o f.latency)) m.is in
    let found : named_in d.names f.unit ≡ Some (place.Unit m.k) = unit_named-some d f.unit m.k m.found in
    let found_later : named_in e.names f.unit ≡ Some (place.Unit m.k) = ih.names.stay f.unit (place.Unit m.k) found in
    let stands : list_any (bytes_eq f.unit) (unit_names_of e) ≡ true = name_among (unit_names_of e) m.k f.unit (end_borne.all f.unit (place.Unit m.k) found_later) in
    let known : is_known_op u (unit_names_of e) f ≡ true = and_from (list_any (bytes_eq f.unit) (unit_names_of e)) (is_some (op_made u f)) stands (ap is_some made) in
    assumption (
      and_from (is_known_op u (unit_names_of e) f) (list_all (is_known_op u (unit_names_of e)) lines.ops) known ih.known_ops,
      units_op u d e (socket_names_of e) f m.k m.unit (unit_op u m.op f.latency) lines.ops lines.units r b end found found_later m.there made ih.units,
    )

-- ---- guards and templates

pub guard_continues : (u : Units) (d next e : Draft) (lines : ByKind) (f : GuardForm) → HasPlaces e → GuardMade d next f → Continues u next e lines
    → Continues u d e (record lines { guards = f ∷ lines.guards })
guard_continues u d next e lines f places m later =
    let ih : Continues u (guard_added d (guard_of f m.bus m.file)) e lines = subst (λ x. Continues u x e lines) (sym m.made) later in
    let names : NamesStay d e = record { stay = λ n p h. ih.names.stay n p h } in
    let made : guard_made (bus_names_of e) (file_names_of e) f ≡ guard_of f m.bus m.file =
    ap₂ (guard_of f) (bus_found d e places names f.bus m.bus m.found_bus) (file_found d e places names f.file m.file m.found_file) in
    assumption (adds_one d.guards e.guards (guard_of f m.bus m.file) (guard_made (bus_names_of e) (file_names_of e)) f lines.guards ih.guards made)

pub template_continues : (line : ℕ) (u : Units) (d next e : Draft) (lines : ByKind) (f : TemplateForm) → HasPlaces e → TemplateMade line d next f → Continues u next e lines
    → Continues u d e (record lines { templates = f ∷ lines.templates })
template_continues line u d next e lines f places m later =
    let ih : Continues u (template_added line d f m.imm m.buses) e lines = subst (λ x. Continues u x e lines) (sym m.made) later in
    let names = stay_before d (template_added line d f m.imm m.buses) e f.name (place.Template (length d.templates)) refl ih.names in
    let made : template_made (bus_names_of e) (imm_names_of e) f ≡ template_of f m.imm m.buses =
    ap₂ (template_of f) (imm_found d e places names f.imm m.imm m.found_imm) (buses_found d e places names f.buses m.buses m.found_buses) in
    assumption (adds_one d.templates e.templates (template_of f m.imm m.buses) (template_made (bus_names_of e) (imm_names_of e)) f lines.templates ih.templates made)

-- ---- control and spaces

pub control_continues : (u : Units) (d next e : Draft) (lines : ByKind) (f : ControlForm) → HasPlaces e → ControlMade d next f → Continues u next e lines
    → Continues u d e (record lines { controls = f ∷ lines.controls })
control_continues u d next e lines f places m later =
    let ih : Continues u (control_added d (control_of f m.trigger m.ra)) e lines = subst (λ x. Continues u x e lines) (sym m.made) later in
    let names : NamesStay d e = record { stay = λ n p h. ih.names.stay n p h } in
    let made : control_made (socket_names_of e) f ≡ control_of f m.trigger m.ra =
    ap₂ (control_of f) (socket_found d e places names true f.trigger m.trigger m.found_trigger) (port_found d e places names false f.ra m.ra m.found_ra) in
    let first : Adds [] (option_to_list e.control) (control_made (socket_names_of e)) (f ∷ lines.controls) =
    adds_one [] (option_to_list e.control) (control_of f m.trigger m.ra) (control_made (socket_names_of e)) f lines.controls ih.control made in
    assumption (
    subst (λ earlier. Adds (option_to_list earlier) (option_to_list e.control) (control_made (socket_names_of e)) (f ∷ lines.controls)) (sym (none_from_is_some d.control m.first)) first)

-- the sizes that a line of a space adds, where it gives this one and where it gives the other
size_added : (first : Option ℕ) (given : Bool) (f : SpaceForm) (sizes : List ℕ) → first ≡ None → given ≡ true
    → f.size ∷ sizes ≡ option_to_list first ++ cons_option (only_if given (Some f.size)) sizes
size_added first given f sizes none is = rw (none, is) refl

size_left : (earlier : Option ℕ) (given : Bool) (f : SpaceForm) (sizes : List ℕ) → given ≡ false
    → option_to_list earlier ++ sizes ≡ option_to_list earlier ++ cons_option (only_if given (Some f.size)) sizes
size_left earlier given f sizes is = rw is refl

pub space_continues : (u : Units) (d next e : Draft) (lines : ByKind) (f : SpaceForm) → DataMade d next f ⊎ FrameMade d next f → Continues u next e lines
    → Continues u d e (record lines { spaces = f ∷ lines.spaces })
space_continues u d next e lines f (inl m) later =
    let ih : Continues u (spaces_added d (Some f.size) d.frame_words) e lines = subst (λ x. Continues u x e lines) (sym m.made) later in
    assumption (
      ih.data_words ∙ size_added d.data_words f.is_data f (filter_map data_size lines.spaces) (none_from_is_some d.data_words m.first) m.of_data,
      ih.frame_words ∙ size_left d.frame_words (not f.is_data) f (filter_map frame_size lines.spaces) (ap not m.of_data),
    )
space_continues u d next e lines f (inr m) later =
    let ih : Continues u (spaces_added d d.data_words (Some f.size)) e lines = subst (λ x. Continues u x e lines) (sym m.made) later in
    assumption (
      ih.data_words ∙ size_left d.data_words f.is_data f (filter_map data_size lines.spaces) m.of_frame,
      ih.frame_words ∙ size_added d.frame_words (not f.is_data) f (filter_map frame_size lines.spaces) (none_from_is_some d.frame_words m.first) (ap not m.of_frame),
    )
