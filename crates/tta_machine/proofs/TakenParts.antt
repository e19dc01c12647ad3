-- A bus, a socket, a register file, an immediate unit and a unit keep the draft's rules.
use Rattle.std.proofs.Common.{◌≡◌, ◌<◌, ◌≤◌, ◌+◌, ◌++◌, ◌∷◌, [], Bool, List, Option, Some, None, true, false, not, length, refl, subst, ap, ◌∙◌, arith, append-nil}
use Rattle.std.specs.Prelude.{◌||◌, ◌==◌, nat_le, filter}
use Rattle.std.specs.Option.{option_map_or}
use Rattle.std.specs.List.{list_any}
use Rattle.std.proofs.lemmas.Bool.{or_parts, and_from, not-false, leb-false}
use Rattle.std.proofs.lemmas.List.{length_push}
use Rattle.std.proofs.lemmas.List.Elements.{filter-append}
use Rattle.tta_list.proofs.Lists.{list_all_push, list_all_weaker, all_push, all_weaker}
use Rattle.tta_machine.specs.Cited.{is_name, Declared, Socket, File, ImmUnit, Control, Op, IsBusSet, is_from_to, is_socket, is_port_socket, is_bus, is_file, is_imm, is_unit, is_guard, is_template, is_control, has_one_owner, is_data_op, is_frame_op, is_stream_op}
use Rattle.tta_machine.specs.declared.draft.Named.{Named}
use Rattle.tta_machine.specs.declared.draft.Named.TheVariants as place
use Rattle.tta_machine.specs.declared.draft.Draft.{Draft}
use Rattle.tta_arch.specs.declared.parts.Unit.{Unit as OpUnit}
use Rattle.tta_machine.specs.Forms.{BusForm, SocketForm, FileForm, ImmForm, UnitForm}
use Rattle.tta_machine.specs.Draft.{is_too_long}
use Rattle.tta_machine.specs.Declarations.{bus_set}
use Rattle.tta_machine.specs.Kept.{IsDraft}
use Rattle.tta_machine.specs.Grammar.{bus_made}
use Rattle.tta_machine.proofs.Naming.{AreNamed-push, are_named_longer, not_taken, good_name}
use Rattle.tta_machine.proofs.Growth.{Grows, there_more, IsBusSet-more, is_guard-more_buses, is_file-more_sockets, is_imm-more_sockets, is_unit-more_sockets, is_control-more_sockets, is_guard-more_files, is_template-more_imms}
use Rattle.tta_machine.proofs.LookedUp.{buses_named-some, is_socket-named, port_named-ok}
use Rattle.tta_machine.proofs.BusSets.{IsBusSet-bus_set}
use Rattle.tta_machine.proofs.MadeParts.{bus_added, BusMade, socket_of, socket_added, SocketMade, file_of, file_added, FileMade, imm_of, imm_added, ImmMade, unit_of, unit_added, UnitMade}

-- ---- buses

pub bus_kept : (d e : Draft) (f : BusForm) → IsDraft d → is_name f.name ≡ true → BusMade d e f → IsDraft e
bus_kept d e f r written m =
    let outer = or_parts (not (is_from_to 1 32 f.short) || is_too_long f.name) (nat_le 16 (length d.buses)) m.range in
    let inner = or_parts (not (is_from_to 1 32 f.short)) (is_too_long f.name) outer.0 in
    let room : length d.buses < 16 = leb-false 16 (length d.buses) outer.1 in
    let more : length (d.buses ++ bus_made f ∷ []) ≡ length d.buses + 1 = length_push d.buses (bus_made f) in
    let longer : length d.buses ≤ length (d.buses ++ bus_made f ∷ []) = omega arith in
    let grows : Grows d (bus_added d f) = omega arith in
    let new : Declared Named = (f.name, place.Bus (length d.buses)) ∷ [] in
    let kept : IsDraft (bus_added d f) = record {
      limits = let l = r.limits in omega arith;
      there = there_more d (bus_added d f) f.name (place.Bus (length d.buses)) r.there refl grows (omega arith) (good_name d f.name written m.free inner.1);
      named = assumption (AreNamed-push (λ b. b.name) place.Bus d.names d.buses (bus_made f) r.named.buses (not_taken d f.name m.free), are_named_longer d new r.named);
      rules = assumption (
        list_all_push is_bus d.buses (bus_made f) r.rules.buses (not-false (is_from_to 1 32 f.short) inner.0),
        all_weaker (λ s. IsBusSet (length d.buses) s.buses) (λ s. IsBusSet (length (d.buses ++ bus_made f ∷ [])) s.buses) d.sockets (λ s. IsBusSet-more _ _ s.buses longer) r.rules.sockets,
        list_all_weaker (is_guard (length d.buses) d.files) (is_guard (length (d.buses ++ bus_made f ∷ [])) d.files) d.guards (λ g. is_guard-more_buses _ _ d.files g longer) r.rules.guards,
        all_weaker (λ t. IsBusSet (length d.buses) t.buses) (λ t. IsBusSet (length (d.buses ++ bus_made f ∷ [])) t.buses) d.templates (λ t. IsBusSet-more _ _ t.buses longer) r.rules.template_buses,
      );
    } in
    subst IsDraft m.made kept

-- ---- sockets

control_still : (sockets more : List Socket) (control : Option Control)
    → option_map_or (is_control sockets) control true ≡ true → option_map_or (is_control (sockets ++ more)) control true ≡ true
control_still sockets more None h = refl
control_still sockets more (Some c) h = is_control-more_sockets sockets more c h

-- the form of a socket names at least one bus
pub socket_kept : (d e : Draft) (f : SocketForm) → IsDraft d → is_name f.name ≡ true → 0 < length f.buses → SocketMade d e f → IsDraft e
socket_kept d e f r written some m =
    let socket : Socket = socket_of f m.buses in
    let parts = or_parts (is_too_long f.name) (nat_le 128 (length d.sockets)) m.range in
    let room : length d.sockets < 128 = leb-false 128 (length d.sockets) parts.1 in
    let found = buses_named-some d f.buses m.buses r.there m.found in
    let count : 0 < length m.buses = let same = found.1 in omega arith in
    let mask : IsBusSet (length d.buses) (bus_set m.buses) = IsBusSet-bus_set (length d.buses) m.buses count found.0 m.different in
    let one : List Socket = socket_of f m.buses ∷ [] in
    let more : length (d.sockets ++ socket_of f m.buses ∷ []) ≡ length d.sockets + 1 = length_push d.sockets socket in
    let grows : Grows d (socket_added d f m.buses) = omega arith in
    let new : Declared Named = (f.name, place.Socket (length d.sockets)) ∷ [] in
    let kept : IsDraft (socket_added d f m.buses) = record {
      limits = let l = r.limits in omega arith;
      there = there_more d (socket_added d f m.buses) f.name (place.Socket (length d.sockets)) r.there refl grows (omega arith) (good_name d f.name written m.free parts.0);
      named = assumption (AreNamed-push (λ s. s.name) place.Socket d.names d.sockets socket r.named.sockets (not_taken d f.name m.free), are_named_longer d new r.named);
      rules = assumption (
        all_push (λ s. IsBusSet (length d.buses) s.buses) d.sockets socket r.rules.sockets mask,
        list_all_weaker (is_file d.sockets) (is_file (d.sockets ++ one)) d.files (is_file-more_sockets d.sockets one) r.rules.files,
        list_all_weaker (is_imm d.sockets) (is_imm (d.sockets ++ one)) d.imms (is_imm-more_sockets d.sockets one) r.rules.imms,
        list_all_weaker (is_unit d.sockets) (is_unit (d.sockets ++ one)) d.units (is_unit-more_sockets d.sockets one) r.rules.units,
        control_still d.sockets one d.control r.rules.control,
      );
    } in
    subst IsDraft m.made kept

-- ---- files

pub file_kept : (d e : Draft) (f : FileForm) → IsDraft d → is_name f.name ≡ true → FileMade d e f → IsDraft e
file_kept d e f r written m =
    let count = or_parts _ (nat_le 8 (length d.files)) m.range in
    let long = or_parts _ (is_too_long f.name) count.0 in
    let write = or_parts _ (not (is_from_to 1 16 f.write)) long.0 in
    let read = or_parts _ (not (is_from_to 1 16 f.read)) write.0 in
    let size = or_parts (not (f.width == 1 || f.width == 32)) (not (is_from_to 1 64 f.size)) read.0 in
    let rule : is_file d.sockets (file_of f m.out m.into) ≡ true =
    and_from _ (is_socket d.sockets true m.into)
    (and_from _ (is_socket d.sockets false m.out)
    (and_from _ (is_from_to 1 16 f.write)
    (and_from _ (is_from_to 1 16 f.read)
    (and_from (f.width == 1 || f.width == 32) (is_from_to 1 64 f.size) (not-false (f.width == 1 || f.width == 32) size.0) (not-false (is_from_to 1 64 f.size) size.1))
    (not-false (is_from_to 1 16 f.read) read.1))
    (not-false (is_from_to 1 16 f.write) write.1))
    (is_socket-named d false f.out m.out m.found_out))
    (is_socket-named d true f.into m.into m.found_into) in
    let room : length d.files < 8 = leb-false 8 (length d.files) count.1 in
    let file : File = file_of f m.out m.into in
    let one : List File = file_of f m.out m.into ∷ [] in
    let more : length (d.files ++ file_of f m.out m.into ∷ []) ≡ length d.files + 1 = length_push d.files file in
    let grows : Grows d (file_added d f m.out m.into) = omega arith in
    let new : Declared Named = (f.name, place.File (length d.files)) ∷ [] in
    let kept : IsDraft (file_added d f m.out m.into) = record {
      limits = let l = r.limits in omega arith;
      there = there_more d (file_added d f m.out m.into) f.name (place.File (length d.files)) r.there refl grows (omega arith) (good_name d f.name written m.free long.1);
      named = assumption (AreNamed-push (λ s. s.name) place.File d.names d.files file r.named.files (not_taken d f.name m.free), are_named_longer d new r.named);
      rules = assumption (
        list_all_push (is_file d.sockets) d.files file r.rules.files rule,
        list_all_weaker (is_guard (length d.buses) d.files) (is_guard (length d.buses) (d.files ++ one)) d.guards (is_guard-more_files (length d.buses) d.files one) r.rules.guards,
      );
    } in
    subst IsDraft m.made kept

-- ---- immediate units

pub imm_kept : (d e : Draft) (f : ImmForm) → IsDraft d → is_name f.name ≡ true → ImmMade d e f → IsDraft e
imm_kept d e f r written m =
    let imm : ImmUnit = imm_of f m.out in
    let count = or_parts _ (nat_le 4 (length d.imms)) m.range in
    let long = or_parts (not (is_from_to 1 16 f.size)) (is_too_long f.name) count.0 in
    let rule : is_imm d.sockets (imm_of f m.out) ≡ true =
    and_from (is_from_to 1 16 f.size) (is_socket d.sockets false m.out) (not-false (is_from_to 1 16 f.size) long.0) (is_socket-named d false f.out m.out m.found) in
    let room : length d.imms < 4 = leb-false 4 (length d.imms) count.1 in
    let one : List ImmUnit = imm_of f m.out ∷ [] in
    let more : length (d.imms ++ imm_of f m.out ∷ []) ≡ length d.imms + 1 = length_push d.imms imm in
    let grows : Grows d (imm_added d f m.out) = omega arith in
    let new : Declared Named = (f.name, place.Imm (length d.imms)) ∷ [] in
    let kept : IsDraft (imm_added d f m.out) = record {
      limits = let l = r.limits in omega arith;
      there = there_more d (imm_added d f m.out) f.name (place.Imm (length d.imms)) r.there refl grows (omega arith) (good_name d f.name written m.free long.1);
      named = assumption (AreNamed-push (λ s. s.name) place.Imm d.names d.imms imm r.named.imms (not_taken d f.name m.free), are_named_longer d new r.named);
      rules = assumption (
        list_all_push (is_imm d.sockets) d.imms imm r.rules.imms rule,
        list_all_weaker (is_template d.imms) (is_template (d.imms ++ one)) d.templates (is_template-more_imms d.imms one) r.rules.templates,
      );
    } in
    subst IsDraft m.made kept

-- ---- units

-- a unit without operations owns nothing
one_owner_still : (kind : Op → Bool) (units : List OpUnit) (unit : OpUnit) → list_any (λ o. kind o.op) unit.ops ≡ false
    → has_one_owner kind units ≡ true → has_one_owner kind (units ++ unit ∷ []) ≡ true
one_owner_still kind units unit none h =
    let test : OpUnit → Bool = λ u. list_any (λ o. kind o.op) u.ops in
    let here : filter test (unit ∷ []) ≡ [] = rw none refl in
    let same : filter test (units ++ unit ∷ []) ≡ filter test units = filter-append test units (unit ∷ []) ∙ ap (λ l. filter test units ++ l) here ∙ append-nil (filter test units) in
    rw same h

-- it has none yet
pub unit_kept : (d e : Draft) (f : UnitForm) → IsDraft d → is_name f.name ≡ true → UnitMade d e f → IsDraft e
unit_kept d e f r written m =
    let unit : OpUnit = unit_of f m.operand m.trigger m.result in
    let parts = or_parts (is_too_long f.name) (nat_le 32 (length d.units)) m.range in
    let rule : is_unit d.sockets (unit_of f m.operand m.trigger m.result) ≡ true =
    and_from _ true (and_from _ true (and_from _ true
    (and_from _ (is_port_socket d.sockets false m.result)
    (and_from (is_socket d.sockets true m.trigger) (is_port_socket d.sockets true m.operand)
    (is_socket-named d true f.trigger m.trigger m.found_trigger)
    (port_named-ok d true f.operand m.operand m.found_operand))
    (port_named-ok d false f.result m.result m.found_result))
    refl) refl) refl in
    let room : length d.units < 32 = leb-false 32 (length d.units) parts.1 in
    let more : length (d.units ++ unit_of f m.operand m.trigger m.result ∷ []) ≡ length d.units + 1 = length_push d.units unit in
    let grows : Grows d (unit_added d (unit_of f m.operand m.trigger m.result)) = omega arith in
    let new : Declared Named = (f.name, place.Unit (length d.units)) ∷ [] in
    let kept : IsDraft (unit_added d (unit_of f m.operand m.trigger m.result)) = record {
      limits = let l = r.limits in omega arith;
      there = there_more d (unit_added d unit) f.name (place.Unit (length d.units)) r.there refl grows (omega arith) (good_name d f.name written m.free parts.0);
      named = assumption (AreNamed-push (λ s. s.name) place.Unit d.names d.units unit r.named.units (not_taken d f.name m.free), are_named_longer d new r.named);
      rules = assumption (
        list_all_push (is_unit d.sockets) d.units unit r.rules.units rule,
        one_owner_still is_data_op d.units unit refl r.rules.one_data,
        one_owner_still is_frame_op d.units unit refl r.rules.one_frame,
        one_owner_still is_stream_op d.units unit refl r.rules.one_stream,
      );
    } in
    subst IsDraft m.made kept
