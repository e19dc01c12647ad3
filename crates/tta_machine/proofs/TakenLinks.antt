-- A guard, a template, control and the sizes of spaces keep the draft's rules.
use Rattle.std.proofs.Common.{◌≡◌, ◌<◌, ◌≤◌, ◌+◌, ◌++◌, ◌∷◌, [], ◌⊎◌, inl, inr, ℕ, Bool, Option, Some, true, false, not, length, refl, subst, arith}
use Rattle.std.specs.Prelude.{◌&&◌, ◌||◌, ◌==◌, ◌^◌, nat_lt, nat_le, slice_get, unwrap_or}
use Rattle.std.specs.Option.{option_map_or}
use Rattle.std.proofs.lemmas.Bool.{or_parts, and_from, not-false, leb-false, lt-ltb}
use Rattle.std.proofs.lemmas.List.{length_push}
use Rattle.tta_list.proofs.Lists.{list_all_push, all_push}
use Rattle.tta_machine.specs.Cited.{is_name, Declared, File, Guard, Template, IsBusSet, is_from_to, is_socket, is_port_socket, is_guard, same_guard, is_template, is_control}
use Rattle.tta_machine.specs.declared.draft.Named.{Named}
use Rattle.tta_machine.specs.declared.draft.Named.TheVariants as place
use Rattle.tta_machine.specs.declared.draft.Draft.{Draft}
use Rattle.tta_machine.specs.Forms.{GuardForm, TemplateForm, ControlForm, SpaceForm}
use Rattle.tta_machine.specs.Draft.{is_too_long}
use Rattle.tta_machine.specs.Declarations.{bus_set}
use Rattle.tta_machine.specs.Kept.{IsDraft}
use Rattle.tta_arch.proofs.Lists.{different_push}
use Rattle.tta_machine.proofs.Naming.{AreNamed-push, are_named_longer, not_taken, good_name}
use Rattle.tta_machine.proofs.Growth.{Grows, there_more, there_still}
use Rattle.tta_machine.proofs.LookedUp.{bus_named-some, buses_named-some, is_socket-named, port_named-ok}
use Rattle.tta_machine.proofs.BusSets.{IsBusSet-bus_set}
use Rattle.tta_machine.proofs.MadeLinks.{guard_of, guard_added, GuardMade, template_of, template_added, TemplateMade, control_of, control_added, ControlMade, spaces_added, DataMade, FrameMade}

-- ---- guards

pub guard_kept : (d e : Draft) (f : GuardForm) → IsDraft d → GuardMade d e f → IsDraft e
guard_kept d e f r m =
    let guard : Guard = guard_of f m.bus m.file in
    let count = or_parts (not (m.on.width == 1) || nat_le m.on.size f.index) (nat_le 64 (length d.guards)) m.range in
    let fits = or_parts (not (m.on.width == 1)) (nat_le m.on.size f.index) count.0 in
    let test : File → Bool = λ p. p.width == 1 && nat_lt f.index p.size in
    let here : (m.on.width == 1 && nat_lt f.index m.on.size) ≡ true =
    and_from (m.on.width == 1) (nat_lt f.index m.on.size) (not-false (m.on.width == 1) fits.0) (lt-ltb f.index m.on.size (leb-false m.on.size f.index fits.1)) in
    let found : option_map_or test (slice_get d.files m.file) false ≡ true = rw m.there here in
    let there : m.bus < length d.buses = r.there.bus f.bus m.bus (bus_named-some d f.bus m.bus m.found_bus) in
    let rule : is_guard (length d.buses) d.files (guard_of f m.bus m.file) ≡ true =
    and_from (nat_lt m.bus (length d.buses)) (option_map_or test (slice_get d.files m.file) false) (lt-ltb m.bus (length d.buses) there) found in
    let room : length d.guards < 64 = leb-false 64 (length d.guards) count.1 in
    let more : length (d.guards ++ guard_of f m.bus m.file ∷ []) ≡ length d.guards + 1 = length_push d.guards guard in
    let grows : Grows d (guard_added d (guard_of f m.bus m.file)) = omega arith in
    let kept : IsDraft (guard_added d (guard_of f m.bus m.file)) = record {
      limits = let l = r.limits in omega arith;
      there = there_still d (guard_added d guard) r.there refl grows;
      named = assumption;
      rules = assumption (
        list_all_push (is_guard (length d.buses) d.files) d.guards guard r.rules.guards rule,
        different_push same_guard d.guards guard r.rules.different_guards m.new,
      );
    } in
    subst IsDraft m.made kept

-- ---- templates

-- the form of a template names at least one bus
pub template_kept : (line : ℕ) (d e : Draft) (f : TemplateForm) → IsDraft d → is_name f.name ≡ true → 0 < length f.buses → TemplateMade line d e f → IsDraft e
template_kept line d e f r written some m =
    let template : Template = template_of f m.imm m.buses in
    let count = or_parts (nat_le m.unit.size f.index || is_too_long f.name) (nat_le 8 (length d.templates)) m.range in
    let fits = or_parts (nat_le m.unit.size f.index) (is_too_long f.name) count.0 in
    let here : nat_lt f.index m.unit.size ≡ true = lt-ltb f.index m.unit.size (leb-false m.unit.size f.index fits.0) in
    let rule : is_template d.imms (template_of f m.imm m.buses) ≡ true = rw m.there here in
    let found = buses_named-some d f.buses m.buses r.there m.found_buses in
    let size : 0 < length m.buses = let same = found.1 in omega arith in
    let mask : IsBusSet (length d.buses) (bus_set m.buses) = IsBusSet-bus_set (length d.buses) m.buses size found.0 m.different in
    let room : length d.templates < 8 = leb-false 8 (length d.templates) count.1 in
    let more : length (d.templates ++ template_of f m.imm m.buses ∷ []) ≡ length d.templates + 1 = length_push d.templates template in
    let lines : length (d.template_lines ++ line ∷ []) ≡ length d.template_lines + 1 = length_push d.template_lines line in
    let grows : Grows d (template_added line d f m.imm m.buses) = omega arith in
    let new : Declared Named = (f.name, place.Template (length d.templates)) ∷ [] in
    let kept : IsDraft (template_added line d f m.imm m.buses) = record {
      limits = let l = r.limits in omega arith;
      there = there_more d (template_added line d f m.imm m.buses) f.name (place.Template (length d.templates)) r.there refl grows (omega arith) (good_name d f.name written m.free fits.1);
      named = assumption (AreNamed-push (λ s. s.name) place.Template d.names d.templates template r.named.templates (not_taken d f.name m.free), are_named_longer d new r.named);
      rules = assumption (
        list_all_push (is_template d.imms) d.templates template r.rules.templates rule,
        all_push (λ t. IsBusSet (length d.buses) t.buses) d.templates template r.rules.template_buses mask,
      );
    } in
    subst IsDraft m.made kept

-- ---- control

pub control_kept : (d e : Draft) (f : ControlForm) → IsDraft d → ControlMade d e f → IsDraft e
control_kept d e f r m =
    let control = control_of f m.trigger m.ra in
    let parts = or_parts (not (nat_le f.delay 4)) (not (is_from_to 1 16 f.address)) m.range in
    let rule : is_control d.sockets (control_of f m.trigger m.ra) ≡ true =
    and_from _ (is_port_socket d.sockets false m.ra)
    (and_from _ (is_socket d.sockets true m.trigger)
    (and_from (nat_le f.delay 4) (is_from_to 1 16 f.address) (not-false (nat_le f.delay 4) parts.0) (not-false (is_from_to 1 16 f.address) parts.1))
    (is_socket-named d true f.trigger m.trigger m.found_trigger))
    (port_named-ok d false f.ra m.ra m.found_ra) in
    let grows : Grows d (control_added d (control_of f m.trigger m.ra)) = omega arith in
    let kept : IsDraft (control_added d (control_of f m.trigger m.ra)) = record {
      limits = let l = r.limits in omega arith;
      there = there_still d (control_added d control) r.there refl grows;
      named = assumption;
      rules = assumption rule;
    } in
    subst IsDraft m.made kept

-- ---- spaces

spaces_kept : (d : Draft) (words frame : Option ℕ) → IsDraft d → unwrap_or words 0 ≤ 2 ^ 20 → unwrap_or frame 0 ≤ 65536 → IsDraft (spaces_added d words frame)
spaces_kept d words frame r few_words few_frame =
    let grows : Grows d (spaces_added d words frame) = omega arith in
    record {
      limits = let l = r.limits in omega arith;
      there = there_still d (spaces_added d words frame) r.there refl grows;
      named = assumption;
      rules = assumption;
    }

pub space_kept : (d e : Draft) (f : SpaceForm) → IsDraft d → DataMade d e f ⊎ FrameMade d e f → IsDraft e
space_kept d e f r (inl m) = subst IsDraft m.made (spaces_kept d (Some f.size) d.frame_words r m.few r.limits.frame_words)
space_kept d e f r (inr m) = subst IsDraft m.made (spaces_kept d d.data_words (Some f.size) r r.limits.data_words m.few)
