-- The machine that a text is read as is the one that its lines describe.
use Rattle.std.proofs.Common.{◌≡◌, ◌+◌, ◌∷◌, [], ℕ, List, Option, Some, None, Ok, true, map, filter_map, option_to_list, refl, sym, ap, ap₂, subst, ◌∙◌, append-nil, codes}
use Rattle.std.specs.Prelude.{unwrap_or}
use Rattle.std.specs.List.{list_all, AllByRecursion}
use Rattle.std.specs.Str.{bytes_eq}
use Rattle.tta_machine.specs.Cited.{Line, Lexeme, lines_of, is_keyword, at_line, Units, Control, Machine, IsMachine}
use Rattle.tta_parse.proofs.Steps.{same_ok, then-ok, at_line-ok}
use Rattle.tta_parse.proofs.TextNames.{LineNames, text_names}
use Rattle.tta_machine.specs.declared.draft.Draft.{Draft}
use Rattle.tta_machine.specs.Draft.{nothing, machine_of}
use Rattle.tta_machine.specs.Forms.{bus_form, socket_form, file_form, imm_form, unit_form, op_form, guard_form, template_form, control_form, space_form}
use Rattle.tta_machine.specs.Text.{take_line, take_lines, complete, machine_of_text}
use Rattle.tta_machine.specs.Kept.{IsDraft}
use Rattle.tta_machine.specs.Grammar.{IsMachineText, IsSize, bus_lines, socket_lines, file_lines, imm_lines, unit_lines, op_lines, guard_lines, template_lines, control_lines, space_lines, bus_names, socket_names, file_names, imm_names, unit_names, is_known_op, bus_made, socket_made, file_made, imm_made, unit_made, guard_made, template_made, control_made, data_size, frame_size}
use Rattle.tta_machine.proofs.Taken.{Taken, TakenBus, TakenSocket, TakenFile, TakenImm, TakenUnit, TakenOp, TakenGuard, TakenTemplate, TakenControl, TakenSpace, declare-taken}
use Rattle.tta_machine.proofs.TakenLines.{take_line-keeps, take_lines-keeps, nothing-kept, is_machine, complete-ok}
use Rattle.tta_machine.proofs.KindLines.{ByKind, by_kind, OneLine, one_line, no_line, in_front, by_word, adds_none}
use Rattle.tta_machine.proofs.UnitLines.{units_none}
use Rattle.tta_machine.proofs.Borne.{AreBorne, take_line-borne, take_lines-borne, nothing-borne}
use Rattle.tta_machine.proofs.Positions.{HasPlaces, has_places, bus_names_of, socket_names_of, file_names_of, imm_names_of, unit_names_of}
use Rattle.tta_machine.proofs.Continued.{Continues, bus_continues, socket_continues, file_continues, imm_continues, unit_continues, op_continues, guard_continues, template_continues, control_continues, space_continues}

-- ---- lines

-- a line that was taken adds what it declares
taken-continues : (u : Units) (line : ℕ) (d next e : Draft) (key : Lexeme) (words : Line) (rest : List Line) → HasPlaces e → IsDraft d → AreBorne d → IsDraft e → AreBorne e
    → Taken u line d next key words → Continues u next e (by_kind rest) → Continues u d e (by_kind ((key ∷ words) ∷ rest))
taken-continues u line d next e key words rest places r b end end_borne taken later = by taken where
  lines : ByKind
  lines = by_kind rest

  -- the line has the form of one kind, whose word it begins with
  front : {F : Type 0} (word : List ℕ) (form : Line → Option F) (put : Option F → OneLine) (f : F) → is_keyword word key ≡ true → form words ≡ Some f
      → one_line (bytes_eq word) words ≡ put (form words) → Continues u d e (in_front (put (Some f)) lines) → Continues u d e (by_kind ((key ∷ words) ∷ rest))
  front word form put f is said one c =
      subst (Continues u d e) (sym (by_word word key words rest is ∙ ap (λ l. in_front l lines) (one ∙ ap put said))) c

  by : Taken u line d next key words → Continues u d e (by_kind ((key ∷ words) ∷ rest))
  by (TakenBus f is said m) = front (codes "bus") bus_form (λ o. record no_line { bus = o }) f is said refl (bus_continues u d next e lines f m later)
  by (TakenSocket f is said m) = front (codes "socket") socket_form (λ o. record no_line { socket = o }) f is said refl (socket_continues u d next e lines f places m later)
  by (TakenFile f is said m) = front (codes "file") file_form (λ o. record no_line { file = o }) f is said refl (file_continues u d next e lines f places m later)
  by (TakenImm f is said m) = front (codes "imm") imm_form (λ o. record no_line { imm = o }) f is said refl (imm_continues u d next e lines f places m later)
  by (TakenUnit f is said m) = front (codes "unit") unit_form (λ o. record no_line { unit = o }) f is said refl (unit_continues u d next e lines f places m later)
  by (TakenOp f is said m) = front (codes "op") op_form (λ o. record no_line { op = o }) f is said refl (op_continues u d next e lines f r b end end_borne m later)
  by (TakenGuard f is said m) = front (codes "guard") guard_form (λ o. record no_line { guard = o }) f is said refl (guard_continues u d next e lines f places m later)
  by (TakenTemplate f is said m) = front (codes "template") template_form (λ o. record no_line { template = o }) f is said refl (template_continues line u d next e lines f places m later)
  by (TakenControl f is said m) = front (codes "control") control_form (λ o. record no_line { control = o }) f is said refl (control_continues u d next e lines f places m later)
  by (TakenSpace f is said m) = front (codes "space") space_form (λ o. record no_line { space = o }) f is said refl (space_continues u d next e lines f m later)

nothing-continues : (u : Units) (d : Draft) → Continues u d d (by_kind [])
nothing-continues u d = record {
  names = record { stay = λ n p h. h };
  all = refl;
  known_ops = refl;
  buses = adds_none d.buses bus_made;
  sockets = adds_none d.sockets (socket_made (bus_names_of d));
  files = adds_none d.files (file_made (socket_names_of d));
  imms = adds_none d.imms (imm_made (socket_names_of d));
  units = units_none u (socket_names_of d) d.units;
  guards = adds_none d.guards (guard_made (bus_names_of d) (file_names_of d));
  templates = adds_none d.templates (template_made (bus_names_of d) (imm_names_of d));
  control = adds_none (option_to_list d.control) (control_made (socket_names_of d));
  data_words = sym (append-nil (option_to_list d.data_words));
  frame_words = sym (append-nil (option_to_list d.frame_words));
}

-- a blank line adds nothing
take_line-continues : (u : Units) (line : ℕ) (d next e : Draft) (words : Line) (rest : List Line) → HasPlaces e → IsDraft d → AreBorne d → IsDraft e → AreBorne e
    → take_line u line d words ≡ Ok next → Continues u next e (by_kind rest) → Continues u d e (by_kind (words ∷ rest))
unfolding take_line
take_line-continues u line d next e [] rest places r b end end_borne h later =
    subst (λ x. Continues u x e (by_kind ([] ∷ rest))) (sym (same_ok d next h)) later
take_line-continues u line d next e (key ∷ words) rest places r b end end_borne h later =
    taken-continues u line d next e key words rest places r b end end_borne (declare-taken u line d next key words h) later

-- ---- a text

pub take_lines-continues : (u : Units) (line : ℕ) (d e : Draft) (lines : List Line) → HasPlaces e → IsDraft e → AreBorne e → IsDraft d → AreBorne d
    → AllByRecursion LineNames lines → take_lines u line d lines ≡ Ok e → Continues u d e (by_kind lines)
take_lines-continues u line d e [] places end end_borne r b are h = subst (λ x. Continues u x e (by_kind [])) (sym (same_ok d e h)) (nothing-continues u e)
take_lines-continues u line d e (words ∷ rest) places end end_borne r b are h =
    let one = then-ok (at_line line (take_line u line d words)) _ e h in
    let taken = at_line-ok line (take_line u line d words) one.0 one.1 in
    let later : Continues u one.0 e (by_kind rest) =
    take_lines-continues u (line + 1) one.0 e rest places end end_borne (take_line-keeps u line d one.0 words r are.0 taken) (take_line-borne u line d one.0 words b taken) are.1 one.2 in
    take_line-continues u line d one.0 e words rest places r b end end_borne taken later

-- the names of what forms make are the names in the forms
names_made : {A F : Type 0} (name : A → List ℕ) (given : F → List ℕ) (made : F → A) (parts : List A) (forms : List F)
    → ((f : F) → name (made f) ≡ given f) → parts ≡ map made forms → map name parts ≡ map given forms
names_made {A} {F} name given made parts forms same is = ap (map name) is ∙ by forms where
  by : (fs : List F) → map name (map made fs) ≡ map given fs
  by [] = refl
  by (f ∷ fs) = ap₂ (λ n ns. n ∷ ns) (same f) (by fs)

size_said : (o : Option ℕ) (sizes : List ℕ) → option_to_list o ≡ sizes → IsSize sizes (unwrap_or o 0)
size_said None sizes h = subst (λ l. IsSize l 0) h refl
size_said (Some size) sizes h = subst (λ l. IsSize l size) h refl

draft_said : (u : Units) (lines : List Line) (d : Draft) (c : Control) → Continues u nothing d (by_kind lines) → d.control ≡ Some c → IsMachineText u lines (machine_of d c)
draft_said u lines d c k is = record {
  all = k.all;
  known_ops = subst (λ names. list_all (is_known_op u names) (op_lines lines) ≡ true) units k.known_ops;
  buses = k.buses;
  sockets = k.sockets ∙ ap (λ b. map (socket_made b) (socket_lines lines)) buses;
  files = k.files ∙ ap (λ s. map (file_made s) (file_lines lines)) sockets;
  imms = k.imms ∙ ap (λ s. map (imm_made s) (imm_lines lines)) sockets;
  units = k.units ∙ ap (λ s. map (unit_made u s (op_lines lines)) (unit_lines lines)) sockets;
  guards = k.guards ∙ ap₂ (λ b f. map (guard_made b f) (guard_lines lines)) buses files;
  templates = k.templates ∙ ap₂ (λ b i. map (template_made b i) (template_lines lines)) buses imms;
  control = sym (ap option_to_list is) ∙ k.control ∙ ap (λ s. map (control_made s) (control_lines lines)) sockets;
  data_words = size_said d.data_words (filter_map data_size (space_lines lines)) k.data_words;
  frame_words = size_said d.frame_words (filter_map frame_size (space_lines lines)) k.frame_words;
} where
  buses : bus_names_of d ≡ bus_names lines
  buses = names_made (λ x. x.name) (λ f. f.name) bus_made d.buses (bus_lines lines) (λ f. refl) k.buses

  sockets : socket_names_of d ≡ socket_names lines
  sockets = names_made (λ x. x.name) (λ f. f.name) (socket_made (bus_names_of d)) d.sockets (socket_lines lines) (λ f. refl) k.sockets

  files : file_names_of d ≡ file_names lines
  files = names_made (λ x. x.name) (λ f. f.name) (file_made (socket_names_of d)) d.files (file_lines lines) (λ f. refl) k.files

  units : unit_names_of d ≡ unit_names lines
  units = names_made (λ x. x.name) (λ f. f.name) (unit_made u (socket_names_of d) (op_lines lines)) d.units (unit_lines lines) (λ f. refl) k.units

  imms : imm_names_of d ≡ imm_names lines
  imms = names_made (λ x. x.name) (λ f. f.name) (imm_made (socket_names_of d)) d.imms (imm_lines lines) (λ f. refl) k.imms

-- what a text is read as is what its lines describe
pub machine-said : (u : Units) (text : List ℕ) (m : Machine) → machine_of_text u text ≡ Ok m → IsMachineText u (lines_of text) m
unfolding machine_of_text
machine-said u text m h =
    let read = then-ok (take_lines u 1 nothing (lines_of text)) complete m h in
    let names = text_names text in
    let kept : IsDraft read.0 = take_lines-keeps u 1 nothing read.0 (lines_of text) nothing-kept names read.1 in
    let borne : AreBorne read.0 = take_lines-borne u 1 nothing read.0 (lines_of text) nothing-borne read.1 in
    let whole = complete-ok read.0 m read.2 in
    let said : Continues u nothing read.0 (by_kind (lines_of text)) = take_lines-continues u 1 nothing read.0 (lines_of text) (has_places read.0 kept borne) kept borne nothing-kept nothing-borne names read.1 in
    subst (IsMachineText u (lines_of text)) whole.made (draft_said u (lines_of text) read.0 whole.control said whole.has_control)

-- and it keeps the rules of machines
pub text_machine : (u : Units) (text : List ℕ) (m : Machine) → machine_of_text u text ≡ Ok m → IsMachine m
unfolding machine_of_text
text_machine u text m h =
    let read = then-ok (take_lines u 1 nothing (lines_of text)) complete m h in
    let kept : IsDraft read.0 = take_lines-keeps u 1 nothing read.0 (lines_of text) nothing-kept (text_names text) read.1 in
    let whole = complete-ok read.0 m read.2 in
    subst IsMachine whole.made (is_machine read.0 whole.control kept whole.has_control whole.has_bus whole.wide)
