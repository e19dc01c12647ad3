-- The lines of a text keep the rules of drafts, and what they leave is a machine.
use Rattle.std.proofs.Common.{◌≡◌, ◌<◌, ◌≤◌, ◌+◌, ◌∷◌, [], ℕ, Bool, List, Option, Some, None, Result, Ok, Err, true, false, suc, length, refl, sym, ap, subst, ◌∙◌, arith, codes}
use Rattle.std.specs.Prelude.{nat_lt, if◌then◌else◌}
use Rattle.std.specs.Option.{option_map_or}
use Rattle.std.specs.List.{AllByRecursion}
use Rattle.std.proofs.lemmas.Bool.{ltb-true, ltb-false}
use Rattle.tta_machine.specs.Cited.{Line, Lexeme, name_of, value_of, is_mark, at_line, Units, Template, Control, Machine, taken_width, IsMachine, is_control}
use Rattle.tta_parse.proofs.Steps.{same_ok, then-some, only_if-some, then-ok, at_line-ok}
use Rattle.tta_parse.proofs.TextNames.{LineNames}
use Rattle.tta_machine.specs.declared.refusal.Refusal.TheVariants.{Missing, TooNarrow}
use Rattle.tta_machine.specs.declared.draft.Draft.{Draft}
use Rattle.tta_machine.specs.Draft.{nothing, machine_of}
use Rattle.tta_machine.specs.Forms.{one_of_two, names_alone, SocketForm, TemplateForm, socket_form, template_form}
use Rattle.tta_machine.specs.Text.{take_line, Refused, take_lines, narrow_line, complete}
use Rattle.tta_machine.specs.Kept.{IsDraft}
use Rattle.tta_machine.proofs.Growth.{names_there}
use Rattle.tta_machine.proofs.Distinct.{names_good, names_different}
use Rattle.tta_machine.proofs.Taken.{Taken, TakenBus, TakenSocket, TakenFile, TakenImm, TakenUnit, TakenOp, TakenGuard, TakenTemplate, TakenControl, TakenSpace, declare-taken}
use Rattle.tta_machine.proofs.NamedForms.{bus-named, socket-named, file-named, imm-named, unit-named, template-named}
use Rattle.tta_machine.proofs.TakenParts.{bus_kept, socket_kept, file_kept, imm_kept, unit_kept}
use Rattle.tta_machine.proofs.TakenOps.{op_kept}
use Rattle.tta_machine.proofs.TakenLinks.{guard_kept, template_kept, control_kept, space_kept}

-- ---- forms

names_alone-length : (line : Line) (names : List (List ℕ)) → names_alone line ≡ Some names → length names ≡ length line
names_alone-length [] [] h = refl
names_alone-length [] (n ∷ ns) h = cc
names_alone-length (w ∷ ws) names h =
    let first = then-some (name_of w) _ names h in
    let rest = then-some (names_alone ws) _ names first.2 in
    let made : first.0 ∷ rest.0 ≡ names = cc (rest.2) in
    sym (ap length made) ∙ ap suc (names_alone-length ws rest.0 rest.1)

-- a socket and a template name at least one bus
pub socket_form-some : (line : Line) (f : SocketForm) → socket_form line ≡ Some f → 0 < length f.buses
unfolding socket_form
socket_form-some [] f h = cc
socket_form-some (n ∷ []) f h = cc
socket_form-some (n ∷ direction ∷ []) f h = cc
socket_form-some (n ∷ direction ∷ bus ∷ buses) f h =
    let name = then-some (name_of n) _ f h in
    let input = then-some (one_of_two (codes "in") (codes "out") direction) _ f name.2 in
    let all = then-some (names_alone (bus ∷ buses)) _ f input.2 in
    let count : length all.0 ≡ suc (length buses) = names_alone-length (bus ∷ buses) all.0 all.1 in
    let made : all.0 ≡ f.buses = cc (all.2) in
    let same : length all.0 ≡ length f.buses = ap length made in
    omega arith

pub template_form-some : (line : Line) (f : TemplateForm) → template_form line ≡ Some f → 0 < length f.buses
unfolding template_form
template_form-some [] f h = cc
template_form-some (n ∷ []) f h = cc
template_form-some (n ∷ u ∷ []) f h = cc
template_form-some (n ∷ u ∷ dot ∷ []) f h = cc
template_form-some (n ∷ u ∷ dot ∷ i ∷ []) f h = cc
template_form-some (n ∷ u ∷ dot ∷ i ∷ bus ∷ buses) f h =
    let behind = only_if-some (is_mark (codes ".") dot) _ f h in
    let name = then-some (name_of n) _ f behind.1 in
    let imm = then-some (name_of u) _ f name.2 in
    let index = then-some (value_of i) _ f imm.2 in
    let all = then-some (names_alone (bus ∷ buses)) _ f index.2 in
    let count : length all.0 ≡ suc (length buses) = names_alone-length (bus ∷ buses) all.0 all.1 in
    let made : all.0 ≡ f.buses = cc (all.2) in
    let same : length all.0 ≡ length f.buses = ap length made in
    omega arith

-- ---- lines

-- what a line declares keeps the rules of drafts, where its names are names of the text
taken-keeps : (u : Units) (line : ℕ) (d e : Draft) (key : Lexeme) (words : Line) → IsDraft d → LineNames words → Taken u line d e key words → IsDraft e
taken-keeps u line d e key words r are (TakenBus f is said m) = bus_kept d e f r (bus-named words are f said) m
taken-keeps u line d e key words r are (TakenSocket f is said m) = socket_kept d e f r (socket-named words are f said) (socket_form-some words f said) m
taken-keeps u line d e key words r are (TakenFile f is said m) = file_kept d e f r (file-named words are f said) m
taken-keeps u line d e key words r are (TakenImm f is said m) = imm_kept d e f r (imm-named words are f said) m
taken-keeps u line d e key words r are (TakenUnit f is said m) = unit_kept d e f r (unit-named words are f said) m
taken-keeps u line d e key words r are (TakenOp f is said m) = op_kept u d e f r m
taken-keeps u line d e key words r are (TakenGuard f is said m) = guard_kept d e f r m
taken-keeps u line d e key words r are (TakenTemplate f is said m) = template_kept line d e f r (template-named words are f said) (template_form-some words f said) m
taken-keeps u line d e key words r are (TakenControl f is said m) = control_kept d e f r m
taken-keeps u line d e key words r are (TakenSpace f is said m) = space_kept d e f r m

pub take_line-keeps : (u : Units) (line : ℕ) (d e : Draft) (words : Line) → IsDraft d → LineNames words → take_line u line d words ≡ Ok e → IsDraft e
unfolding take_line
take_line-keeps u line d e [] r are h = subst IsDraft (same_ok d e h) r
take_line-keeps u line d e (key ∷ words) r are h = taken-keeps u line d e key words r are.1 (declare-taken u line d e key words h)

-- ---- a text

pub take_lines-keeps : (u : Units) (line : ℕ) (d e : Draft) (lines : List Line) → IsDraft d → AllByRecursion LineNames lines
    → take_lines u line d lines ≡ Ok e → IsDraft e
take_lines-keeps u line d e [] r are h = subst IsDraft (same_ok d e h) r
take_lines-keeps u line d e (words ∷ lines) r are h =
    let one = then-ok (at_line line (take_line u line d words)) _ e h in
    let next = take_line-keeps u line d one.0 words r are.0 (at_line-ok line (take_line u line d words) one.0 one.1) in
    take_lines-keeps u (line + 1) one.0 e lines next are.1 one.2

-- before the first line
pub nothing-kept : IsDraft nothing
nothing-kept = record {
  limits = omega arith;
  there = names_there nothing (λ name at e. cc);
  named = record {
    buses = λ k x e. cc;
    sockets = λ k x e. cc;
    files = λ k x e. cc;
    imms = λ k x e. cc;
    units = λ k x e. cc;
    templates = λ k x e. cc;
  };
  rules = assumption;
}

-- ---- the machine

-- where no template is too narrow, all are wide
all_wide : (m : Machine) (ts : List Template) (lines : List ℕ) → length lines ≡ length ts → narrow_line m ts lines ≡ None
    → AllByRecursion (λ t. 32 ≤ taken_width m t.buses) ts
all_wide m [] lines same h = tt
all_wide m (t ∷ ts) [] same h = absurd (omega arith)
all_wide m (t ∷ ts) (line ∷ lines) same h = by (all_wide m ts lines (omega arith)) (nat_lt (taken_width m t.buses) 32) refl h where
  by : (narrow_line m ts lines ≡ None → AllByRecursion (λ s. 32 ≤ taken_width m s.buses) ts) → (b : Bool) → nat_lt (taken_width m t.buses) 32 ≡ b
      → (if b then Some line else narrow_line m ts lines) ≡ None → (32 ≤ taken_width m t.buses) × AllByRecursion (λ s. 32 ≤ taken_width m s.buses) ts
  by later true is e = cc
  by later false is e = (ltb-false (taken_width m t.buses) 32 is, later e)

-- a draft with a bus, control and wide templates is a machine
pub is_machine : (d : Draft) (c : Control) → IsDraft d → d.control ≡ Some c → 0 < length d.buses
    → narrow_line (machine_of d c) d.templates d.template_lines ≡ None → IsMachine (machine_of d c)
is_machine d c r has_control has_bus wide =
    assumption (
      names_good d c r,
      names_different d c r,
      all_wide (machine_of d c) d.templates d.template_lines r.limits.template_lines wide,
      subst (λ o. option_map_or (is_control d.sockets) o true ≡ true) has_control r.rules.control,
    )

-- what is complete: control and a bus are there, and no template is too narrow
pub record IsComplete (d : Draft) (m : Machine) : Type 0 where
  pub control : Control
  pub has_control : d.control ≡ Some control
  pub has_bus : 0 < length d.buses
  pub wide : narrow_line (machine_of d control) d.templates d.template_lines ≡ None
  pub made : machine_of d control ≡ m

-- what a text ends with, by the line of its first template that is too narrow
abbrev pub ended : Machine → Option ℕ → Result Machine Refused
ended m narrow = option_map_or (λ line. Err (line, TooNarrow)) narrow (Ok m)

-- what a text with control ends with
abbrev pub ended_with : Draft → Control → Result Machine Refused
ended_with d c = if nat_lt 0 (length d.buses) then ended (machine_of d c) (narrow_line (machine_of d c) d.templates d.template_lines) else Err (0, Missing)

pub complete-ok : (d : Draft) (m : Machine) → complete d ≡ Ok m → IsComplete d m
complete-ok d m h = with_control d.control refl (opened d.control h) where
  opened : (o : Option Control) → complete (record d { control = o }) ≡ Ok m → option_map_or (ended_with d) o (Err (0, Missing)) ≡ Ok m
  opened None t = t
  opened (Some c) t = t

  wide : (c : Control) → d.control ≡ Some c → 0 < length d.buses → (o : Option ℕ) → narrow_line (machine_of d c) d.templates d.template_lines ≡ o
      → ended (machine_of d c) o ≡ Ok m → IsComplete d m
  wide c is some None e t = record { control = c; has_control = is; has_bus = some; wide = e; made = same_ok (machine_of d c) m t }
  wide c is some (Some line) e t = cc

  with_bus : (c : Control) → d.control ≡ Some c → (b : Bool) → nat_lt 0 (length d.buses) ≡ b
      → (if b then ended (machine_of d c) (narrow_line (machine_of d c) d.templates d.template_lines) else Err (0, Missing)) ≡ Ok m → IsComplete d m
  with_bus c is true e t = wide c is (ltb-true 0 (length d.buses) e) (narrow_line (machine_of d c) d.templates d.template_lines) refl t
  with_bus c is false e t = cc

  with_control : (o : Option Control) → d.control ≡ o → option_map_or (ended_with d) o (Err (0, Missing)) ≡ Ok m → IsComplete d m
  with_control None is t = cc
  with_control (Some c) is t = with_bus c is (nat_lt 0 (length d.buses)) refl t
