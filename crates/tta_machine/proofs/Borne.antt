-- What a name names bears that name.
use Rattle.std.proofs.Common.{◌≡◌, ◌++◌, ◌∷◌, [], ℕ, List, Some, Ok, zero, suc, length, map, refl, sym, ap, subst, ◌∙◌, ◌⊎◌, inl, inr}
use Rattle.std.specs.Prelude.{slice_get, slice_set}
use Rattle.std.proofs.lemmas.List.{map-append}
use Rattle.tta_list.proofs.Lists.{slice_get-longer}
use Rattle.tta_machine.specs.Cited.{Line, Lexeme, named_in, Units}
use Rattle.tta_machine.specs.declared.draft.Named.{Named}
use Rattle.tta_machine.specs.declared.draft.Named.TheVariants as place
use Rattle.tta_machine.specs.declared.draft.Draft.{Draft}
use Rattle.tta_arch.specs.declared.parts.Unit.{Unit as OpUnit}
use Rattle.tta_machine.specs.Draft.{nothing}
use Rattle.tta_machine.specs.Forms.{OpForm}
use Rattle.tta_machine.specs.Declarations.{with_op}
use Rattle.tta_machine.specs.Text.{take_line, take_lines}
use Rattle.tta_machine.specs.Grammar.{bus_made}
use Rattle.tta_machine.proofs.Naming.{named_in-push}
use Rattle.tta_machine.proofs.MadeParts.{bus_added, socket_of, socket_added, file_of, file_added, imm_of, imm_added, unit_of, unit_added}
use Rattle.tta_machine.proofs.MadeLinks.{unit_op, op_added, OpMade, guard_of, guard_added, template_of, template_added, control_of, control_added, spaces_added}
use Rattle.tta_machine.proofs.Taken.{Taken, TakenBus, TakenSocket, TakenFile, TakenImm, TakenUnit, TakenOp, TakenGuard, TakenTemplate, TakenControl, TakenSpace, line_keeps, lines_keep}

-- the part of this place bears this name
abbrev pub Bears : Draft → Named → List ℕ → Type 0
Bears d (place.Bus k) name = slice_get (map (λ x. x.name) d.buses) k ≡ Some name
Bears d (place.Socket k) name = slice_get (map (λ x. x.name) d.sockets) k ≡ Some name
Bears d (place.File k) name = slice_get (map (λ x. x.name) d.files) k ≡ Some name
Bears d (place.Imm k) name = slice_get (map (λ x. x.name) d.imms) k ≡ Some name
Bears d (place.Unit k) name = slice_get (map (λ x. x.name) d.units) k ≡ Some name
Bears d (place.Template k) name = slice_get (map (λ x. x.name) d.templates) k ≡ Some name

-- what every name of a draft names bears it
pub record AreBorne (d : Draft) : Type 0 where
  pub all : (name : List ℕ) (at : Named) → named_in d.names name ≡ Some at → Bears d at name

-- ---- one name more

-- who bears a name goes on bearing it when there are more parts
longer : {A : Type 0} (name : A → List ℕ) (xs : List A) (x : A) (k : ℕ) (n : List ℕ) → slice_get (map name xs) k ≡ Some n → slice_get (map name (xs ++ x ∷ [])) k ≡ Some n
longer name xs x k n h = rw map-append (slice_get-longer (map name xs) (name x ∷ []) k n h)

-- the last part bears its name
last_bears : {A : Type 0} (name : A → List ℕ) (xs : List A) (x : A) → slice_get (map name (xs ++ x ∷ [])) (length xs) ≡ Some (name x)
last_bears name [] x = refl
last_bears name (y ∷ ys) x = last_bears name ys x

-- whoever bears a name goes on bearing it, kind by kind
record BearersStay (d e : Draft) : Type 0 where
  buses : (k : ℕ) (n : List ℕ) → Bears d (place.Bus k) n → Bears e (place.Bus k) n
  sockets : (k : ℕ) (n : List ℕ) → Bears d (place.Socket k) n → Bears e (place.Socket k) n
  files : (k : ℕ) (n : List ℕ) → Bears d (place.File k) n → Bears e (place.File k) n
  imms : (k : ℕ) (n : List ℕ) → Bears d (place.Imm k) n → Bears e (place.Imm k) n
  units : (k : ℕ) (n : List ℕ) → Bears d (place.Unit k) n → Bears e (place.Unit k) n
  templates : (k : ℕ) (n : List ℕ) → Bears d (place.Template k) n → Bears e (place.Template k) n

-- and so does the part of any place
bears_still : (d e : Draft) (at : Named) (name : List ℕ) → BearersStay d e → Bears d at name → Bears e at name
bears_still d e (place.Bus k) name s h = s.buses k name h
bears_still d e (place.Socket k) name s h = s.sockets k name h
bears_still d e (place.File k) name s h = s.files k name h
bears_still d e (place.Imm k) name s h = s.imms k name h
bears_still d e (place.Unit k) name s h = s.units k name h
bears_still d e (place.Template k) name s h = s.templates k name h

-- one name more, of a part that bears it
borne_more : (d e : Draft) (new : List ℕ) (p : Named) → AreBorne d → e.names ≡ d.names ++ (new, p) ∷ [] → BearersStay d e → Bears e p new → AreBorne e
borne_more d e new p r more stay here = record { all = λ name at h. by name at (named_in-push d.names new p name at (subst (λ names. named_in names name ≡ Some at) more h)) } where
  by : (name : List ℕ) (at : Named) → (named_in d.names name ≡ Some at) ⊎ ((new ≡ name) × (p ≡ at)) → Bears e at name
  by name at (inl old) = bears_still d e at name stay (r.all name at old)
  by name at (inr one) = subst (λ q. Bears e q name) one.1 (subst (Bears e p) one.0 here)

-- no name more
borne_still : (d e : Draft) → AreBorne d → e.names ≡ d.names → BearersStay d e → AreBorne e
borne_still d e r same stay = record { all = λ name at h. bears_still d e at name stay (r.all name at (subst (λ names. named_in names name ≡ Some at) same h)) }

-- a change to a part that keeps its name
map_changed : {A : Type 0} (name : A → List ℕ) (xs : List A) (k : ℕ) (x v : A) → slice_get xs k ≡ Some x → name v ≡ name x → map name (slice_set xs k v) ≡ map name xs
map_changed name [] k x v at same = refl
map_changed name (y ∷ ys) zero x v at same =
    let here : y ≡ x = cc in ap (λ n. n ∷ map name ys) (same ∙ ap name (sym here))
map_changed name (y ∷ ys) (suc k) x v at same = ap (λ ns. name y ∷ ns) (map_changed name ys k x v at same)

-- ---- lines

-- an operation more changes a unit, and not its name
op_borne : (u : Units) (d e : Draft) (f : OpForm) → AreBorne d → OpMade u d e f → AreBorne e
op_borne u d e f r m =
    let unit : OpUnit = with_op m.unit (unit_op u m.op f.latency) in
    let same : map (λ x. x.name) (slice_set d.units m.k unit) ≡ map (λ x. x.name) d.units = map_changed (λ x. x.name) d.units m.k m.unit unit m.there refl in
    let stays : (k : ℕ) (n : List ℕ) → slice_get (map (λ x. x.name) d.units) k ≡ Some n → slice_get (map (λ x. x.name) (slice_set d.units m.k unit)) k ≡ Some n =
    λ k n h. subst (λ names. slice_get names k ≡ Some n) (sym same) h in
    let still : AreBorne (op_added d m.k m.unit (unit_op u m.op f.latency)) = borne_still d (op_added d m.k m.unit (unit_op u m.op f.latency)) r refl (assumption stays) in
    subst AreBorne m.made still

-- a line that was taken
taken-borne : (u : Units) (line : ℕ) (d e : Draft) (key : Lexeme) (words : Line) → AreBorne d → Taken u line d e key words → AreBorne e
taken-borne u line d e key words r (TakenBus f is said m) =
    subst AreBorne m.made (borne_more d (bus_added d f) f.name (place.Bus (length d.buses)) r refl
    (assumption (longer (λ x. x.name) d.buses (bus_made f))) (last_bears (λ x. x.name) d.buses (bus_made f)))
taken-borne u line d e key words r (TakenSocket f is said m) =
    subst AreBorne m.made (borne_more d (socket_added d f m.buses) f.name (place.Socket (length d.sockets)) r refl
    (assumption (longer (λ x. x.name) d.sockets (socket_of f m.buses))) (last_bears (λ x. x.name) d.sockets (socket_of f m.buses)))
taken-borne u line d e key words r (TakenFile f is said m) =
    subst AreBorne m.made (borne_more d (file_added d f m.out m.into) f.name (place.File (length d.files)) r refl
    (assumption (longer (λ x. x.name) d.files (file_of f m.out m.into))) (last_bears (λ x. x.name) d.files (file_of f m.out m.into)))
taken-borne u line d e key words r (TakenImm f is said m) =
    subst AreBorne m.made (borne_more d (imm_added d f m.out) f.name (place.Imm (length d.imms)) r refl
    (assumption (longer (λ x. x.name) d.imms (imm_of f m.out))) (last_bears (λ x. x.name) d.imms (imm_of f m.out)))
taken-borne u line d e key words r (TakenUnit f is said m) =
    subst AreBorne m.made (borne_more d (unit_added d (unit_of f m.operand m.trigger m.result)) f.name (place.Unit (length d.units)) r refl
    (assumption (longer (λ x. x.name) d.units (unit_of f m.operand m.trigger m.result))) (last_bears (λ x. x.name) d.units (unit_of f m.operand m.trigger m.result)))
taken-borne u line d e key words r (TakenOp f is said m) = op_borne u d e f r m
taken-borne u line d e key words r (TakenGuard f is said m) = subst AreBorne m.made (borne_still d (guard_added d (guard_of f m.bus m.file)) r refl assumption)
taken-borne u line d e key words r (TakenTemplate f is said m) =
    subst AreBorne m.made (borne_more d (template_added line d f m.imm m.buses) f.name (place.Template (length d.templates)) r refl
    (assumption (longer (λ x. x.name) d.templates (template_of f m.imm m.buses))) (last_bears (λ x. x.name) d.templates (template_of f m.imm m.buses)))
taken-borne u line d e key words r (TakenControl f is said m) = subst AreBorne m.made (borne_still d (control_added d (control_of f m.trigger m.ra)) r refl assumption)
taken-borne u line d e key words r (TakenSpace f is said (inl m)) = subst AreBorne m.made (borne_still d (spaces_added d (Some f.size) d.frame_words) r refl assumption)
taken-borne u line d e key words r (TakenSpace f is said (inr m)) = subst AreBorne m.made (borne_still d (spaces_added d d.data_words (Some f.size)) r refl assumption)

-- a line, and the lines of a text
pub take_line-borne : (u : Units) (line : ℕ) (d e : Draft) (words : Line) → AreBorne d → take_line u line d words ≡ Ok e → AreBorne e
take_line-borne u line d e words r h = line_keeps u AreBorne (taken-borne u) line d e words r h

pub take_lines-borne : (u : Units) (line : ℕ) (d e : Draft) (lines : List Line) → AreBorne d → take_lines u line d lines ≡ Ok e → AreBorne e
take_lines-borne u line d e lines r h = lines_keep u AreBorne (taken-borne u) line d e lines r h

pub nothing-borne : AreBorne nothing
nothing-borne = record { all = λ name at e. cc }
