-- What stays true of a draft when it has more parts.
use Rattle.std.proofs.Common.{◌≡◌, ◌<◌, ◌≤◌, ◌++◌, ◌∷◌, [], ℕ, Bool, List, Option, Some, None, true, false, length, refl, subst, arith, ◌⊎◌, inl, inr, lt_of_lt_of_le, pow_mono}
use Rattle.std.specs.Prelude.{◌&&◌, ◌||◌, ◌==◌, nat_lt, nat_le, slice_get}
use Rattle.std.specs.Option.{option_map_or}
use Rattle.std.specs.List.{list_all}
use Rattle.std.proofs.lemmas.Bool.{and_parts, and_from, ltb-true, lt-ltb}
use Rattle.tta_list.proofs.Lists.{slice_get-longer}
use Rattle.tta_list.proofs.Tests.{and_map}
use Rattle.tta_machine.specs.Cited.{named_in, Socket, File, ImmUnit, Guard, Template, Control, is_same, IsMachineName, IsBusSet, is_socket, is_port_socket, is_from_to, is_file, is_imm, is_unit, is_unit_op, same_op, are_different, is_guard, is_template, is_control}
use Rattle.tta_machine.specs.declared.draft.Named.{Named}
use Rattle.tta_machine.specs.declared.draft.Named.TheVariants as place
use Rattle.tta_machine.specs.declared.draft.Draft.{Draft}
use Rattle.tta_arch.specs.declared.parts.Unit.{Unit as OpUnit}
use Rattle.tta_machine.specs.Kept.{NamesAreThere}
use Rattle.tta_machine.proofs.Naming.{named_in-push}

-- ---- names

-- what a place names is there
abbrev pub IsThere : Draft → Named → Type 0
IsThere d (place.Bus k) = k < length d.buses
IsThere d (place.Socket k) = k < length d.sockets
IsThere d (place.File k) = k < length d.files
IsThere d (place.Imm k) = k < length d.imms
IsThere d (place.Unit k) = k < length d.units
IsThere d (place.Template k) = k < length d.templates

-- no list of named parts has become shorter
pub record Grows (d e : Draft) : Type 0 where
  pub buses : length d.buses ≤ length e.buses
  pub sockets : length d.sockets ≤ length e.sockets
  pub files : length d.files ≤ length e.files
  pub imms : length d.imms ≤ length e.imms
  pub units : length d.units ≤ length e.units
  pub templates : length d.templates ≤ length e.templates

-- a place that a name names is there, and stays there when the lists grow
pub is_there : (d : Draft) → NamesAreThere d → (name : List ℕ) (at : Named) → named_in d.names name ≡ Some at → IsThere d at
is_there d r name (place.Bus k) e = r.bus name k e
is_there d r name (place.Socket k) e = r.socket name k e
is_there d r name (place.File k) e = r.file name k e
is_there d r name (place.Imm k) e = r.imm name k e
is_there d r name (place.Unit k) e = r.unit name k e
is_there d r name (place.Template k) e = r.template name k e

pub stays_there : (d e : Draft) → Grows d e → (at : Named) → IsThere d at → IsThere e at
stays_there d e g (place.Bus k) h = omega arith
stays_there d e g (place.Socket k) h = omega arith
stays_there d e g (place.File k) h = omega arith
stays_there d e g (place.Imm k) h = omega arith
stays_there d e g (place.Unit k) h = omega arith
stays_there d e g (place.Template k) h = omega arith

-- what every place of a name keeps, the places of each kind keep
pub names_there : (d : Draft) → ((name : List ℕ) (at : Named) → named_in d.names name ≡ Some at → IsThere d at × IsMachineName name) → NamesAreThere d
names_there d all = record {
  bus = λ name k h. (all name (place.Bus k) h).0;
  socket = λ name k h. (all name (place.Socket k) h).0;
  file = λ name k h. (all name (place.File k) h).0;
  imm = λ name k h. (all name (place.Imm k) h).0;
  unit = λ name k h. (all name (place.Unit k) h).0;
  template = λ name k h. (all name (place.Template k) h).0;
  good = λ name at h. (all name at h).1;
}

-- the names as before
pub there_still : (d e : Draft) → NamesAreThere d → e.names ≡ d.names → Grows d e → NamesAreThere e
there_still d e r same g = names_there e (λ name at h.
    let before : named_in d.names name ≡ Some at = subst (λ names. named_in names name ≡ Some at) same h in
    (stays_there d e g at (is_there d r name at before), r.good name at before))

-- one name more, of a part that is there
pub there_more : (d e : Draft) (new : List ℕ) (p : Named) → NamesAreThere d → e.names ≡ d.names ++ (new, p) ∷ [] → Grows d e
    → IsThere e p → IsMachineName new → NamesAreThere e
there_more d e new p r more g here good = names_there e (λ name at h.
    by name at (named_in-push d.names new p name at (subst (λ names. named_in names name ≡ Some at) more h)))
  where
    by : (name : List ℕ) (at : Named) → (named_in d.names name ≡ Some at) ⊎ ((new ≡ name) × (p ≡ at)) → IsThere e at × IsMachineName name
    by name at (inl old) = (stays_there d e g at (is_there d r name at old), r.good name at old)
    by name at (inr one) = (subst (IsThere e) one.1 here, subst IsMachineName one.0 good)

-- ---- more buses

pub IsBusSet-more : (n m mask : ℕ) → n ≤ m → IsBusSet n mask → IsBusSet m mask
IsBusSet-more n m mask le h = (h.0, lt_of_lt_of_le h.1 (pow_mono le))

pub is_guard-more_buses : (n m : ℕ) (files : List File) (g : Guard) → n ≤ m → is_guard n files g ≡ true → is_guard m files g ≡ true
is_guard-more_buses n m files g le h =
    let rest : Bool = option_map_or (λ f. f.width == 1 && nat_lt g.on.index f.size) (slice_get files g.on.file) false in
    let parts = and_parts (nat_lt g.bus n) rest h in
    let there : g.bus < n = ltb-true g.bus n parts.0 in
    and_from (nat_lt g.bus m) rest (lt-ltb g.bus m (omega arith)) parts.1

-- ---- more sockets

-- a test of an element that is there holds in a longer list
test_longer : {A : Type 0} (p : A → Bool) (xs more : List A) (k : ℕ) → option_map_or p (slice_get xs k) false ≡ true → option_map_or p (slice_get (xs ++ more) k) false ≡ true
test_longer {A} p xs more k h = by (slice_get xs k) refl h where
  by : (o : Option A) → slice_get xs k ≡ o → option_map_or p o false ≡ true → option_map_or p (slice_get (xs ++ more) k) false ≡ true
  by None e t = cc
  by (Some x) e t = rw (slice_get-longer xs more k x e) t

-- what asks for sockets that are there still has them: a port, a file, an immediate unit, a unit, control
pub is_socket-longer : (sockets more : List Socket) (input : Bool) (k : ℕ) → is_socket sockets input k ≡ true → is_socket (sockets ++ more) input k ≡ true
is_socket-longer sockets more input k h = test_longer (λ s. is_same input s.input) sockets more k h

pub is_port_socket-longer : (sockets more : List Socket) (input : Bool) (port : Option ℕ) → is_port_socket sockets input port ≡ true → is_port_socket (sockets ++ more) input port ≡ true
is_port_socket-longer sockets more input None h = refl
is_port_socket-longer sockets more input (Some k) h = is_socket-longer sockets more input k h

pub is_file-more_sockets : (sockets more : List Socket) (f : File) → is_file sockets f ≡ true → is_file (sockets ++ more) f ≡ true
is_file-more_sockets sockets more f h =
    let front : Bool = (f.width == 1 || f.width == 32) && is_from_to 1 64 f.size && is_from_to 1 16 f.read && is_from_to 1 16 f.write in
    and_map (and_map (λ (t : front ≡ true). t) (is_socket-longer sockets more false f.out)) (is_socket-longer sockets more true f.into) h

pub is_imm-more_sockets : (sockets more : List Socket) (i : ImmUnit) → is_imm sockets i ≡ true → is_imm (sockets ++ more) i ≡ true
is_imm-more_sockets sockets more i h = and_map (λ (t : is_from_to 1 16 i.size ≡ true). t) (is_socket-longer sockets more false i.out) h

pub is_unit-more_sockets : (sockets more : List Socket) (u : OpUnit) → is_unit sockets u ≡ true → is_unit (sockets ++ more) u ≡ true
is_unit-more_sockets sockets more u h =
    and_map (and_map (and_map (
    and_map (and_map (is_socket-longer sockets more true u.trigger) (is_port_socket-longer sockets more true u.operand)) (is_port_socket-longer sockets more false u.result))
    (λ (t : nat_le (length u.ops) 32 ≡ true). t))
    (λ (t : list_all (is_unit_op u) u.ops ≡ true). t))
    (λ (t : are_different (λ o p. same_op o.op p.op) u.ops ≡ true). t)
    h

pub is_control-more_sockets : (sockets more : List Socket) (c : Control) → is_control sockets c ≡ true → is_control (sockets ++ more) c ≡ true
is_control-more_sockets sockets more c h =
    and_map (and_map (λ (t : (nat_le c.delay 4 && is_from_to 1 16 c.address) ≡ true). t) (is_socket-longer sockets more true c.trigger))
    (is_port_socket-longer sockets more false c.ra) h

-- ---- more files and immediate units

pub is_guard-more_files : (n : ℕ) (files more : List File) (g : Guard) → is_guard n files g ≡ true → is_guard n (files ++ more) g ≡ true
is_guard-more_files n files more g h =
    let test : File → Bool = λ f. f.width == 1 && nat_lt g.on.index f.size in
    let parts = and_parts (nat_lt g.bus n) (option_map_or test (slice_get files g.on.file) false) h in
    and_from (nat_lt g.bus n) (option_map_or test (slice_get (files ++ more) g.on.file) false) parts.0 (test_longer test files more g.on.file parts.1)

pub is_template-more_imms : (imms more : List ImmUnit) (t : Template) → is_template imms t ≡ true → is_template (imms ++ more) t ≡ true
is_template-more_imms imms more t h = test_longer (λ i. nat_lt t.reg i.size) imms more t.imm h
