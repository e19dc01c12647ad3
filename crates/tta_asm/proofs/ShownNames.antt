-- Each part of a machine is found by its name, and each operation of a unit by its own.
use Rattle.std.proofs.Common.{◌≡◌, ℕ, zero, suc, ◌+◌, ◌⊎◌, inl, inr, Bool, true, false, not, List, [], ◌∷◌, ◌++◌, map, refl, ap, ◌∙◌, arith}
use Rattle.std.specs.Prelude.{Some, option_map, slice_get}
use Rattle.std.specs.Str.{bytes_eq}
use Rattle.std.specs.List.{list_any}
use Rattle.std.proofs.lemmas.Bool.{and_parts, not-true, or_parts}
use Rattle.std.proofs.lemmas.Slice.Eq.{bytes_eq-Decides}
use Rattle.std.proofs.lemmas.List.{append_assoc, map-append}
use Rattle.std.proofs.lemmas.Option.{slice_get-map}
use Rattle.tta_asm.specs.Cited.{Declared, named_in, Units, ImmUnit, UnitOp, Machine, IsMachine, names_of, are_different}
use Rattle.tta_arch.specs.declared.parts.File.{File as RegisterFile}
use Rattle.tta_arch.specs.declared.parts.Unit.{Unit as OpUnit}
use Rattle.tta_arch.specs.declared.parts.Template.{Template as ImmTemplate}
use Rattle.tta_asm.specs.declared.parts.Part.{Part}
use Rattle.tta_asm.specs.declared.parts.Part.TheVariants.{File, Imm, Template}
use Rattle.tta_asm.specs.declared.parts.Part.TheVariants as part
use Rattle.tta_asm.specs.Parts.{by_place, parts_of, op_name, ops_of}

-- ---- declared names

-- a name is declared, and names this
abbrev pub Holds : {P : Type 0} → Declared P → List ℕ → P → Type 0
Holds [] name x = ⊥
Holds (d ∷ ds) name x = ((d.0 ≡ name) × (d.1 ≡ x)) ⊎ Holds ds name x

-- the names that are declared
abbrev pub declared_names : {P : Type 0} → Declared P → List (List ℕ)
declared_names ds = map (λ d. d.0) ds

-- a name that none is like is not a declared one
held_differs : {P : Type 0} (ds : Declared P) (other name : List ℕ) (x : P)
    → list_any (bytes_eq other) (declared_names ds) ≡ false → Holds ds name x → bytes_eq other name ≡ false
held_differs [] other name x none h = absurd h
held_differs (d ∷ ds) other name x none h =
    let parts = or_parts (bytes_eq other d.0) (list_any (bytes_eq other) (declared_names ds)) none in
    elim h [
      | inl here ↦ rw here.0 at parts.0
      | inr there ↦ held_differs ds other name x parts.1 there
    ]

-- where no name is declared twice, each names what it was declared for
pub held_named : {P : Type 0} (ds : Declared P) (name : List ℕ) (x : P)
    → are_different bytes_eq (declared_names ds) ≡ true → Holds ds name x → named_in ds name ≡ Some x
held_named [] name x different h = absurd h
held_named (d ∷ ds) name x different h =
    let parts = and_parts (not (list_any (bytes_eq d.0) (declared_names ds))) (are_different bytes_eq (declared_names ds)) different in
    elim h [
      | inl here ↦
          let same : bytes_eq d.0 name ≡ true = (bytes_eq-Decides d.0 name).1 here.0 in rw (same, here.1) refl
      | inr there ↦
          let none = not-true (list_any (bytes_eq d.0) (declared_names ds)) parts.0 in
          let other = held_differs ds d.0 name x none there in rw other (held_named ds name x parts.1 there)
    ]

-- what is declared stays so where more is
held_left : {P : Type 0} (ds es : Declared P) (name : List ℕ) (x : P) → Holds ds name x → Holds (ds ++ es) name x
held_left [] es name x h = absurd h
held_left (d ∷ ds) es name x h = elim h [
  | inl here ↦ inl here
  | inr there ↦ inr (held_left ds es name x there)
]

-- and so does what more declares
held_right : {P : Type 0} (ds es : Declared P) (name : List ℕ) (x : P) → Holds es name x → Holds (ds ++ es) name x
held_right [] es name x h = h
held_right (d ∷ ds) es name x h = inr (held_right ds es name x h)

-- ---- names by their places

-- names by their places are these names
names-by_place : {P : Type 0} (at : ℕ → P) (place : ℕ) (names : List (List ℕ)) → declared_names (by_place at place names) ≡ names
names-by_place at place [] = refl
names-by_place at place (name ∷ names) = ap (λ t. name ∷ t) (names-by_place at (place + 1) names)

-- the name at a place names what the place makes
held-by_place : {P : Type 0} (at : ℕ → P) (place : ℕ) (names : List (List ℕ)) (k : ℕ) (name : List ℕ) (n : ℕ)
    → place + k ≡ n → slice_get names k ≡ Some name → Holds (by_place at place names) name (at n)
held-by_place at place [] k name n e h = cc
held-by_place at place (first ∷ names) zero name n e h =
    let same : first ≡ name = cc in let here : place ≡ n = omega arith in inl (same, ap at here)
held-by_place at place (first ∷ names) (suc k) name n e h =
    inr (held-by_place at (place + 1) names k name n (omega arith) h)

-- the name of the part at a place
name_at : {A : Type 0} (name : A → List ℕ) (xs : List A) (k : ℕ) (x : A) → slice_get xs k ≡ Some x
    → slice_get (map name xs) k ≡ Some (name x)
name_at name xs k x e = slice_get-map name xs k ∙ ap (option_map name) e

-- ---- parts

-- names that differ still do where the first are left out
different_rest : {A : Type 0} (same : A → A → Bool) (xs ys : List A) → are_different same (xs ++ ys) ≡ true
    → are_different same ys ≡ true
different_rest same [] ys h = h
different_rest same (x ∷ xs) ys h =
    different_rest same xs ys (and_parts (not (list_any (same x) (xs ++ ys))) (are_different same (xs ++ ys)) h).1

-- the names of the parts that assembly can name
abbrev part_names : Machine → List (List ℕ)
part_names m =
    map (λ f. f.name) m.files
    ++ (map (λ i. i.name) m.imms ++ (map (λ u. u.name) m.units ++ map (λ t. t.name) m.templates))

-- the declared names are those of the parts
names-parts_of : (m : Machine) → declared_names (parts_of m) ≡ part_names m
unfolding parts_of
names-parts_of m =
    let first : List ℕ × Part → List ℕ = λ d. d.0 in
    let files = by_place File 0 (map (λ f. f.name) m.files) in
    let imms = by_place Imm 0 (map (λ i. i.name) m.imms) in
    let units = by_place part.Unit 0 (map (λ u. u.name) m.units) in
    let templates = by_place Template 0 (map (λ t. t.name) m.templates) in
    rw (
      map-append first files (imms ++ (units ++ templates)),
      map-append first imms (units ++ templates),
      map-append first units templates,
      names-by_place File 0 (map (λ f. f.name) m.files),
      names-by_place Imm 0 (map (λ i. i.name) m.imms),
      names-by_place part.Unit 0 (map (λ u. u.name) m.units),
      names-by_place Template 0 (map (λ t. t.name) m.templates),
    ) refl

-- the parts of a machine have different names
parts_differ : (m : Machine) → IsMachine m → are_different bytes_eq (declared_names (parts_of m)) ≡ true
parts_differ m rules =
    let first = map (λ b. b.name) m.buses ++ map (λ s. s.name) m.sockets in
    let files = map (λ f. f.name) m.files in
    let imms = map (λ i. i.name) m.imms in
    let units = map (λ u. u.name) m.units in
    let templates = map (λ t. t.name) m.templates in
    let whole : names_of m ≡ first ++ (files ++ (imms ++ (units ++ templates))) =
    append_assoc (first ++ files ++ imms) units templates
    ∙ append_assoc (first ++ files) imms (units ++ templates)
    ∙ append_assoc first files (imms ++ (units ++ templates)) in
    rw (names-parts_of m) (different_rest bytes_eq first (part_names m) (rw whole at rules.different))

-- each is found by its name
pub file_named : (m : Machine) (k : ℕ) (f : RegisterFile) → IsMachine m → slice_get m.files k ≡ Some f
    → named_in (parts_of m) f.name ≡ Some (File k)
unfolding parts_of
file_named m k f rules e =
    let files = map (λ f. f.name) m.files in
    let here = held-by_place File 0 files k f.name k (omega arith) (name_at (λ f. f.name) m.files k f e) in
    held_named (parts_of m) f.name (File k) (parts_differ m rules) (held_left (by_place File 0 files) _ f.name (File k) here)

-- an immediate unit is found by its name
pub imm_named : (m : Machine) (k : ℕ) (i : ImmUnit) → IsMachine m → slice_get m.imms k ≡ Some i
    → named_in (parts_of m) i.name ≡ Some (Imm k)
unfolding parts_of
imm_named m k i rules e =
    let files = map (λ f. f.name) m.files in
    let imms = map (λ i. i.name) m.imms in
    let here = held-by_place Imm 0 imms k i.name k (omega arith) (name_at (λ i. i.name) m.imms k i e) in
    held_named (parts_of m) i.name (Imm k) (parts_differ m rules) (
    held_right (by_place File 0 files) _ i.name (Imm k) (held_left (by_place Imm 0 imms) _ i.name (Imm k) here)
    )

-- a unit is found by its name
pub unit_named : (m : Machine) (k : ℕ) (q : OpUnit) → IsMachine m → slice_get m.units k ≡ Some q
    → named_in (parts_of m) q.name ≡ Some (part.Unit k)
unfolding parts_of
unit_named m k q rules e =
    let files = map (λ f. f.name) m.files in
    let imms = map (λ i. i.name) m.imms in
    let units = map (λ u. u.name) m.units in
    let here = held-by_place part.Unit 0 units k q.name k (omega arith) (name_at (λ u. u.name) m.units k q e) in
    held_named (parts_of m) q.name (part.Unit k) (parts_differ m rules) (
    held_right (by_place File 0 files) _ q.name (part.Unit k) (
    held_right (by_place Imm 0 imms) _ q.name (part.Unit k) (
    held_left (by_place part.Unit 0 units) _ q.name (part.Unit k) here
    )
    )
    )

-- a template is found by its name
pub template_named : (m : Machine) (k : ℕ) (t : ImmTemplate) → IsMachine m → slice_get m.templates k ≡ Some t
    → named_in (parts_of m) t.name ≡ Some (Template k)
unfolding parts_of
template_named m k t rules e =
    let files = map (λ f. f.name) m.files in
    let imms = map (λ i. i.name) m.imms in
    let units = map (λ u. u.name) m.units in
    let templates = map (λ t. t.name) m.templates in
    let here = held-by_place Template 0 templates k t.name k (omega arith) (name_at (λ t. t.name) m.templates k t e) in
    held_named (parts_of m) t.name (Template k) (parts_differ m rules) (
    held_right (by_place File 0 files) _ t.name (Template k) (
    held_right (by_place Imm 0 imms) _ t.name (Template k) (
    held_right (by_place part.Unit 0 units) _ t.name (Template k) here
    )
    )
    )

-- an operation of a unit is found by its name, where its operations have different names
pub op_named : (u : Units) (q : OpUnit) (k : ℕ) (o : UnitOp)
    → are_different bytes_eq (map (λ o. op_name u o.op) q.ops) ≡ true → slice_get q.ops k ≡ Some o
    → named_in (ops_of u q) (op_name u o.op) ≡ Some k
unfolding ops_of
op_named u q k o different e =
    let names = map (λ o. op_name u o.op) q.ops in
    let here = held-by_place (λ n. n) 0 names k (op_name u o.op) k (omega arith) (name_at (λ o. op_name u o.op) q.ops k o e) in
    held_named (ops_of u q) (op_name u o.op) k (rw (names-by_place (λ n. n) 0 names) different) here
