-- Names as one more of them is declared.
use Rattle.std.proofs.Common.{◌≡◌, ◌++◌, ◌∷◌, [], ℕ, Bool, List, Option, Some, None, true, false, length, refl, sym, ap, subst, ◌∙◌, ◌⊎◌, inl, inr, ⊎_elim, codes, is_some, ltb-false}
use Rattle.std.specs.Prelude.{if◌then◌else◌, slice_get, slice_set}
use Rattle.std.specs.Str.{bytes_eq}
use Rattle.std.proofs.lemmas.Bool.{or_parts}
use Rattle.std.proofs.lemmas.Slice.Eq.{bytes_eq-Decides}
use Rattle.tta_list.proofs.Lists.{slice_get-push, slice_get-changed}
use Rattle.tta_list.proofs.Tests.{none_from_is_some}
use Rattle.tta_machine.specs.Cited.{is_name, Declared, named_in, IsMachineName}
use Rattle.tta_parse.proofs.Found.{named_in-new}
use Rattle.tta_machine.specs.declared.draft.Named.{Named}
use Rattle.tta_machine.specs.declared.draft.Named.TheVariants as place
use Rattle.tta_machine.specs.declared.draft.Draft.{Draft}
use Rattle.tta_machine.specs.Draft.{is_taken, is_too_long}
use Rattle.tta_machine.specs.Kept.{AreNamed, PartsAreNamed}

-- ---- one name

-- a name goes on naming what it named
pub named_in-longer : {P : Type 0} (names more : Declared P) (name : List ℕ) (p : P) → named_in names name ≡ Some p → named_in (names ++ more) name ≡ Some p
named_in-longer [] more name p e = cc
named_in-longer (d ∷ ds) more name p e = by (named_in-longer ds more name p) (bytes_eq d.0 name) e where
  by : (named_in ds name ≡ Some p → named_in (ds ++ more) name ≡ Some p)
      → (b : Bool) → (if b then Some d.1 else named_in ds name) ≡ Some p → (if b then Some d.1 else named_in (ds ++ more) name) ≡ Some p
  by later true e = e
  by later false e = later e

-- a name was declared before, or is the new one
pub named_in-push : {P : Type 0} (names : Declared P) (new : List ℕ) (p : P) (name : List ℕ) (q : P) → named_in (names ++ (new, p) ∷ []) name ≡ Some q
    → (named_in names name ≡ Some q) ⊎ ((new ≡ name) × (p ≡ q))
named_in-push [] new p name q e = by (bytes_eq new name) refl e where
  by : (b : Bool) → bytes_eq new name ≡ b → (if b then Some p else None) ≡ Some q → (◌≡◌ {A = Option _} None (Some q)) ⊎ ((new ≡ name) × (p ≡ q))
  by true same e = inr ((bytes_eq-Decides new name).0 same, cc)
  by false other e = inl e
named_in-push (d ∷ ds) new p name q e = by (named_in-push ds new p name q) (bytes_eq d.0 name) e where
  by : (named_in (ds ++ (new, p) ∷ []) name ≡ Some q → (named_in ds name ≡ Some q) ⊎ ((new ≡ name) × (p ≡ q)))
      → (b : Bool) → (if b then Some d.1 else named_in (ds ++ (new, p) ∷ []) name) ≡ Some q
      → ((if b then Some d.1 else named_in ds name) ≡ Some q) ⊎ ((new ≡ name) × (p ≡ q))
  by later true e = inl e
  by later false e = later e

-- ---- names that can be declared

-- a name that is not taken names nothing yet
pub not_taken : (d : Draft) (name : List ℕ) → is_taken d name ≡ false → named_in d.names name ≡ None
not_taken d name e = none_from_is_some (named_in d.names name) (or_parts (is_some (named_in d.names name)) (bytes_eq name (codes "gcu")) e).0

-- a name of the text that is neither taken nor too long is one that a machine may declare
pub good_name : (d : Draft) (name : List ℕ) → is_name name ≡ true → is_taken d name ≡ false → is_too_long name ≡ false → IsMachineName name
good_name d name written free short = record {
  written = written;
  short = ltb-false 64 (length name) short;
  free = (or_parts (is_some (named_in d.names name)) (bytes_eq name (codes "gcu")) free).1;
}

-- ---- parts and their names

AreNamed-longer : {A : Type 0} (name : A → List ℕ) (at : ℕ → Named) (names more : Declared Named) (parts : List A)
    → AreNamed name at names parts → AreNamed name at (names ++ more) parts
AreNamed-longer name at names more parts named k x e = named_in-longer names more (name x) (at k) (named k x e)

-- the parts of a draft are named when there are more names
pub are_named_longer : (d : Draft) (more : Declared Named) → PartsAreNamed d → PartsAreNamed (record d { names = d.names ++ more })
are_named_longer d more n = record {
  buses = AreNamed-longer (λ b. b.name) place.Bus d.names more d.buses n.buses;
  sockets = AreNamed-longer (λ s. s.name) place.Socket d.names more d.sockets n.sockets;
  files = AreNamed-longer (λ f. f.name) place.File d.names more d.files n.files;
  imms = AreNamed-longer (λ i. i.name) place.Imm d.names more d.imms n.imms;
  units = AreNamed-longer (λ u. u.name) place.Unit d.names more d.units n.units;
  templates = AreNamed-longer (λ t. t.name) place.Template d.names more d.templates n.templates;
}

-- one more part, with the new name
pub AreNamed-push : {A : Type 0} (name : A → List ℕ) (at : ℕ → Named) (names : Declared Named) (parts : List A) (new : A)
    → AreNamed name at names parts → named_in names (name new) ≡ None
    → AreNamed name at (names ++ (name new, at (length parts)) ∷ []) (parts ++ new ∷ [])
AreNamed-push {A} name at names parts new named free k x e = ⊎_elim old one (slice_get-push parts new k x e) where
  old : slice_get parts k ≡ Some x → named_in (names ++ (name new, at (length parts)) ∷ []) (name x) ≡ Some (at k)
  old h = named_in-longer names ((name new, at (length parts)) ∷ []) (name x) (at k) (named k x h)

  one : (k ≡ length parts) × (new ≡ x) → named_in (names ++ (name new, at (length parts)) ∷ []) (name x) ≡ Some (at k)
  one h =
      let here : named_in (names ++ (name new, at (length parts)) ∷ []) (name new) ≡ Some (at (length parts)) = named_in-new (name new) (at (length parts)) names free in
      subst (λ y. named_in (names ++ (name new, at (length parts)) ∷ []) (name y) ≡ Some (at k)) h.1 (here ∙ ap (λ j. Some (at j)) (sym h.0))

-- a part changed, but not its name
pub AreNamed-changed : {A : Type 0} (name : A → List ℕ) (at : ℕ → Named) (names : Declared Named) (parts : List A) (i : ℕ) (v old : A)
    → slice_get parts i ≡ Some old → name v ≡ name old → AreNamed name at names parts → AreNamed name at names (slice_set parts i v)
AreNamed-changed name at names parts i v old e same named k x h = ⊎_elim before here (slice_get-changed parts i v k x h) where
  before : slice_get parts k ≡ Some x → named_in names (name x) ≡ Some (at k)
  before g = named k x g

  here : (k ≡ i) × (v ≡ x) → named_in names (name x) ≡ Some (at k)
  here g =
      let was : named_in names (name old) ≡ Some (at i) = named i old e in
      ap (named_in names) (ap name (sym g.1) ∙ same) ∙ was ∙ ap (λ j. Some (at j)) (sym g.0)
