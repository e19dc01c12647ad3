-- The place that a name names is its place among the names of its kind.
use Rattle.std.proofs.Common.{◌≡◌, ◌∷◌, [], ℕ, Bool, List, Option, Some, None, Ok, true, false, not, zero, suc, map, refl, sym, ap, ap₂, subst, ◌∙◌, arith, option_map, get_or}
use Rattle.std.specs.Prelude.{slice_get}
use Rattle.std.specs.Str.{bytes_eq}
use Rattle.std.specs.List.{list_any}
use Rattle.std.proofs.lemmas.Bool.{and_parts, not-true, false_from_ne_true, both_ways}
use Rattle.std.proofs.lemmas.List.Folds.{list_any_at}
use Rattle.std.proofs.lemmas.Option.{slice_get_within, get_or_from_slice_get}
use Rattle.std.proofs.lemmas.Slice.Eq.{bytes_eq-Decides}
use Rattle.tta_machine.specs.Cited.{named_in, or_refuse, are_different}
use Rattle.tta_parse.proofs.Steps.{same_ok, then-some}
use Rattle.tta_machine.specs.declared.refusal.Refusal.TheVariants.{Unknown}
use Rattle.tta_machine.specs.declared.draft.Named.{Named}
use Rattle.tta_machine.specs.declared.draft.Named.TheVariants as place
use Rattle.tta_machine.specs.declared.draft.Draft.{Draft}
use Rattle.tta_machine.specs.Draft.{bus_named, socket_named, file_named, imm_named}
use Rattle.tta_machine.specs.Declarations.{buses_named, port_named}
use Rattle.tta_machine.specs.Kept.{IsDraft}
use Rattle.tta_machine.specs.Grammar.{place_of}
use Rattle.tta_machine.proofs.Distinct.{different_parts}
use Rattle.tta_machine.proofs.LookedUp.{bus_named-some, socket_named-some, file_named-some, imm_named-some}
use Rattle.tta_machine.proofs.Borne.{AreBorne}
use Rattle.tta_list.proofs.Lists.{same_bytes}

-- ---- one list

-- among different names, the place of a name is where it stands
place_at : (names : List (List ℕ)) (n : List ℕ) (k : ℕ) → are_different bytes_eq names ≡ true → slice_get names k ≡ Some n → place_of names n ≡ k
place_at [] n k different e = cc
place_at (x ∷ xs) n zero different e =
    let here : x ≡ n = cc in
    let same : bytes_eq n x ≡ true = subst (λ y. bytes_eq n y ≡ true) (sym here) (same_bytes n) in
    rw same refl
place_at (x ∷ xs) n (suc k) different e =
    let parts = and_parts (not (list_any (bytes_eq x) xs)) (are_different bytes_eq xs) different in
    let other : bytes_eq n x ≡ false =
    false_from_ne_true (bytes_eq n x) (λ same.
    let alike : n ≡ x = (bytes_eq-Decides n x).0 same in
    let there : bytes_eq x (get_or xs k []) ≡ true =
    subst (λ y. bytes_eq x y ≡ true) (sym (get_or_from_slice_get xs k n [] e)) (subst (λ y. bytes_eq x y ≡ true) (sym alike) (same_bytes x)) in
    both_ways (list_any (bytes_eq x) xs) (not-true (list_any (bytes_eq x) xs) parts.0) (list_any_at (bytes_eq x) xs k [] (slice_get_within xs k n e) there)) in
    let later : place_of xs n ≡ k = place_at xs n k parts.1 e in
    rw other (omega arith)

-- a name that stands somewhere is among the names
pub name_among : (names : List (List ℕ)) (k : ℕ) (n : List ℕ) → slice_get names k ≡ Some n → list_any (bytes_eq n) names ≡ true
name_among names k n e =
    list_any_at (bytes_eq n) names k [] (slice_get_within names k n e) (subst (λ y. bytes_eq n y ≡ true) (sym (get_or_from_slice_get names k n [] e)) (same_bytes n))

-- ---- a draft

-- the names of the buses of a draft, in the order of their lines
abbrev pub bus_names_of : Draft → List (List ℕ)
bus_names_of d = map (λ x. x.name) d.buses

-- the names of its sockets, in that order
abbrev pub socket_names_of : Draft → List (List ℕ)
socket_names_of d = map (λ x. x.name) d.sockets

-- the names of its register files, in that order
abbrev pub file_names_of : Draft → List (List ℕ)
file_names_of d = map (λ x. x.name) d.files

-- the names of its immediate units, in that order
abbrev pub imm_names_of : Draft → List (List ℕ)
imm_names_of d = map (λ x. x.name) d.imms

-- the names of its units, in that order
abbrev pub unit_names_of : Draft → List (List ℕ)
unit_names_of d = map (λ x. x.name) d.units

-- names name the places where they stand
pub record HasPlaces (d : Draft) : Type 0 where
  pub bus : (n : List ℕ) (k : ℕ) → named_in d.names n ≡ Some (place.Bus k) → place_of (bus_names_of d) n ≡ k
  pub socket : (n : List ℕ) (k : ℕ) → named_in d.names n ≡ Some (place.Socket k) → place_of (socket_names_of d) n ≡ k
  pub file : (n : List ℕ) (k : ℕ) → named_in d.names n ≡ Some (place.File k) → place_of (file_names_of d) n ≡ k
  pub imm : (n : List ℕ) (k : ℕ) → named_in d.names n ≡ Some (place.Imm k) → place_of (imm_names_of d) n ≡ k

pub has_places : (d : Draft) → IsDraft d → AreBorne d → HasPlaces d
has_places d r b = record {
  bus = λ n k e. place_at (bus_names_of d) n k (different_parts (λ x. x.name) place.Bus d.names d.buses r.named.buses (λ i j h. cc)) (b.all n (place.Bus k) e);
  socket = λ n k e. place_at (socket_names_of d) n k (different_parts (λ x. x.name) place.Socket d.names d.sockets r.named.sockets (λ i j h. cc)) (b.all n (place.Socket k) e);
  file = λ n k e. place_at (file_names_of d) n k (different_parts (λ x. x.name) place.File d.names d.files r.named.files (λ i j h. cc)) (b.all n (place.File k) e);
  imm = λ n k e. place_at (imm_names_of d) n k (different_parts (λ x. x.name) place.Imm d.names d.imms r.named.imms (λ i j h. cc)) (b.all n (place.Imm k) e);
}

-- ---- a draft and a later one

-- each name names the same later
pub record NamesStay (d e : Draft) : Type 0 where
  pub stay : (n : List ℕ) (p : Named) → named_in d.names n ≡ Some p → named_in e.names n ≡ Some p

-- so what a lookup finds is the place in the later draft
pub bus_found : (d e : Draft) → HasPlaces e → NamesStay d e → (n : List ℕ) (k : ℕ) → bus_named d n ≡ Some k → place_of (bus_names_of e) n ≡ k
bus_found d e p s n k h = p.bus n k (s.stay n (place.Bus k) (bus_named-some d n k h))

pub socket_found : (d e : Draft) → HasPlaces e → NamesStay d e → (input : Bool) (n : List ℕ) (k : ℕ) → socket_named d input n ≡ Some k → place_of (socket_names_of e) n ≡ k
socket_found d e p s input n k h = p.socket n k (s.stay n (place.Socket k) (socket_named-some d input n k h).0)

pub file_found : (d e : Draft) → HasPlaces e → NamesStay d e → (n : List ℕ) (k : ℕ) → file_named d n ≡ Some k → place_of (file_names_of e) n ≡ k
file_found d e p s n k h = p.file n k (s.stay n (place.File k) (file_named-some d n k h))

pub imm_found : (d e : Draft) → HasPlaces e → NamesStay d e → (n : List ℕ) (k : ℕ) → imm_named d n ≡ Some k → place_of (imm_names_of e) n ≡ k
imm_found d e p s n k h = p.imm n k (s.stay n (place.Imm k) (imm_named-some d n k h))

pub buses_found : (d e : Draft) → HasPlaces e → NamesStay d e → (names : List (List ℕ)) (ks : List ℕ) → buses_named d names ≡ Some ks
    → map (place_of (bus_names_of e)) names ≡ ks
buses_found d e p s [] [] h = refl
buses_found d e p s [] (k ∷ ks) h = cc
buses_found d e p s (name ∷ names) ks h =
    let first = then-some (bus_named d name) _ ks h in
    let rest = then-some (buses_named d names) _ ks first.2 in
    let made : first.0 ∷ rest.0 ≡ ks = cc (rest.2) in
    ap₂ (λ j js. j ∷ js) (bus_found d e p s name first.0 first.1) (buses_found d e p s names rest.0 rest.1) ∙ made

pub port_found : (d e : Draft) → HasPlaces e → NamesStay d e → (input : Bool) (name : Option (List ℕ)) (port : Option ℕ) → port_named d input name ≡ Ok port
    → option_map (place_of (socket_names_of e)) name ≡ port
port_found d e p s input None port h = same_ok None port h
port_found d e p s input (Some name) port h = by (socket_named d input name) refl h where
  by : (o : Option ℕ) → socket_named d input name ≡ o → or_refuse Unknown (option_map (λ k. Some k) o) ≡ Ok port → option_map (place_of (socket_names_of e)) (Some name) ≡ port
  by None is t = cc
  by (Some k) is t = ap (λ j. Some j) (socket_found d e p s input name k is) ∙ same_ok (Some k) port t
