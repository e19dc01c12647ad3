-- What it means that a name was found as what its place asks.
use Rattle.std.proofs.Common.{◌≡◌, ◌<◌, ◌∷◌, [], ℕ, Bool, List, Option, Some, None, Ok, true, suc, length, refl, ap, subst, ◌∙◌, option_map}
use Rattle.std.specs.Prelude.{if◌then◌else◌}
use Rattle.std.specs.Option.{option_map_or}
use Rattle.std.specs.List.{AllByRecursion}
use Rattle.std.proofs.lemmas.Option.{cond_some}
use Rattle.tta_machine.specs.Cited.{named_in, or_refuse, is_socket, is_port_socket}
use Rattle.tta_parse.proofs.Steps.{same_ok, then-some}
use Rattle.tta_machine.specs.declared.refusal.Refusal.TheVariants.{Unknown}
use Rattle.tta_machine.specs.declared.draft.Named.{Named}
use Rattle.tta_machine.specs.declared.draft.Named.TheVariants as place
use Rattle.tta_machine.specs.declared.draft.Draft.{Draft}
use Rattle.tta_machine.specs.Draft.{bus_place, socket_place, file_place, imm_place, unit_place, bus_named, socket_named, file_named, imm_named, unit_named}
use Rattle.tta_machine.specs.Declarations.{buses_named, port_named}
use Rattle.tta_machine.specs.Kept.{NamesAreThere}

-- ---- parts of one name

-- a place is of the one kind that gives its number
record OfKind (p : Named) : Type 0 where
  bus : (k : ℕ) → bus_place p ≡ Some k → p ≡ place.Bus k
  socket : (k : ℕ) → socket_place p ≡ Some k → p ≡ place.Socket k
  file : (k : ℕ) → file_place p ≡ Some k → p ≡ place.File k
  imm : (k : ℕ) → imm_place p ≡ Some k → p ≡ place.Imm k
  unit : (k : ℕ) → unit_place p ≡ Some k → p ≡ place.Unit k

of_kind : (p : Named) → OfKind p
of_kind (place.Bus j) = record { bus = λ k e. cc; socket = λ k e. cc; file = λ k e. cc; imm = λ k e. cc; unit = λ k e. cc }
of_kind (place.Socket j) = record { bus = λ k e. cc; socket = λ k e. cc; file = λ k e. cc; imm = λ k e. cc; unit = λ k e. cc }
of_kind (place.File j) = record { bus = λ k e. cc; socket = λ k e. cc; file = λ k e. cc; imm = λ k e. cc; unit = λ k e. cc }
of_kind (place.Imm j) = record { bus = λ k e. cc; socket = λ k e. cc; file = λ k e. cc; imm = λ k e. cc; unit = λ k e. cc }
of_kind (place.Unit j) = record { bus = λ k e. cc; socket = λ k e. cc; file = λ k e. cc; imm = λ k e. cc; unit = λ k e. cc }
of_kind (place.Template j) = record { bus = λ k e. cc; socket = λ k e. cc; file = λ k e. cc; imm = λ k e. cc; unit = λ k e. cc }

-- the same of a name that may be unknown
place_some : (select : Named → Option ℕ) (at : ℕ → Named) (o : Option Named) (k : ℕ) → ((p : Named) → select p ≡ Some k → p ≡ at k)
    → option_map_or select o None ≡ Some k → o ≡ Some (at k)
place_some select at None k one e = cc
place_some select at (Some p) k one e = ap (λ q. Some q) (one p e)

-- what is found as a bus, a file, an immediate unit or a unit is named so
pub bus_named-some : (d : Draft) (name : List ℕ) (k : ℕ) → bus_named d name ≡ Some k → named_in d.names name ≡ Some (place.Bus k)
bus_named-some d name k h = place_some bus_place place.Bus (named_in d.names name) k (λ p. (of_kind p).bus k) h

pub file_named-some : (d : Draft) (name : List ℕ) (k : ℕ) → file_named d name ≡ Some k → named_in d.names name ≡ Some (place.File k)
file_named-some d name k h = place_some file_place place.File (named_in d.names name) k (λ p. (of_kind p).file k) h

pub imm_named-some : (d : Draft) (name : List ℕ) (k : ℕ) → imm_named d name ≡ Some k → named_in d.names name ≡ Some (place.Imm k)
imm_named-some d name k h = place_some imm_place place.Imm (named_in d.names name) k (λ p. (of_kind p).imm k) h

pub unit_named-some : (d : Draft) (name : List ℕ) (k : ℕ) → unit_named d name ≡ Some k → named_in d.names name ≡ Some (place.Unit k)
unit_named-some d name k h = place_some unit_place place.Unit (named_in d.names name) k (λ p. (of_kind p).unit k) h

-- ---- sockets

-- the name is a socket's, and the socket has this direction
pub socket_named-some : (d : Draft) (input : Bool) (name : List ℕ) (k : ℕ) → socket_named d input name ≡ Some k
    → (named_in d.names name ≡ Some (place.Socket k)) × (is_socket d.sockets input k ≡ true)
socket_named-some d input name k h = by (option_map_or socket_place (named_in d.names name) None) refl h where
  by : (o : Option ℕ) → option_map_or socket_place (named_in d.names name) None ≡ o
      → option_map_or (λ j. if is_socket d.sockets input j then Some j else None) o None ≡ Some k
      → (named_in d.names name ≡ Some (place.Socket k)) × (is_socket d.sockets input k ≡ true)
  by None e t = cc
  by (Some j) e t =
      let found = cond_some (is_socket d.sockets input j) j k t in
      let at : option_map_or socket_place (named_in d.names name) None ≡ Some k = e ∙ ap (λ i. Some i) found.1 in
      (place_some socket_place place.Socket (named_in d.names name) k (λ p. (of_kind p).socket k) at, subst (λ i. is_socket d.sockets input i ≡ true) found.1 found.0)

pub is_socket-named : (d : Draft) (input : Bool) (name : List ℕ) (k : ℕ) → socket_named d input name ≡ Some k → is_socket d.sockets input k ≡ true
is_socket-named d input name k h = (socket_named-some d input name k h).1

-- a port that may be left out
pub port_named-ok : (d : Draft) (input : Bool) (name : Option (List ℕ)) (port : Option ℕ) → port_named d input name ≡ Ok port → is_port_socket d.sockets input port ≡ true
port_named-ok d input None port h =
    let none : None ≡ port = same_ok None port h in subst (λ p. is_port_socket d.sockets input p ≡ true) none refl
port_named-ok d input (Some name) port h = by (socket_named d input name) refl h where
  by : (o : Option ℕ) → socket_named d input name ≡ o → or_refuse Unknown (option_map (λ k. Some k) o) ≡ Ok port → is_port_socket d.sockets input port ≡ true
  by None e t = cc
  by (Some k) e t =
      let same : Some k ≡ port = same_ok (Some k) port t in
      subst (λ p. is_port_socket d.sockets input p ≡ true) same (is_socket-named d input name k e)

-- ---- buses

-- each bus of the names is there, and there are as many
pub buses_named-some : (d : Draft) (names : List (List ℕ)) (buses : List ℕ) → NamesAreThere d → buses_named d names ≡ Some buses
    → AllByRecursion (λ k. k < length d.buses) buses × (length buses ≡ length names)
buses_named-some d [] [] there h = (tt, refl)
buses_named-some d [] (k ∷ ks) there h = cc
buses_named-some d (name ∷ names) buses there h =
    let first = then-some (bus_named d name) _ buses h in
    let rest = then-some (buses_named d names) _ buses first.2 in
    let made : first.0 ∷ rest.0 ≡ buses = cc (rest.2) in
    let later = buses_named-some d names rest.0 there rest.1 in
    let here : first.0 < length d.buses = there.bus name first.0 (bus_named-some d name first.0 first.1) in
    subst (λ ks. AllByRecursion (λ k. k < length d.buses) ks × (length ks ≡ length (name ∷ names))) made ((here, later.0), ap suc later.1)
