-- What a name and an operation have to do with each other, whatever the units are.
use Rattle.std.proofs.Common.{◌≡◌, ◌<◌, ◌+◌, ◌∷◌, [], ℕ, zero, suc, List, Some, true, false, length, slice_get, refl, sym, ap, ◌∙◌, arith}
use Rattle.std.specs.Prelude.{if◌then◌else◌}
use Rattle.std.specs.Str.{bytes_eq}
use Rattle.std.proofs.lemmas.Option.{get_or_from_slice_get, slice_get_within}
use Rattle.std.proofs.lemmas.Slice.Eq.{bytes_eq-Decides}
use Rattle.tta_ops.specs.Units.{Units, AreDistinct, first_at, named}

first_at-get : (name : List ℕ) (k : ℕ) (names : List (List ℕ)) (op : ℕ) → first_at name k names ≡ Some op
    → (i : ℕ) × ((op ≡ k + i) × (slice_get names i ≡ Some name))
first_at-get name k [] op found = cc
first_at-get name k (x ∷ xs) op found =
    elim (bytes_eq x name)
    as (λ b. bytes_eq x name ≡ b → (if b then Some k else first_at name (k + 1) xs) ≡ Some op → (i : ℕ) × ((op ≡ k + i) × (slice_get (x ∷ xs) i ≡ Some name))) [
      | true ↦ λ same here. let at : k ≡ op = cc in (0, (omega arith, ap Some ((bytes_eq-Decides x name).0 same)))
      | false ↦ λ other later. let rest = first_at-get name (k + 1) xs op later in (suc rest.0, (omega (arith, rest.1.0), rest.1.1))
    ] refl found

-- an operation that a name names has that name
pub named_get : (U : Units) (name : List ℕ) (op : ℕ) → named U name ≡ Some op → slice_get U.names op ≡ Some name
named_get U name op found =
    let at = first_at-get name 0 U.names op found in
    let same : op ≡ at.0 = omega (arith, at.1.0) in
    rw same at.1.1

get-first_at : (name : List ℕ) (k : ℕ) (names : List (List ℕ)) (i op : ℕ) → op ≡ k + i → AreDistinct names
    → slice_get names i ≡ Some name
    → first_at name k names ≡ Some op
get-first_at name k [] i op sum distinct at = cc
get-first_at name k (x ∷ xs) zero op sum distinct at =
    let same : x ≡ name = cc in
    let here : k ≡ op = omega (arith, sum) in
    rw ((bytes_eq-Decides x name).1 same) (ap Some here)
get-first_at name k (x ∷ xs) (suc j) op sum distinct at =
    let below : j < length xs = slice_get_within xs j name at in
    let different : x ≡ name → ⊥ =
    λ same. distinct 0 (suc j) (omega arith) (omega (arith, below)) (same ∙ sym (get_or_from_slice_get xs j name [] at)) in
    let rest =
    get-first_at name (k + 1) xs j op (omega (arith, sum)) (λ m n before within. distinct (suc m) (suc n) (omega (arith, before)) (omega (arith, within))) at in
    elim (bytes_eq x name)
    as (λ b. bytes_eq x name ≡ b → (if b then Some k else first_at name (k + 1) xs) ≡ Some op) [
      | true ↦ λ same. absurd (different ((bytes_eq-Decides x name).0 same))
      | false ↦ λ other. rest
    ] refl

-- the name of an operation names it
pub get_named : (U : Units) (name : List ℕ) (op : ℕ) → slice_get U.names op ≡ Some name → named U name ≡ Some op
get_named U name op at = get-first_at name 0 U.names op op (omega arith) U.distinct at
