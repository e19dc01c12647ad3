-- What units state, over the rows that their names and arities were noted in.
use Rattle.std.specs.Prelude.{ℕ, ◌<◌, ◌%◌, ◌^◌, ◌≡◌, List, if◌then◌else◌, nat_eq, length, Option, Some, None, slice_get, option_map, refl}
use Rattle.std.proofs.Common.{ap, sym, ◌∙◌}
use Rattle.std.proofs.lemmas.List.{length-map}
use Rattle.std.proofs.lemmas.Option.{slice_get-map}
use Rattle.std.proofs.lemmas.Nat.{mod_below, pow_pos}
use Rattle.tta_ops.specs.declared.place.Place.{Place}
use Rattle.tta_ops.specs.Row.{Row, names_of, arities_of, place_of}
use Rattle.tta_ops.specs.Reserved.{AreFree}
use Rattle.tta_ops.specs.Units.{Units, AreDistinct, AreArities}

-- the number, or 0 where there is none
abbrev pub arity_or : Option ℕ → ℕ
arity_or None = 0
arity_or (Some arity) = arity

-- the arity at an operation's place is the operation's
pub arity-place_of : (rows : List Row) (op : ℕ)
    → option_map (λ p. p.arity) (place_of rows op) ≡ slice_get (arities_of rows) op
arity-place_of rows op =
    arity-place (slice_get rows op) ∙ sym (slice_get-map (λ r. r.place.arity) rows op)
  where
    arity-place : (row : Option Row)
        → option_map (λ p. p.arity) (option_map (λ r. r.place) row) ≡ option_map (λ r. r.place.arity) row
    arity-place None = refl
    arity-place (Some row) = refl

module _ {B : Type 0} (meaning : B → ℕ → ℕ → ℕ → ℕ) where
  -- what a unit makes of two words, and 0 where there is no unit
  abbrev pub given_by : Option B → ℕ → ℕ → ℕ → ℕ
  given_by None index a b = 0
  given_by (Some unit) index a b = meaning unit index a b

  -- what the unit at a place makes of a and b, with 0 for a where its operation takes one word
  abbrev pub meant_at : List B → Option Place → ℕ → ℕ → ℕ
  meant_at units None a b = 0
  meant_at units (Some place) a b =
      given_by (slice_get units place.unit) place.index (if nat_eq place.arity 1 then 0 else a) b

  -- the value of the operation at a place: what its unit makes of a and b, as a word
  abbrev pub value_at : List B → Option Place → ℕ → ℕ → ℕ
  value_at units place a b = meant_at units place a b % 2 ^ 32

  -- an operation that takes one word ignores a
  pub value_at-ignores : (units : List B) (place : Option Place) (a b : ℕ)
      → option_map (λ p. p.arity) place ≡ Some 1 → value_at units place a b ≡ value_at units place 0 b
  value_at-ignores units None a b one = refl
  value_at-ignores units (Some place) a b one =
      let first : ℕ → Option ℕ → ℕ = λ x arity. if nat_eq (arity_or arity) 1 then 0 else x in
      let value : ℕ → ℕ = λ x. given_by (slice_get units place.unit) place.index x b % 2 ^ 32 in
      ap (λ arity. value (first a arity)) one ∙ sym (ap (λ arity. value (first 0 arity)) one)

  -- what the units state, where these rows are their operations
  unfoldable pub stated_by : List B → (rows : List Row) → length (names_of rows) < 65537
      → AreDistinct (names_of rows) → AreFree (names_of rows) → AreArities (arities_of rows) → Units
  stated_by units rows few distinct reserved one_or_two = record {
    names = names_of rows;
    arities = arities_of rows;
    value = λ op a b. value_at units (place_of rows op) a b;
    word = λ op a b. mod_below (meant_at units (place_of rows op) a b) (2 ^ 32) (pow_pos 32);
    ignores = λ op a b one. value_at-ignores units (place_of rows op) a b (arity-place_of rows op ∙ one);
    distinct = distinct;
    reserved = reserved;
    one_or_two = one_or_two;
    paired = length-map rows (λ r. r.place.arity) ∙ sym (length-map rows (λ r. r.name));
    few = few;
  }
