-- A word that a core puts out finds room in each queue that the core feeds.
use Rattle.std.proofs.Common.{◌≡◌, ℕ, zero, suc, ◌+◌, Bool, true, not, ◌||◌, List, [], ◌∷◌, Option, Some, None, refl, sym, ap, ◌∙◌, arith}
use Rattle.std.specs.Prelude.{slice_get}
use Rattle.std.specs.Option.{option_map_or}
use Rattle.std.proofs.lemmas.Bool.{and_parts, eq-eqb}
use Rattle.tta_board.specs.Board.{is_feeder, have_room}

-- the entry of a core that has a feeder
pub fed_at : (feeds : List (Option ℕ)) (core feeder : ℕ) → option_map_or (λ f. f) (slice_get feeds core) None ≡ Some feeder
    → slice_get feeds core ≡ Some (Some feeder)
fed_at feeds core feeder is = by (slice_get feeds core) refl is where
  by : (o : Option (Option ℕ)) → slice_get feeds core ≡ o → option_map_or (λ f. f) o None ≡ Some feeder
      → slice_get feeds core ≡ Some (Some feeder)
  by None at is = absurd (let e : None ≡ Some feeder = is in cc)
  by (Some o) at is = at ∙ ap (λ (x : Option ℕ). Some x) is

pub room_at : (ready : ℕ → Bool) (feeder core j : ℕ) (feeds : List (Option ℕ)) → have_room ready feeder core feeds ≡ true
    → slice_get feeds j ≡ Some (Some feeder) → ready (core + j) ≡ true
room_at ready feeder core j [] all at = absurd cc
room_at ready feeder core zero (o ∷ feeds) all at =
    let same : o ≡ Some feeder = cc in
    let fed : is_feeder feeder o ≡ true = ap (is_feeder feeder) same ∙ eq-eqb feeder feeder refl in
    let parts = and_parts (not (is_feeder feeder o) || ready core) (have_room ready feeder (suc core) feeds) all in
    let here : core + 0 ≡ core = omega arith in
    ap ready here ∙ sym (ap (λ b. not b || ready core) fed) ∙ parts.0
room_at ready feeder core (suc j) (o ∷ feeds) all at =
    let parts = and_parts (not (is_feeder feeder o) || ready core) (have_room ready feeder (suc core) feeds) all in
    let on : core + suc j ≡ suc core + j = omega arith in
    ap ready on ∙ room_at ready feeder (suc core) j feeds parts.1 at
