-- The rings of a new region.
use Rattle.std.proofs.Common.{◌≡◌, ◌≤◌, ℕ, zero, suc, true, false, List, [], length, Option, None, get_or, refl, sym, ◌∙◌, arith}
use Rattle.std.specs.Prelude.{if◌then◌else◌, nat_le, replicate}
use Rattle.std.proofs.lemmas.List.{length-replicate}
use Rattle.std.proofs.lemmas.Bool.{true≢false}
use Rattle.tta_flight.specs.declared.ring.Ring.{Ring}
use Rattle.tta_flight.specs.declared.marked.Marked.{Marked}
use Rattle.tta_flight.specs.Rings.{Rings, rings_of, IsRegion, place_of, cell_of, ring_of, shown_in, due_in, rings_from, size_of}
use Rattle.tta_flight.specs.Marked.{has}
use Rattle.tta_flight.specs.Flight.{StandsFor}
use Rattle.tta_flight.proofs.Carved.{carved_from, length-rings_from, shown-rings_from, turns-rings_from}

abbrev pub no_cells : ℕ → List (Option ℕ)
no_cells n = replicate n None

none_at : (n k : ℕ) → get_or (no_cells n) k None ≡ None
none_at zero k = refl
none_at (suc n) zero = refl
none_at (suc n) (suc k) = none_at n k

none_due : (n : ℕ) (ring : Ring) (d : ℕ) → cell_of (no_cells n) ring d ≡ None
none_due n ring d = elim (nat_le d ring.longest) as (λ b. (if b then get_or (no_cells n) (place_of ring d) None else None) ≡ None) [
  | true ↦ none_at n (place_of ring d)
  | false ↦ refl
]

module _ (ls : List ℕ) (n : ℕ) (moving fresh : Marked) where
  abbrev first : Rings
  first = rings_of (rings_from 0 ls) (no_cells n) moving fresh

  pub first_region : n ≡ size_of 0 ls → n ≤ 65536 → length ls ≤ 256 → ((unit : ℕ) → has moving unit ≡ false) → IsRegion first
  first_region is few units clear = record {
    apart = record {
      carved = carved_from 0 (length (no_cells n)) ls (sym is ∙ sym (length-replicate n None));
      few = omega (arith, few, length-replicate {A = Option ℕ} n None);
    };
    moving = record {
      few = omega (arith, units, length-rings_from 0 ls);
      empty = λ u d there soon. none_due n (ring_of first u) d;
      still = λ u there off. turns-rings_from 0 ls u;
      needed = λ u there on. absurd (true≢false (sym on ∙ clear u));
    };
  }

  pub first_stands : (moment : ℕ → ℕ) → StandsFor (record { started = []; moment = moment }) first
  first_stands moment = record {
    shown = λ u there. shown-rings_from 0 ls u;
    coming = λ u d there. none u d;
  }
    where
      none : (u d : ℕ) → due_in first u d ≡ None
      none u zero = elim (has fresh u) as (λ b. (if b then shown_in first u else None) ≡ None) [
        | true ↦ shown-rings_from 0 ls u
        | false ↦ refl
      ]
      none u (suc past) = none_due n (ring_of first u) past
