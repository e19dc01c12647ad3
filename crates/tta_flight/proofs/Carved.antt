-- Rings in a row.
use Rattle.std.proofs.Common.{◌≡◌, ◌≢◌, ◌<◌, ◌≤◌, ◌+◌, ℕ, zero, suc, true, false, leb, List, [], ◌∷◌, length, None, get_or, set, refl, ap, sym, ◌∙◌, subst, arith}
use Rattle.tta_flight.specs.declared.ring.Ring.{Ring}
use Rattle.tta_flight.specs.Rings.{place_of, AreCarved, rings_from, size_of, no_ring}

-- ---- the places of one ring

pub place_after : (r : Ring) (d : ℕ) → r.first ≤ place_of r d
place_after r d = omega arith

pub place_within : (r : Ring) (d : ℕ) → r.at ≤ r.longest → d ≤ r.longest → place_of r d ≤ r.first + r.longest
place_within r d at soon = grind (arith, at, soon)

pub place_differs : (r : Ring) (d e : ℕ) → r.at ≤ r.longest → d ≤ r.longest → e ≤ r.longest → d ≢ e → place_of r d ≢ place_of r e
place_differs r d e at soon soon_too other = λ same. grind (arith, at, soon, soon_too, other, same)

-- ---- rings in a row

-- what is known of a ring among others
pub record IsIn (first cells : ℕ) (r : Ring) : Type 0 where
  pub after : first ≤ r.first
  pub at : r.at ≤ r.longest
  pub within : r.first + r.longest < cells

carved_end : (first cells : ℕ) (rs : List Ring) → AreCarved first cells rs → first ≤ cells
carved_end first cells [] carved = carved
carved_end first cells (r ∷ rs) carved = omega (arith, carved_end (first + suc r.longest) cells rs carved.1)

pub carved_at : (first cells : ℕ) (rs : List Ring) (u : ℕ) → AreCarved first cells rs → u < length rs → IsIn first cells (get_or rs u no_ring)
carved_at first cells [] u carved there = omega (arith, there)
carved_at first cells (r ∷ rs) zero carved there = record {
  after = omega (arith, carved.0.0);
  at = carved.0.1;
  within = omega (arith, carved.0.0, carved_end (first + suc r.longest) cells rs carved.1);
}
carved_at first cells (r ∷ rs) (suc u) carved there =
    let rest = carved_at (first + suc r.longest) cells rs u carved.1 (omega (arith, there)) in
    record { after = omega (arith, rest.after); at = rest.at; within = rest.within }

pub carved_apart : (first cells : ℕ) (rs : List Ring) (u v : ℕ) → AreCarved first cells rs → u < v → v < length rs
    → (get_or rs u no_ring).first + (get_or rs u no_ring).longest < (get_or rs v no_ring).first
carved_apart first cells [] u v carved less there = omega (arith, there)
carved_apart first cells (r ∷ rs) u zero carved less there = omega (arith, less)
carved_apart first cells (r ∷ rs) zero (suc v) carved less there =
    let later = carved_at (first + suc r.longest) cells rs v carved.1 (omega (arith, there)) in
    omega (arith, carved.0.0, later.after)
carved_apart first cells (r ∷ rs) (suc u) (suc v) carved less there =
    carved_apart (first + suc r.longest) cells rs u v carved.1 (omega (arith, less)) (omega (arith, there))

pub carved_set : (first cells : ℕ) (rs : List Ring) (u : ℕ) (new : Ring) → AreCarved first cells rs → u < length rs
    → new.first ≡ (get_or rs u no_ring).first → new.longest ≡ (get_or rs u no_ring).longest → new.at ≤ new.longest
    → AreCarved first cells (set rs u new)
carved_set first cells [] u new carved there same size at = omega (arith, there)
carved_set first cells (r ∷ rs) zero new carved there same size at =
    ((same ∙ carved.0.0, at), subst (λ l. AreCarved (first + suc l) cells rs) (sym size) carved.1)
carved_set first cells (r ∷ rs) (suc u) new carved there same size at =
    (carved.0, carved_set (first + suc r.longest) cells rs u new carved.1 (omega (arith, there)) same size at)

-- places of two units differ
pub units_differ : (first cells : ℕ) (rs : List Ring) (u v d e : ℕ) → AreCarved first cells rs → u < length rs → v < length rs → u ≢ v
    → d ≤ (get_or rs u no_ring).longest → e ≤ (get_or rs v no_ring).longest
    → place_of (get_or rs u no_ring) d ≢ place_of (get_or rs v no_ring) e
units_differ first cells rs u v d e carved there there_too other soon soon_too = λ same.
    let r = get_or rs u no_ring in
    let s = get_or rs v no_ring in
    let at_r = carved_at first cells rs u carved there in
    let at_s = carved_at first cells rs v carved there_too in
    let most_r = place_within r d at_r.at soon in
    let most_s = place_within s e at_s.at soon_too in
    let least_r = place_after r d in
    let least_s = place_after s e in
    elim (leb (suc u) v) as (λ b. leb (suc u) v ≡ b → ⊥) [
      | true ↦ λ is. omega (arith, carved_apart first cells rs u v carved (grind (arith, is)) there_too, most_r, least_s, same)
      | false ↦ λ is. omega (arith, carved_apart first cells rs v u carved (grind (arith, is, other)) there, most_s, least_r, same)
    ] refl

-- ---- the rings of a new region

pub carved_from : (first cells : ℕ) (ls : List ℕ) → size_of first ls ≡ cells → AreCarved first cells (rings_from first ls)
carved_from first cells [] size = omega (arith, size)
carved_from first cells (l ∷ ls) size = ((refl, omega arith), carved_from (first + suc l) cells ls size)

pub length-rings_from : (first : ℕ) (ls : List ℕ) → length (rings_from first ls) ≡ length ls
length-rings_from first [] = refl
length-rings_from first (l ∷ ls) = ap suc (length-rings_from (first + suc l) ls)

pub longest-rings_from : (first : ℕ) (ls : List ℕ) (u : ℕ) → (get_or (rings_from first ls) u no_ring).longest ≡ get_or ls u 0
longest-rings_from first [] u = refl
longest-rings_from first (l ∷ ls) zero = refl
longest-rings_from first (l ∷ ls) (suc u) = longest-rings_from (first + suc l) ls u

pub shown-rings_from : (first : ℕ) (ls : List ℕ) (u : ℕ) → (get_or (rings_from first ls) u no_ring).shown ≡ None
shown-rings_from first [] u = refl
shown-rings_from first (l ∷ ls) zero = refl
shown-rings_from first (l ∷ ls) (suc u) = shown-rings_from (first + suc l) ls u

pub turns-rings_from : (first : ℕ) (ls : List ℕ) (u : ℕ) → (get_or (rings_from first ls) u no_ring).turns ≡ 0
turns-rings_from first [] u = refl
turns-rings_from first (l ∷ ls) zero = refl
turns-rings_from first (l ∷ ls) (suc u) = turns-rings_from (first + suc l) ls u
