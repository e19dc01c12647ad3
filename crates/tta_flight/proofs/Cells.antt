-- Cells that are written, and rings that are read.
use Rattle.std.proofs.Common.{◌≡◌, ◌≢◌, ◌<◌, ◌≤◌, ◌+◌, ℕ, suc, true, false, eqb, List, length, Option, None, get_or, set, refl, ap, sym, ◌∙◌, subst, arith}
use Rattle.std.specs.Prelude.{if◌then◌else◌, nat_le}
use Rattle.std.proofs.lemmas.List.{get_or-set_same, get_or-set_other, get_or_read}
use Rattle.tta_flight.specs.declared.ring.Ring.{Ring}
use Rattle.tta_flight.specs.Rings.{Rings, AreApart, place_of, no_ring, ring_of, cell_of, later_in, due_in}
use Rattle.tta_flight.proofs.Carved.{IsIn, carved_at}

-- a cell stays where another place is written
pub cell_other : (cells : List (Option ℕ)) (ring : Ring) (d place : ℕ) (x : Option ℕ) → (d ≤ ring.longest → place_of ring d ≢ place)
    → cell_of (set cells place x) ring d ≡ cell_of cells ring d
cell_other cells ring d place x other = elim (nat_le d ring.longest) as (λ b. nat_le d ring.longest ≡ b
    → (if b then get_or (set cells place x) (place_of ring d) None else None) ≡ (if b then get_or cells (place_of ring d) None else None)) [
      | true ↦ λ is. get_or-set_other cells place (place_of ring d) x None (other (grind (arith, is)))
      | false ↦ λ is. refl
    ] refl

-- a cell is what was written into it
pub cell_here : (cells : List (Option ℕ)) (ring : Ring) (d : ℕ) (x : Option ℕ) → d ≤ ring.longest → place_of ring d < length cells
    → cell_of (set cells (place_of ring d) x) ring d ≡ x
cell_here cells ring d x soon within =
    let is : nat_le d ring.longest ≡ true = grind (arith, soon) in
    rw is (get_or-set_same cells (place_of ring d) x None within)

-- what is due in some cycles is due so many after the next one
pub due_later : (r : Rings) (unit past : ℕ) → due_in r unit (past + 1) ≡ later_in r unit past
due_later r unit past =
    let more : past + 1 ≡ suc past = omega arith in
    ap (due_in r unit) more

-- a ring that was read
pub ring_read : (r : Rings) (apart : AreApart r) (u : ℕ) (x : Ring) → u < length r.rings → x ≡ get_or r.rings u x
    → (x ≡ ring_of r u) × IsIn 0 (length r.cells) x
ring_read r apart u x there read =
    let is = get_or_read r.rings u x there read no_ring in
    (is, subst (λ q. IsIn 0 (length r.cells) q) (sym is) (carved_at 0 (length r.cells) r.rings u apart.carved there))

-- by whether a unit is this one
pub by_unit : (unit : ℕ) (P : ℕ → Type 0) → P unit → ((u : ℕ) → u ≢ unit → P u) → (u : ℕ) → P u
by_unit unit P here others u = elim (eqb unit u) as (λ b. eqb unit u ≡ b → P u) [
  | true ↦ λ same. subst P (grind (arith, same)) here
  | false ↦ λ other. others u (λ same. grind (arith, other, same))
] refl

-- what a ring has in common with the one in whose place it stands is as before for every unit
pub part_stays : {A : Type 0} (part : Ring → A) (rings : List Ring) (unit : ℕ) (ring : Ring) → unit < length rings → part ring ≡ part (get_or rings unit no_ring)
    → (u : ℕ) → part (get_or (set rings unit ring) u no_ring) ≡ part (get_or rings u no_ring)
part_stays part rings unit ring there same =
    by_unit unit (λ u. part (get_or (set rings unit ring) u no_ring) ≡ part (get_or rings u no_ring))
    (ap part (get_or-set_same rings unit ring no_ring there) ∙ same) (λ u other. ap part (get_or-set_other rings unit u ring no_ring other))
