-- What the rings have once one of them has turned.
use Rattle.std.proofs.Common.{◌≡◌, ◌≢◌, ◌<◌, ◌≤◌, ◌+◌, ◌-◌, ℕ, Bool, true, false, List, length, Option, None, get_or, set, refl, ap, sym, ◌∙◌, subst, arith}
use Rattle.std.specs.Prelude.{◌==◌, ◌&&◌, not, if◌then◌else◌, nat_le}
use Rattle.std.proofs.lemmas.Bool.{eq-eqb, ne_eqb}
use Rattle.std.proofs.lemmas.List.{get_or-set_same, get_or-set_other, length-set}
use Rattle.std.proofs.Math.Bool.{and-true, and-false}
use Rattle.tta_flight.specs.declared.ring.Ring.{Ring}
use Rattle.tta_flight.specs.declared.marked.Marked.{Marked}
use Rattle.tta_flight.specs.Marked.{has}
use Rattle.tta_flight.specs.Rings.{Rings, rings_of, AreApart, AreCarved, place_of, turned, no_ring, ring_of, longest_of, shown_in, turns_of, cell_of, later_in, IsTurned, IsRegion}
use Rattle.tta_flight.proofs.Carved.{IsIn, place_within, place_differs, carved_at, carved_set, units_differ}
use Rattle.tta_flight.proofs.Cells.{cell_other, part_stays}
use Rattle.tta_flight.proofs.Coming.{moving_turned}

-- ---- a ring

turned_at : (r : Ring) → r.at ≤ r.longest → (turned r).at ≤ r.longest
turned_at r at = grind (arith, at)

-- the cell of each cycle to come was that of the one after it
turned_place : (r : Ring) (past : ℕ) → r.at ≤ r.longest → past + 1 ≤ r.longest → place_of (turned r) past ≡ place_of r (past + 1)
turned_place r past at soon = grind (arith, at, soon)

-- and that of the last of them was that of the next one
turned_last : (r : Ring) → r.at ≤ r.longest → place_of (turned r) r.longest ≡ place_of r 0
turned_last r at = grind (arith, at)

module _ (cells : List (Option ℕ)) (r : Ring) (at : r.at ≤ r.longest) (within : place_of r 0 < length cells) where
  -- all is one cycle nearer once the cell of the next one is empty
  pub turned_cell : (past : ℕ) → cell_of (set cells (place_of r 0) None) (turned r) past ≡ cell_of cells r (past + 1)
  turned_cell past = elim (nat_le (past + 1) r.longest) as (λ b. nat_le (past + 1) r.longest ≡ b
      → cell_of (set cells (place_of r 0) None) (turned r) past ≡ (if b then get_or cells (place_of r (past + 1)) None else None)) [
        | true ↦ λ is.
            let more : past + 1 ≤ r.longest = grind (arith, is) in
            let soon : nat_le past r.longest ≡ true = grind (arith, more) in
            let other : place_of r (past + 1) ≢ place_of r 0 = place_differs r (past + 1) 0 at more (omega arith) (λ same. omega (arith, same)) in
            rw soon (ap (λ n. get_or (set cells (place_of r 0) None) n None) (turned_place r past at more)
            ∙ get_or-set_other cells (place_of r 0) (place_of r (past + 1)) None None other)
        | false ↦ λ is. last is
      ] refl
    where
      last : nat_le (past + 1) r.longest ≡ false → cell_of (set cells (place_of r 0) None) (turned r) past ≡ None
      last beyond = elim (nat_le past r.longest) as (λ b. nat_le past r.longest ≡ b
          → (if b then get_or (set cells (place_of r 0) None) (place_of (turned r) past) None else None) ≡ None) [
            | true ↦ λ is.
                let past_is : past ≡ r.longest = grind (arith, is, beyond) in
                let at_next_one : place_of (turned r) past ≡ place_of r 0 = ap (place_of (turned r)) past_is ∙ turned_last r at in
                ap (λ n. get_or (set cells (place_of r 0) None) n None) at_next_one ∙ get_or-set_same cells (place_of r 0) None None within
            | false ↦ λ is. refl
          ] refl

-- ---- one ring among others

module _ (r : Rings) (apart : AreApart r) (unit : ℕ) (moving : Marked) (there : unit < length r.rings) where
  abbrev ring : Ring
  ring = ring_of r unit

  abbrev emptied : List (Option ℕ)
  emptied = set r.cells (place_of ring 0) None

  ring_in : IsIn 0 (length r.cells) ring
  ring_in = carved_at 0 (length r.cells) r.rings unit apart.carved there

  next_within : place_of ring 0 < length r.cells
  next_within = omega (arith, ring_in.within, place_within ring 0 ring_in.at (omega arith))

  abbrev pub after : Rings
  after = rings_of (set r.rings unit (turned ring)) emptied moving r.fresh

  pub apart_turned : AreApart after
  apart_turned =
      let size : length emptied ≡ length r.cells = length-set r.cells (place_of ring 0) None in
      record {
        carved = subst (λ n. AreCarved 0 n (set r.rings unit (turned ring))) (sym size)
            (carved_set 0 (length r.cells) r.rings unit (turned ring) apart.carved there refl refl (turned_at ring ring_in.at));
        few = omega (arith, size, apart.few);
      }

  pub other_ring : (u : ℕ) → u ≢ unit → ring_of after u ≡ ring_of r u
  other_ring u other = get_or-set_other r.rings unit u (turned ring) no_ring other

  pub this_ring : ring_of after unit ≡ turned ring
  this_ring = get_or-set_same r.rings unit (turned ring) no_ring there

  longest_stays : (u : ℕ) → longest_of after u ≡ longest_of r u
  longest_stays = part_stays (λ q. q.longest) r.rings unit (turned ring) there refl

  shown_stays : (u : ℕ) → shown_in after u ≡ shown_in r u
  shown_stays = part_stays (λ q. q.shown) r.rings unit (turned ring) there refl

  later_other : (u past : ℕ) → u < length r.rings → u ≢ unit → later_in after u past ≡ later_in r u past
  later_other u past had other =
      ap (λ q. cell_of emptied q past) (other_ring u other)
      ∙ cell_other r.cells (ring_of r u) past (place_of ring 0) None (λ soon.
      units_differ 0 (length r.cells) r.rings u unit past 0 apart.carved had there other soon (omega arith))

  pub is_turned : IsTurned unit r after
  is_turned = record {
    units = length-set r.rings unit (turned ring);
    longest = longest_stays;
    shown = shown_stays;
    now = λ u. ap (λ o. if has r.fresh u then o else None) (shown_stays u);
    later = λ past. ap (λ q. cell_of emptied q past) this_ring ∙ turned_cell r.cells ring ring_in.at next_within past;
    unit_apart = later_other;
  }

-- ---- as it is made

few_turns : (n : ℕ) → n - 1 ≡ 0 → nat_le n 1 ≡ true
few_turns n none = grind (arith, none)

more_turns : (n : ℕ) → 0 < n - 1 → nat_le n 1 ≡ false
more_turns n some = grind (arith, some)

pub turned_ring : (r : Rings) (region : IsRegion r) (unit : ℕ) (moving : Marked) (there : unit < length r.rings) (is_over : Bool) (q s : Ring) (next : ℕ)
    → q ≡ ring_of r unit → next ≡ place_of (ring_of r unit) 0 → s ≡ turned q → is_over ≡ nat_le (turns_of r unit) 1
    → ((k : ℕ) → has moving k ≡ (has r.moving k && not (is_over && unit == k)))
    → IsRegion (rings_of (set r.rings unit s) (set r.cells next None) moving r.fresh)
    × IsTurned unit r (rings_of (set r.rings unit s) (set r.cells next None) moving r.fresh)
turned_ring r region unit moving there is_over q s next q_is next_is s_is over_is sets =
    let s_at : s ≡ turned (ring_of r unit) = s_is ∙ ap turned q_is in
    let new : Rings = after r region.apart unit moving there in
    let new_is : rings_of (set r.rings unit s) (set r.cells next None) moving r.fresh ≡ new =
    ap {A = Ring} {B = Rings} (λ x. rings_of (set r.rings unit x) (set r.cells next None) moving r.fresh) s_at
    ∙ ap {A = ℕ} {B = Rings} (λ n. rings_of (set r.rings unit (turned (ring_of r unit))) (set r.cells n None) moving r.fresh) next_is in
    let is = is_turned r region.apart unit moving there in
    let turns_here : turns_of new unit ≡ turns_of r unit - 1 = ap (λ x. x.turns) (this_ring r region.apart unit moving there) in
    let kept : (b : Bool) → is_over ≡ b → (k : ℕ) → has moving k ≡ (has r.moving k && not (b && unit == k)) =
    λ b same k. sets k ∙ ap (λ o. has r.moving k && not (o && unit == k)) same in
    let held : IsRegion new = record {
      apart = apart_turned r region.apart unit moving there;
      moving = moving_turned r new unit region.moving there is turns_here
          (λ u other. ap (λ x. x.turns) (other_ring r region.apart unit moving there u other))
          (λ u other. sets u ∙ ap (λ b. has r.moving u && not (is_over && b)) (ne_eqb unit u (λ same. other (sym same)))
          ∙ ap (λ b. has r.moving u && not b) (and-false is_over) ∙ and-true (has r.moving u))
          (λ some. kept false (over_is ∙ more_turns (turns_of r unit) (subst (λ n. 0 < n) turns_here some)) unit ∙ and-true (has r.moving unit))
          (λ none. kept true (over_is ∙ few_turns (turns_of r unit) (sym turns_here ∙ none)) unit
          ∙ ap (λ b. has r.moving unit && not b) (eq-eqb unit unit refl) ∙ and-false (has r.moving unit));
    } in
    (subst (λ n. IsRegion n) (sym new_is) held, subst (λ n. IsTurned unit r n) (sym new_is) is)
