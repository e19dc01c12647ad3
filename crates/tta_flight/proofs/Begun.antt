-- What the rings have after a result is added.
use Rattle.std.proofs.Common.{◌≡◌, ◌≢◌, ◌<◌, ◌≤◌, ◌+◌, ℕ, zero, suc, false, length, Option, None, Some, set, refl, ap, sym, ◌∙◌, subst, arith}
use Rattle.std.specs.Prelude.{◌==◌, ◌||◌, ◌&&◌, if◌then◌else◌, max}
use Rattle.std.proofs.lemmas.List.{get_or-set_same, get_or-set_other, length-set}
use Rattle.tta_flight.specs.declared.ring.Ring.{Ring}
use Rattle.tta_flight.specs.declared.marked.Marked.{Marked}
use Rattle.tta_flight.specs.Rings.{Rings, rings_of, AreApart, AreCarved, place_of, no_ring, ring_of, longest_of, shown_in, turns_of, cell_of, later_in, due_in, IsStarted, IsRegion}
use Rattle.tta_flight.proofs.Carved.{IsIn, place_within, place_differs, carved_at, carved_set, units_differ}
use Rattle.tta_flight.specs.Marked.{has}
use Rattle.tta_flight.proofs.Cells.{cell_other, cell_here, due_later, part_stays}
use Rattle.tta_flight.proofs.Coming.{IsExpected, moving_begun}

module _ (r : Rings) (apart : AreApart r) (unit past turns : ℕ) (cell : Option ℕ) (moving : Marked) (there : unit < length r.rings) (soon : past ≤ longest_of r unit) where
  abbrev place : ℕ
  place = place_of (ring_of r unit) past

  abbrev pub expecting : Ring
  expecting = record (ring_of r unit) { turns = turns }

  abbrev pub after : Rings
  after = rings_of (set r.rings unit expecting) (set r.cells place cell) moving r.fresh

  ring_in : IsIn 0 (length r.cells) (ring_of r unit)
  ring_in = carved_at 0 (length r.cells) r.rings unit apart.carved there

  place_there : place < length r.cells
  place_there = omega (arith, ring_in.within, place_within (ring_of r unit) past ring_in.at soon)

  pub this_ring : ring_of after unit ≡ expecting
  this_ring = get_or-set_same r.rings unit expecting no_ring there

  pub other_ring : (u : ℕ) → u ≢ unit → ring_of after u ≡ ring_of r u
  other_ring u other = get_or-set_other r.rings unit u expecting no_ring other

  pub apart_begun : AreApart after
  apart_begun =
      let size : length (set r.cells place cell) ≡ length r.cells = length-set r.cells place cell in
      record {
        carved = subst (λ n. AreCarved 0 n (set r.rings unit expecting)) (sym size)
            (carved_set 0 (length r.cells) r.rings unit expecting apart.carved there refl refl ring_in.at);
        few = omega (arith, size, apart.few);
      }

  pub later_other : (u d : ℕ) → u < length r.rings → u ≢ unit → later_in after u d ≡ later_in r u d
  later_other u d had other =
      ap (λ q. cell_of (set r.cells place cell) q d) (other_ring u other)
      ∙ cell_other r.cells (ring_of r u) d place cell (λ soon_too.
      units_differ 0 (length r.cells) r.rings u unit d past apart.carved had there other soon_too soon)

  pub later_here : (d : ℕ) → d ≢ past → later_in after unit d ≡ later_in r unit d
  later_here d other =
      ap (λ q. cell_of (set r.cells place cell) q d) this_ring
      ∙ cell_other r.cells (ring_of r unit) d place cell (λ soon_too. place_differs (ring_of r unit) d past ring_in.at soon_too soon other)

  pub later_now : later_in after unit past ≡ cell
  later_now = ap (λ q. cell_of (set r.cells place cell) q past) this_ring ∙ cell_here r.cells (ring_of r unit) past cell soon place_there

  pub longest_stays : (u : ℕ) → longest_of after u ≡ longest_of r u
  longest_stays = part_stays (λ q. q.longest) r.rings unit expecting there refl

  pub shown_stays : (u : ℕ) → shown_in after u ≡ shown_in r u
  shown_stays = part_stays (λ q. q.shown) r.rings unit expecting there refl

  pub is_expected : (value : ℕ) → cell ≡ Some value → IsExpected unit past value r after
  is_expected value is = record {
    units = length-set r.rings unit expecting;
    here = later_now ∙ is;
    unit_apart = later_other;
    past_apart = later_here;
  }

  fresh_stays : (u : ℕ) → due_in after u 0 ≡ due_in r u 0
  fresh_stays u = ap (λ o. if has r.fresh u then o else None) (shown_stays u)

  due_other : (u d : ℕ) → u < length r.rings → u ≢ unit → due_in after u d ≡ due_in r u d
  due_other u zero had other = fresh_stays u
  due_other u (suc p) had other = later_other u p had other

  due_here : (d : ℕ) → d ≢ past + 1 → due_in after unit d ≡ due_in r unit d
  due_here zero other = fresh_stays unit
  due_here (suc p) other = later_here p (λ same. other (omega (arith, same)))

  -- a result was added, and all else is as before
  pub is_begun : (value : ℕ) → cell ≡ Some value → IsStarted unit (past + 1) value r after
  is_begun value is = record {
    units = length-set r.rings unit expecting;
    longest = longest_stays;
    shown = λ u.
        let not_now : (u == unit && past + 1 == 0) ≡ false = grind arith in
        rw not_now (shown_stays u);
    here = due_later after unit past ∙ later_now ∙ is;
    unit_apart = due_other;
    delay_apart = due_here;
  }

-- a result is added, as it is made
pub begun : (r : Rings) (region : IsRegion r) (unit past value : ℕ) (there : unit < length r.rings) (soon : past ≤ longest_of r unit)
    (at now : ℕ) (q s : Ring) (moving : Marked) → at ≡ unit → now ≡ place_of (ring_of r unit) past → q ≡ ring_of r at
    → s ≡ record q { turns = max q.turns (past + 1) } → ((k : ℕ) → has moving k ≡ (has r.moving k || at == k))
    → IsRegion (rings_of (set r.rings at s) (set r.cells now (Some value)) moving r.fresh)
    × IsStarted unit (past + 1) value r (rings_of (set r.rings at s) (set r.cells now (Some value)) moving r.fresh)
begun r region unit past value there soon at now q s moving at_is now_is q_is s_is sets =
    let turns : ℕ = max (turns_of r unit) (past + 1) in
    let s_at : s ≡ expecting r region.apart unit past turns (Some value) moving there soon =
    s_is ∙ ap {A = Ring} {B = Ring} (λ x. record x { turns = max x.turns (past + 1) }) (q_is ∙ ap (ring_of r) at_is) in
    let new_is : rings_of (set r.rings at s) (set r.cells now (Some value)) moving r.fresh ≡ after r region.apart unit past turns (Some value) moving there soon =
    ap {A = ℕ} {B = Rings} (λ k. rings_of (set r.rings k s) (set r.cells now (Some value)) moving r.fresh) at_is
    ∙ ap {A = Ring} {B = Rings} (λ x. rings_of (set r.rings unit x) (set r.cells now (Some value)) moving r.fresh) s_at
    ∙ ap {A = ℕ} {B = Rings} (λ k. rings_of (set r.rings unit (expecting r region.apart unit past turns (Some value) moving there soon)) (set r.cells k (Some value)) moving r.fresh) now_is in
    let held = is_begun r region.apart unit past turns (Some value) moving there soon value refl in
    let kept = moving_begun r (after r region.apart unit past turns (Some value) moving there soon) unit past value region.moving there
    (is_expected r region.apart unit past turns (Some value) moving there soon value refl)
    (ap (λ x. x.turns) (this_ring r region.apart unit past turns (Some value) moving there soon))
    (λ u other. ap (λ x. x.turns) (other_ring r region.apart unit past turns (Some value) moving there soon u other))
    (λ k. sets k ∙ ap (λ n. has r.moving k || n == k) at_is) in (
      subst (λ n. IsRegion n) (sym new_is) (record { apart = apart_begun r region.apart unit past turns (Some value) moving there soon; moving = kept }),
      subst (λ n. IsStarted unit (past + 1) value r n) (sym new_is) held,
    )
