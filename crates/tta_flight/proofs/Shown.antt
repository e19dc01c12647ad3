-- What the rings have after a result is added that is due at once.
use Rattle.std.proofs.Common.{◌≡◌, ◌≢◌, ◌<◌, ℕ, zero, suc, Bool, true, length, None, Some, set, refl, ap, sym, ◌∙◌, subst, arith}
use Rattle.std.specs.Prelude.{◌-◌, ◌==◌, ◌||◌, ◌&&◌, if◌then◌else◌, is_some}
use Rattle.std.proofs.lemmas.Bool.{eq-eqb, ne_eqb}
use Rattle.std.proofs.lemmas.List.{get_or-set_same, get_or-set_other, length-set}
use Rattle.std.proofs.Math.Bool.{or-true, or-false}
use Rattle.tta_flight.specs.declared.ring.Ring.{Ring}
use Rattle.tta_flight.specs.declared.marked.Marked.{Marked}
use Rattle.tta_flight.specs.Marked.{has}
use Rattle.tta_flight.specs.Rings.{Rings, rings_of, AreApart, AreMoving, no_ring, ring_of, longest_of, turns_of, shown_in, cell_of, later_in, due_in, IsStarted, IsRegion}
use Rattle.tta_flight.proofs.Carved.{carved_at, carved_set}
use Rattle.tta_flight.proofs.Cells.{by_unit, part_stays}

module _ (r : Rings) (region : IsRegion r) (unit value : ℕ) (there : unit < length r.rings) (fresh : Marked)
    (sets : (k : ℕ) → has fresh k ≡ (has r.fresh k || unit == k)) where
  abbrev pub showing : Ring
  showing = record (ring_of r unit) { shown = Some value }

  abbrev pub after : Rings
  after = rings_of (set r.rings unit showing) r.cells r.moving fresh

  this_ring : ring_of after unit ≡ showing
  this_ring = get_or-set_same r.rings unit showing no_ring there

  other_ring : (u : ℕ) → u ≢ unit → ring_of after u ≡ ring_of r u
  other_ring u other = get_or-set_other r.rings unit u showing no_ring other

  longest_stays : (u : ℕ) → longest_of after u ≡ longest_of r u
  longest_stays = part_stays (λ q. q.longest) r.rings unit showing there refl

  turns_stay : (u : ℕ) → turns_of after u ≡ turns_of r u
  turns_stay = part_stays (λ q. q.turns) r.rings unit showing there refl

  later_stays : (past u : ℕ) → later_in after u past ≡ later_in r u past
  later_stays past = part_stays (λ q. cell_of r.cells q past) r.rings unit showing there refl

  shown_with : (u : ℕ) (b : Bool) → (u == unit) ≡ b → shown_in after u ≡ (if b && true then Some value else shown_in r u)
  shown_with = by_unit unit (λ u. (b : Bool) → (u == unit) ≡ b → shown_in after u ≡ (if b && true then Some value else shown_in r u))
      (λ b same. subst (λ b. shown_in after unit ≡ (if b && true then Some value else shown_in r unit)) (sym (eq-eqb unit unit refl) ∙ same) (ap (λ q. q.shown) this_ring))
      (λ u other b same. subst (λ b. shown_in after u ≡ (if b && true then Some value else shown_in r u)) (sym (ne_eqb u unit other) ∙ same) (ap (λ q. q.shown) (other_ring u other)))

  now_here : due_in after unit 0 ≡ Some value
  now_here =
      let is : has fresh unit ≡ true = sets unit ∙ ap (λ b. has r.fresh unit || b) (eq-eqb unit unit refl) ∙ or-true (has r.fresh unit) in
      ap (λ b. if b then shown_in after unit else None) is ∙ ap (λ q. q.shown) this_ring

  now_other : (u : ℕ) → u ≢ unit → due_in after u 0 ≡ due_in r u 0
  now_other u other =
      let is : has fresh u ≡ has r.fresh u = sets u ∙ ap (λ b. has r.fresh u || b) (ne_eqb unit u (λ same. other (sym same))) ∙ or-false (has r.fresh u) in
      ap (λ b. if b then shown_in after u else None) is ∙ ap (λ q. if has r.fresh u then q.shown else None) (other_ring u other)

  unit_apart : (u d : ℕ) → u < length r.rings → u ≢ unit → due_in after u d ≡ due_in r u d
  unit_apart u zero had other = now_other u other
  unit_apart u (suc p) had other = later_stays p u

  delay_apart : (d : ℕ) → d ≢ 0 → due_in after unit d ≡ due_in r unit d
  delay_apart zero other = absurd (other refl)
  delay_apart (suc p) other = later_stays p unit

  is_shown : IsStarted unit 0 value r after
  is_shown = record {
    units = length-set r.rings unit showing;
    longest = longest_stays;
    shown = λ u. shown_with u (u == unit) refl;
    here = now_here;
    unit_apart = unit_apart;
    delay_apart = delay_apart;
  }

  size : length (set r.rings unit showing) ≡ length r.rings
  size = length-set r.rings unit showing

  moving_stays : AreMoving after
  moving_stays = record {
    few = omega (arith, size, region.moving.few);
    empty = λ u p had soon. later_stays p u ∙ region.moving.empty u p (omega (arith, had, size)) (omega (arith, soon, turns_stay u));
    still = λ u had off. turns_stay u ∙ region.moving.still u (omega (arith, had, size)) off;
    needed = λ u had on. ap (λ n. is_some (later_in after u (n - 1))) (turns_stay u) ∙ ap is_some (later_stays (turns_of r u - 1) u)
        ∙ region.moving.needed u (omega (arith, had, size)) on;
  }

  apart_stays : AreApart after
  apart_stays =
      let at = carved_at 0 (length r.cells) r.rings unit region.apart.carved there in
      record { carved = carved_set 0 (length r.cells) r.rings unit showing region.apart.carved there refl refl at.at; few = region.apart.few }

  pub shown_new : IsRegion after × IsStarted unit 0 value r after
  shown_new = (record { apart = apart_stays; moving = moving_stays }, is_shown)

-- a result is added, as it is made
pub shown : (r : Rings) (region : IsRegion r) (unit value : ℕ) (there : unit < length r.rings) (fresh : Marked)
    (sets : (k : ℕ) → has fresh k ≡ (has r.fresh k || unit == k)) (q s : Ring) → q ≡ ring_of r unit → s ≡ record q { shown = Some value }
    → IsRegion (rings_of (set r.rings unit s) r.cells r.moving fresh) × IsStarted unit 0 value r (rings_of (set r.rings unit s) r.cells r.moving fresh)
shown r region unit value there fresh sets q s q_is s_is =
    let s_at : s ≡ showing r region unit value there fresh sets = s_is ∙ ap {A = Ring} {B = Ring} (λ x. record x { shown = Some value }) q_is in
    let is = ap {A = Ring} {B = Rings} (λ x. rings_of (set r.rings unit x) r.cells r.moving fresh) s_at in
    subst (λ n. IsRegion n × IsStarted unit 0 value r n) (sym is) (shown_new r region unit value there fresh sets)
