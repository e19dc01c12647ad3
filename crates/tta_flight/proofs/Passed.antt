-- What the rings have once what was due of some units is over.
use Rattle.std.proofs.Common.{◌≡◌, ◌≤◌, ◌+◌, ◌-◌, ◌*◌, ◌/◌, ◌%◌, ℕ, Bool, true, false, None, refl, ap, ◌∙◌}
use Rattle.std.specs.Prelude.{◌==◌, ◌&&◌, not, if◌then◌else◌}
use Rattle.std.specs.Int.{bit_at}
use Rattle.std.proofs.lemmas.Bool.{eq-eqb}
use Rattle.std.proofs.Math.Bool.{and-false}
use Rattle.tta_flight.specs.declared.marked.Marked.{Marked}
use Rattle.tta_flight.specs.Marked.{has, AreBits}
use Rattle.tta_flight.specs.Rings.{Rings, rings_of, shown_in, due_in, is_among, nearest, AreOver}
use Rattle.tta_flight.proofs.Walked.{among_bits, among_word}

-- a unit that is taken out of the set
gone : (r : Rings) (fresh : Marked) (u : ℕ) → has fresh u ≡ false → (if has fresh u then shown_in r u else None) ≡ None
gone r fresh u is = ap (λ b. if b then shown_in r u else None) is

module _ (r : Rings) (number among : ℕ) (fresh : Marked) (sets : (k : ℕ) → has fresh k ≡ (has r.fresh k && not (k / 64 == number && bit_at among (k % 64) == 1))) where
  -- nothing is due of the units whose bits were taken out
  pub passed_none : (unit : ℕ) → unit / 64 ≡ number → bit_at among (unit % 64) ≡ 1 → due_in (rings_of r.rings r.cells r.moving fresh) unit 0 ≡ None
  passed_none unit here is =
      gone r fresh unit (sets unit ∙ ap (λ b. has r.fresh unit && not (b && bit_at among (unit % 64) == 1)) (eq-eqb (unit / 64) number here)
      ∙ ap (λ n. has r.fresh unit && not (n == 1)) is ∙ and-false (has r.fresh unit))

  pub passed : (base end : ℕ) → base ≤ end → AreBits number base end among
      → AreOver (nearest base end (64 * number)) (nearest base end (64 * number + 64) - nearest base end (64 * number)) r (rings_of r.rings r.cells r.moving fresh)
  passed base end order are = record {
    units = refl;
    longest = λ u. refl;
    shown = λ u. refl;
    now = λ u. ap (λ b. if b then shown_in r u else None)
        (sets u ∙ ap (λ b. has r.fresh u && not b) (among_bits number base end among are u ∙ among_word base end order number u))
        ∙ without (has r.fresh u) (is_among (nearest base end (64 * number)) (nearest base end (64 * number + 64) - nearest base end (64 * number)) u) u;
    later = λ u past. refl;
  }
    where
      without : (had over : Bool) (u : ℕ) → (if had && not over then shown_in r u else None) ≡ (if over then None else if had then shown_in r u else None)
      without true true u = refl
      without true false u = refl
      without false true u = refl
      without false false u = refl
