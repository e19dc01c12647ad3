-- Which of some buses are not among others.
use Rattle.std.proofs.Common.{◌≡◌, ℕ, zero, suc, ◌<◌, ◌^◌, ◌-◌, refl, sym, ap, ◌∙◌, inl, inr, arith}
use Rattle.std.specs.Prelude.{◌==◌, ◌&&◌, not, bit_and}
use Rattle.std.specs.Int.{bit_at, w16}
use Rattle.std.proofs.lemmas.Bool.{cases_lt}
use Rattle.std.proofs.lemmas.Nat.Bits.{bit_at_not, bit_at-lt}
use Rattle.tta_reserve.specs.Cited.{has_bit}
use Rattle.tta_arch.proofs.SetLemmas.{has_bit-and}
use Rattle.tta_arch.proofs.BusSources.{no_bus}

other_bit : (x : ℕ) → x < 2 → (1 - x == 1) ≡ not (x == 1)
other_bit zero small = refl
other_bit (suc zero) small = refl
other_bit (suc (suc x)) small = absurd (omega arith)

is_other : (others bus : ℕ) → others < 2 ^ 16 → bus < 16 → has_bit (65535 - others) bus ≡ not (has_bit others bus)
is_other others bus small below =
    ap (λ n. n == 1) (bit_at_not w16 others bus small below) ∙ other_bit (bit_at others bus) (bit_at-lt others bus)

-- those of some buses that are not among others
pub without_others : (buses others bus : ℕ) → buses < 2 ^ 16 → others < 2 ^ 16
    → has_bit (bit_and buses (65535 - others)) bus ≡ (has_bit buses bus && not (has_bit others bus))
without_others buses others bus small few =
    has_bit-and buses (65535 - others) bus
    ∙ elim (cases_lt bus 16) [
      | inl below ↦ ap (λ b. has_bit buses bus && b) (is_other others bus few below)
      | inr past ↦
          let none = no_bus buses bus small past in
          ap (λ b. b && has_bit (65535 - others) bus) none ∙ sym (ap (λ b. b && not (has_bit others bus)) none)
    ]
