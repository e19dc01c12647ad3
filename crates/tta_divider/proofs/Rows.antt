-- Divisions, clock by clock.
use Rattle.std.proofs.Common.{◌≡◌, ℕ, zero, suc, ◌^◌, ◌-◌, refl}
use Rattle.tta_divider.specs.Cited.{Units, Held, powered, cut}
use Rattle.tta_divider.specs.declared.kind.Kind.TheVariants.{Quotient, Remainder}
use Rattle.tta_divider.specs.Divider.{Part, Enable, First, Second, same_part, same_memory, made_before, divider}
use Rattle.tta_divider.specs.Laws.{parts_at}
use Rattle.tta_divider.specs.Divider.{Shown}

-- 100 by 7 is taken first; then comes a clock that takes nothing, and then 5 by 0
abbrev words_at : ℕ → Part → ℕ
words_at zero Enable = 1
words_at zero First = 100
words_at zero Second = 7
words_at (suc zero) Enable = 0
words_at (suc zero) First = 9
words_at (suc zero) Second = 3
words_at (suc (suc t)) Enable = 1
words_at (suc (suc t)) First = 5
words_at (suc (suc t)) Second = 0
words_at t p = 0

-- registers that hold anything at first
abbrev anything : Held Part ⊥
anything = powered same_part same_memory (divider Quotient 2) (λ n. 77)

module _ (u : Units) where
  -- after one clock, and after a pause
  quotient : parts_at u Quotient 1 anything words_at 1 Shown ≡ 14
  unfolding cut made_before
  quotient = refl

  quotient_kept : parts_at u Quotient 1 anything words_at 2 Shown ≡ 14
  unfolding cut made_before
  quotient_kept = refl

  remainder : parts_at u Remainder 1 anything words_at 1 Shown ≡ 2
  unfolding cut made_before
  remainder = refl

  -- in two stages, where the divisor of the second pair is 0
  quotient_later : parts_at u Quotient 2 anything words_at 3 Shown ≡ 14
  unfolding cut made_before
  quotient_later = refl

  quotient_by_none : parts_at u Quotient 2 anything words_at 4 Shown ≡ 2 ^ 32 - 1
  unfolding cut made_before
  quotient_by_none = refl

  remainder_by_none : parts_at u Remainder 2 anything words_at 4 Shown ≡ 5
  unfolding cut made_before
  remainder_by_none = refl
