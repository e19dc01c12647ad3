-- Queues of two words and of one, clock by clock.
use Rattle.std.specs.Prelude.{◌≡◌, ℕ, zero, suc, ◌+◌, [], ◌∷◌, refl}
use Rattle.tta_ops.specs.Units.{Units}
use Rattle.tta_queue.specs.Queue.{Pin, InValid, InData, OutReady, IsReset, InReady, OutValid, OutData}
use Rattle.tta_queue.specs.Laws.{pins, taken, given}

-- whether a clock begins anew: the first does, and no other
abbrev first_alone : ℕ → ℕ
first_alone zero = 1
first_alone (suc t) = 0

-- a word is offered at each clock, 5 at first and then one more each, and words are asked for or not
abbrev offers : (ready : ℕ) → ℕ → Pin → ℕ
offers ready t InValid = 1
offers ready t InData = t + 5
offers ready t OutReady = ready
offers ready t IsReset = first_alone t
offers ready t p = 0

-- what registers have when the power comes
abbrev any_words : Pin → ℕ
any_words p = 3

-- where none is asked for, it takes two and then no more
fills : (u : Units) → taken u 1 32 any_words (offers 0) 5 ≡ 6 ∷ 7 ∷ []
fills u = refl

full : (u : Units) → pins u 1 32 any_words (offers 0) 3 InReady ≡ 0
full u = refl

-- meanwhile it shows the first
waits : (u : Units) → pins u 1 32 any_words (offers 0) 4 OutData ≡ 6
waits u = refl

-- where all are asked for, each goes a clock after it came, around the end of the memory too
flows : (u : Units) → given u 1 32 any_words (offers 1) 7 ≡ 6 ∷ 7 ∷ 8 ∷ 9 ∷ 10 ∷ []
flows u = refl

empty : (u : Units) → pins u 1 32 any_words (offers 1) 1 OutValid ≡ 0
empty u = refl

-- at a clock that begins anew it shows nothing
shuts : (u : Units) → pins u 1 32 any_words (offers 1) 0 InReady ≡ 0
shuts u = refl

-- a queue of one word gives every other clock
alone : (u : Units) → given u 0 32 any_words (offers 1) 6 ≡ 6 ∷ 8 ∷ []
alone u = refl
