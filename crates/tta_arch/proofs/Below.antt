-- What holds of all numbers below one.
use Rattle.std.proofs.Common.{◌≡◌, ℕ, zero, suc, Bool, true, refl}
use Rattle.std.proofs.lemmas.Bool.{and_from}
use Rattle.tta_arch.specs.Legal.{all_below}

pub all_below-true : (test : ℕ → Bool) (n : ℕ) → ((k : ℕ) → test k ≡ true) → all_below test n ≡ true
all_below-true test zero all = refl
all_below-true test (suc n) all = and_from (test n) (all_below test n) (all n) (all_below-true test n all)
