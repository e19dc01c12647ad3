-- Which numbers the places of a row have.
use Rattle.std.proofs.Common.{◌≡◌, ◌<◌, ℕ, zero, suc, replicate, Option, None, get_or, refl, arith, IsTrue}
use Rattle.tta_sim.specs.Cited.{Place, KeptReg, KeptImm, KeptOperand, KeptRa, KeptPort}
use Rattle.tta_sim.specs.Places.{is_place, number_of}

-- each place is within the row
pub number_within : (p : Place) → IsTrue (is_place p) → number_of p < 609
number_within (KeptReg file index) there = grind arith
number_within (KeptImm unit index) there = grind arith
number_within (KeptOperand unit) there = grind arith
number_within KeptRa there = grind arith
number_within (KeptPort unit) there = grind arith

-- nothing stands anywhere in a row of nothing
pub nothing_at : {A : Type 0} (n i : ℕ) → ◌≡◌ {A = Option A} (get_or (replicate n None) i None) None
nothing_at zero i = refl
nothing_at (suc n) zero = refl
nothing_at (suc n) (suc i) = nothing_at n i
