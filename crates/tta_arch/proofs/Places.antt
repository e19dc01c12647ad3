-- When two places are one.
use Rattle.std.proofs.Common.{◌≡◌, true, refl, arith}
use Rattle.std.proofs.lemmas.Bool.Decides.{nat_tests}
use Rattle.tta_arch.specs.Effects.{Place, KeptReg, KeptImm, KeptOperand, KeptRa, KeptPort, same_place}

pub same_is : (p q : Place) → same_place p q ≡ true → p ≡ q
same_is (KeptReg f i) (KeptReg g j) e = let a : f ≡ g = grind (arith, nat_tests) in let b : i ≡ j = grind (arith, nat_tests) in cc
same_is (KeptImm f i) (KeptImm g j) e = let a : f ≡ g = grind (arith, nat_tests) in let b : i ≡ j = grind (arith, nat_tests) in cc
same_is (KeptOperand u) (KeptOperand v) e = let a : u ≡ v = grind (arith, nat_tests) in cc
same_is KeptRa KeptRa e = refl
same_is (KeptPort u) (KeptPort v) e = let a : u ≡ v = grind (arith, nat_tests) in cc
same_is p q e = absurd cc
