-- When two places are one, and the newest word of a place.
use Rattle.std.proofs.Common.{◌≡◌, ℕ, Bool, true, false, ◌∷◌, ◌++◌, Option, Some, None, refl, ap, arith}
use Rattle.std.specs.Prelude.{if◌then◌else◌}
use Rattle.std.specs.Option.{option_to_list}
use Rattle.std.proofs.lemmas.Bool.Decides.{nat_tests}
use Rattle.tta_moves.specs.Cited.{Place, KeptReg, KeptImm, KeptOperand, KeptRa, KeptPort, same_place, Written, kept}

pub same_self : (p : Place) → same_place p p ≡ true
same_self (KeptReg f i) = grind (arith, nat_tests)
same_self (KeptImm f i) = grind (arith, nat_tests)
same_self (KeptOperand u) = grind (arith, nat_tests)
same_self KeptRa = refl
same_self (KeptPort u) = grind (arith, nat_tests)

-- split a test
pub either : (b : Bool) {P : Type 0} → (b ≡ true → P) → (b ≡ false → P) → P
either true p q = p refl
either false p q = q refl

-- the word of a place after one write
pub kept_there : (w : Place × ℕ) (ws : Written) (p : Place) → same_place w.0 p ≡ true → kept (w ∷ ws) p ≡ Some w.1
kept_there w ws p e = rw e refl

pub kept_elsewhere : (w : Place × ℕ) (ws : Written) (p : Place) → same_place w.0 p ≡ false → kept (w ∷ ws) p ≡ kept ws p
kept_elsewhere w ws p e = rw e refl

-- one write on top of two lists that agree at a place
pub kept_on_both : (o : Option (Place × ℕ)) (vs ws : Written) (p : Place) → kept vs p ≡ kept ws p → kept (option_to_list o ++ vs) p ≡ kept (option_to_list o ++ ws) p
kept_on_both None vs ws p e = e
kept_on_both (Some w) vs ws p e = ap (λ q. if same_place w.0 p then Some w.1 else q) e
