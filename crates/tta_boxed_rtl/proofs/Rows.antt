-- Rows of the definitions.
use Rattle.std.specs.Prelude.{◌≡◌, true, false, [], ◌∷◌, codes, refl}
use Rattle.std.specs.Fmt.{digits}
use Rattle.tta_boxed_rtl.specs.Left.{may_be_left, told_by}
use Rattle.tta_boxed_rtl.specs.Beside.{own_module}

-- divisions may be left, and what is no standard operation; a product is made by the circuit
remainder-left : may_be_left (codes "remu") ≡ true
remainder-left = refl

own-left : may_be_left (codes "rotl") ≡ true
own-left = refl

product-kept : may_be_left (codes "mul") ≡ false
product-kept = refl

-- a list tells of each number that it has, and of no other that it may be left
second-told : told_by (false ∷ true ∷ []) 1 ≡ true
second-told = refl

third-told : told_by (false ∷ true ∷ []) 2 ≡ false
third-told = refl

-- a module of three stages
rotating : own_module (codes "rotl") 3 ≡ codes "box_rotl #(.STAGES(3))"
unfolding own_module digits
rotating = refl
