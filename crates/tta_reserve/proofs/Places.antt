-- Whether two destinations are one place does not depend on their order.
use Rattle.std.proofs.Common.{◌≡◌, refl}
use Rattle.tta_reserve.specs.Cited.{Dest, same_place}
use Rattle.tta_arch.specs.declared.ends.Dest.TheVariants as dest
use Rattle.tta_list.proofs.Tests.{same_back as eq_sym}

pub same_sym : (a b : Dest) → same_place a b ≡ same_place b a
same_sym (dest.Reg f i) (dest.Reg g j) = rw (eq_sym f g, eq_sym i j) refl
same_sym (dest.Reg f i) (dest.Operand w) = refl
same_sym (dest.Reg f i) (dest.Trigger w q) = refl
same_sym (dest.Reg f i) dest.Jump = refl
same_sym (dest.Reg f i) dest.Call = refl
same_sym (dest.Reg f i) dest.Halt = refl
same_sym (dest.Operand u) (dest.Reg g j) = refl
same_sym (dest.Operand u) (dest.Operand w) = eq_sym u w
same_sym (dest.Operand u) (dest.Trigger w q) = refl
same_sym (dest.Operand u) dest.Jump = refl
same_sym (dest.Operand u) dest.Call = refl
same_sym (dest.Operand u) dest.Halt = refl
same_sym (dest.Trigger u o) (dest.Reg g j) = refl
same_sym (dest.Trigger u o) (dest.Operand w) = refl
same_sym (dest.Trigger u o) (dest.Trigger w q) = eq_sym u w
same_sym (dest.Trigger u o) dest.Jump = refl
same_sym (dest.Trigger u o) dest.Call = refl
same_sym (dest.Trigger u o) dest.Halt = refl
same_sym dest.Jump (dest.Reg g j) = refl
same_sym dest.Jump (dest.Operand w) = refl
same_sym dest.Jump (dest.Trigger w q) = refl
same_sym dest.Jump dest.Jump = refl
same_sym dest.Jump dest.Call = refl
same_sym dest.Jump dest.Halt = refl
same_sym dest.Call (dest.Reg g j) = refl
same_sym dest.Call (dest.Operand w) = refl
same_sym dest.Call (dest.Trigger w q) = refl
same_sym dest.Call dest.Jump = refl
same_sym dest.Call dest.Call = refl
same_sym dest.Call dest.Halt = refl
same_sym dest.Halt (dest.Reg g j) = refl
same_sym dest.Halt (dest.Operand w) = refl
same_sym dest.Halt (dest.Trigger w q) = refl
same_sym dest.Halt dest.Jump = refl
same_sym dest.Halt dest.Call = refl
same_sym dest.Halt dest.Halt = refl
