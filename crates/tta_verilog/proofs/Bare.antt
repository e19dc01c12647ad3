-- Expressions without the widths that a text does not tell, and how many steps it takes to read them.
use Rattle.std.proofs.Common.{ℕ, suc, ◌<◌, ◌+◌, arith}
use Rattle.tta_circuit.specs.Circuit.{Expr, Const, Signal, Slice, Join, Select, Not, Both, Either, Equal, Below, Plus, Minus, Times, BitAnd, BitOr, BitXor, Left, Right, Read, Apply}

-- an expression without the widths that are those of its parts
abbrev pub bare : {N M : Type 0} → Expr N M → Expr N M
bare (Const w n) = Const w n
bare (Signal n) = Signal n
bare (Slice low w e) = Slice low w (bare e)
bare (Join w high low) = Join 0 (bare high) (bare low)
bare (Select test on off) = Select (bare test) (bare on) (bare off)
bare (Not e) = Not (bare e)
bare (Both a b) = Both (bare a) (bare b)
bare (Either a b) = Either (bare a) (bare b)
bare (Equal a b) = Equal (bare a) (bare b)
bare (Below a b) = Below (bare a) (bare b)
bare (Plus w a b) = Plus 0 (bare a) (bare b)
bare (Minus w a b) = Minus 0 (bare a) (bare b)
bare (Times w a b) = Times 0 (bare a) (bare b)
bare (BitAnd a b) = BitAnd (bare a) (bare b)
bare (BitOr a b) = BitOr (bare a) (bare b)
bare (BitXor a b) = BitXor (bare a) (bare b)
bare (Left w a by) = Left 0 (bare a) (bare by)
bare (Right a by) = Right (bare a) (bare by)
bare (Read m address) = Read m (bare address)
bare (Apply op a b) = Apply op (bare a) (bare b)

-- how many steps an expression takes
unfoldable pub size : {N M : Type 0} → Expr N M → ℕ
size (Const w n) = 1
size (Signal n) = 1
size (Slice low w e) = suc (size e)
size (Join w high low) = suc (size high + size low)
size (Select test on off) = suc (size test + (size on + size off))
size (Not e) = suc (size e)
size (Both a b) = suc (size a + size b)
size (Either a b) = suc (size a + size b)
size (Equal a b) = suc (size a + size b)
size (Below a b) = suc (size a + size b)
size (Plus w a b) = suc (size a + size b)
size (Minus w a b) = suc (size a + size b)
size (Times w a b) = suc (size a + size b)
size (BitAnd a b) = suc (size a + size b)
size (BitOr a b) = suc (size a + size b)
size (BitXor a b) = suc (size a + size b)
size (Left w a b) = suc (size a + size b)
size (Right a b) = suc (size a + size b)
size (Read m e) = suc (size e)
size (Apply op a b) = suc (size a + size b)

pub some_steps : {N M : Type 0} (e : Expr N M) → 0 < size e
unfolding size
some_steps (Const w n) = omega arith
some_steps e = omega arith
