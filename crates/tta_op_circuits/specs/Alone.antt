-- Expressions that apply no operation of a unit, so that a text of them needs no function.
use Rattle.std.specs.Prelude.{Bool, true, false, ◌&&◌}
use Rattle.tta_op_circuits.specs.Cited.{Expr, Const, Signal, Slice, Join, Select, Not, Both, Either, Equal, Below, Plus, Minus, Times, BitAnd, BitOr, BitXor, Left, Right, Read, Apply}

-- whether no operation of a unit stands in an expression
abbrev pub applies_nothing : {N M : Type 0} → Expr N M → Bool
applies_nothing (Const width word) = true
applies_nothing (Signal n) = true
applies_nothing (Slice low width e) = applies_nothing e
applies_nothing (Join width high low) = applies_nothing high && applies_nothing low
applies_nothing (Select test on off) = applies_nothing test && (applies_nothing on && applies_nothing off)
applies_nothing (Not e) = applies_nothing e
applies_nothing (Both a b) = applies_nothing a && applies_nothing b
applies_nothing (Either a b) = applies_nothing a && applies_nothing b
applies_nothing (Equal a b) = applies_nothing a && applies_nothing b
applies_nothing (Below a b) = applies_nothing a && applies_nothing b
applies_nothing (Plus width a b) = applies_nothing a && applies_nothing b
applies_nothing (Minus width a b) = applies_nothing a && applies_nothing b
applies_nothing (Times width a b) = applies_nothing a && applies_nothing b
applies_nothing (BitAnd a b) = applies_nothing a && applies_nothing b
applies_nothing (BitOr a b) = applies_nothing a && applies_nothing b
applies_nothing (BitXor a b) = applies_nothing a && applies_nothing b
applies_nothing (Left width a by) = applies_nothing a && applies_nothing by
applies_nothing (Right a by) = applies_nothing a && applies_nothing by
applies_nothing (Read m address) = applies_nothing address
applies_nothing (Apply op a b) = false
