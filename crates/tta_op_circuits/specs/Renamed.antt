-- A circuit with other names.
use Rattle.std.specs.Prelude.{List, map}
use Rattle.tta_op_circuits.specs.Cited.{Expr, Const, Signal, Slice, Join, Select, Not, Both, Either, Equal, Below, Plus, Minus, Times, BitAnd, BitOr, BitXor, Left, Right, Read, Apply, Wire}

module _ {N M N' M' : Type 0} (f : N → N') (g : M → M') where
  -- an expression with other names
  abbrev pub renamed : Expr N M → Expr N' M'
  renamed (Const width word) = Const width word
  renamed (Signal n) = Signal (f n)
  renamed (Slice low width e) = Slice low width (renamed e)
  renamed (Join width high low) = Join width (renamed high) (renamed low)
  renamed (Select test on off) = Select (renamed test) (renamed on) (renamed off)
  renamed (Not e) = Not (renamed e)
  renamed (Both a b) = Both (renamed a) (renamed b)
  renamed (Either a b) = Either (renamed a) (renamed b)
  renamed (Equal a b) = Equal (renamed a) (renamed b)
  renamed (Below a b) = Below (renamed a) (renamed b)
  renamed (Plus width a b) = Plus width (renamed a) (renamed b)
  renamed (Minus width a b) = Minus width (renamed a) (renamed b)
  renamed (Times width a b) = Times width (renamed a) (renamed b)
  renamed (BitAnd a b) = BitAnd (renamed a) (renamed b)
  renamed (BitOr a b) = BitOr (renamed a) (renamed b)
  renamed (BitXor a b) = BitXor (renamed a) (renamed b)
  renamed (Left width a by) = Left width (renamed a) (renamed by)
  renamed (Right a by) = Right (renamed a) (renamed by)
  renamed (Read m address) = Read (g m) (renamed address)
  renamed (Apply op a b) = Apply op (renamed a) (renamed b)

  -- wires with other names
  abbrev pub wires_renamed : List (Wire N M) → List (Wire N' M')
  wires_renamed ws = map (λ w. record { name = f w.name; width = w.width; word = renamed w.word }) ws
