-- The operations of the standard units as circuits.
use Rattle.std.specs.Prelude.{ℕ, ◌+◌, ◌-◌, ◌/◌, ◌%◌, ◌^◌, [], ◌∷◌, if◌then◌else◌, nat_eq}
use Rattle.tta_op_circuits.specs.Cited.{Expr, Const, Signal, Slice, Join, Select, Not, Equal, Below, Plus, Minus, Times, BitAnd, BitOr, BitXor, Left, Right}
use Rattle.tta_op_circuits.specs.Worked.{Port, First, Second, Inner, Worked, plain}
use Rattle.tta_op_circuits.specs.Dividing.{Cut, wire}
use Rattle.tta_op_circuits.specs.Narrow.{narrow_cut}

-- the first word
abbrev pub a : Expr Port ⊥
a = Signal First

-- the second word
abbrev pub b : Expr Port ⊥
b = Signal Second

-- the word of a test
abbrev pub as_word : Expr Port ⊥ → Expr Port ⊥
as_word test = Join 1 (Const 31 0) test

-- a word as one of 64 bits
abbrev pub long : Expr Port ⊥ → Expr Port ⊥
long e = Join 32 (Const 32 0) e

-- the top bit of a word
abbrev pub sign : Expr Port ⊥ → Expr Port ⊥
sign e = Slice 31 1 e

-- a word whose top bit is turned: the order of such words is that of signed numbers
abbrev pub lifted_word : Expr Port ⊥ → Expr Port ⊥
lifted_word e = Join 31 (Not (sign e)) (Slice 0 31 e)

-- 32 bits alike
abbrev pub filled : Expr Port ⊥ → Expr Port ⊥
filled test = Select test (Const 32 (2 ^ 32 - 1)) (Const 32 0)

-- by how many bits the second word shifts
abbrev pub amount : Expr Port ⊥
amount = Slice 0 5 b

-- a circuit with one wire of its own
abbrev pub with_wire : (width : ℕ) → (inner word : Expr Port ⊥) → Worked
with_wire width inner word = record { widths = λ k. width; wires = wire (Inner 0) width inner ∷ []; word = word }

-- how many bits the wires of a division have of which each rest has 32
abbrev pub digit_widths : ℕ → ℕ
digit_widths k = if nat_eq (k % 5) 0 then 33 else if nat_eq (k % 5) 1 then 1 else if nat_eq (k % 5) 2 then 33 else 32

-- how many they have where no rest has more than it needs
abbrev pub narrow_widths : ℕ → ℕ
narrow_widths k = if nat_eq (k % 5) 1 then 1 else if nat_eq (k % 5) 4 then 32 else k / 5 + 1

-- a division in one clock
abbrev pub division : Cut Port ⊥
division = narrow_cut Inner 32 0 0 (Const 32 0) a b

-- sums and products
abbrev pub arith_circuit : ℕ → Worked
arith_circuit i =
    if nat_eq i 0 then plain (Plus 32 a b)
    else if nat_eq i 1 then plain (Minus 32 a b)
    else if nat_eq i 2 then plain (Times 32 a b)
    else if nat_eq i 3 then with_wire 64 (Times 64 (long a) (long b)) (Slice 32 32 (Signal (Inner 0)))
    else if nat_eq i 4 then plain (Minus 32 (Const 32 0) b)
    else plain (Const 32 0)

-- quotients and remainders
abbrev pub divide_circuit : ℕ → Worked
divide_circuit i =
    if nat_eq i 0 then record { widths = narrow_widths; wires = division.wires; word = division.digits }
    else if nat_eq i 1 then record { widths = narrow_widths; wires = division.wires; word = division.rest }
    else plain (Const 32 0)

-- bit by bit
abbrev pub logic_circuit : ℕ → Worked
logic_circuit i =
    if nat_eq i 0 then plain (BitAnd a b)
    else if nat_eq i 1 then plain (BitOr a b)
    else if nat_eq i 2 then plain (BitXor a b)
    else if nat_eq i 3 then plain (BitXor b (Const 32 (2 ^ 32 - 1)))
    else plain (Const 32 0)

-- shifts
abbrev pub shift_circuit : ℕ → Worked
shift_circuit i =
    if nat_eq i 0 then plain (Left 32 a amount)
    else if nat_eq i 1 then with_wire 64 (Right (Join 32 (filled (sign a)) a) amount) (Slice 0 32 (Signal (Inner 0)))
    else if nat_eq i 2 then plain (Right a amount)
    else plain (Const 32 0)

-- comparisons
abbrev pub compare_circuit : ℕ → Worked
compare_circuit i =
    if nat_eq i 0 then plain (as_word (Equal a b))
    else if nat_eq i 1 then plain (as_word (Not (Equal a b)))
    else if nat_eq i 2 then plain (as_word (Below (lifted_word a) (lifted_word b)))
    else if nat_eq i 3 then plain (as_word (Below (lifted_word b) (lifted_word a)))
    else if nat_eq i 4 then plain (as_word (Below a b))
    else if nat_eq i 5 then plain (as_word (Below b a))
    else plain (Const 32 0)
