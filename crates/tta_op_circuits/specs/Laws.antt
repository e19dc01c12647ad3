-- What circuits of operations are worth.
use Rattle.std.specs.Prelude.{◌≡◌, ℕ, ◌<◌, ◌≤◌, ◌+◌, ◌^◌, List}
use Rattle.tta_op_circuits.specs.Cited.{Units, arith, divide, logic, shift, compare, Expr, value, settle, Solves}
use Rattle.tta_op_circuits.specs.Division.{Partial, begun, with_digits}
use Rattle.tta_op_circuits.specs.Dividing.{cut}
use Rattle.tta_op_circuits.specs.Worked.{Port, First, Second, Worked, Makes, same_port}
use Rattle.tta_op_circuits.specs.Renamed.{renamed, wires_renamed}
use Rattle.tta_op_circuits.specs.Operations.{arith_circuit, divide_circuit, logic_circuit, shift_circuit, compare_circuit}

-- a division that is done
abbrev pub divided : (a b : ℕ) → Partial
divided a b = record { rest = (divide 1).value a b; digits = (divide 0).value a b }

-- a division that is finished from any number of its digits on
abbrev pub DividesInSteps : Type 0
DividesInSteps =
    (a b : ℕ) → a < 2 ^ 32 → (k left : ℕ) → k + left ≡ 32 → with_digits left b (with_digits k b (begun a)) ≡ divided a b

-- the division that two expressions hold
abbrev pub held : {N M : Type 0} → Units → (M → List ℕ) → (N → ℕ) → (rest digits : Expr N M) → Partial
held u ms env rest digits = record { rest = value u ms env rest; digits = value u ms env digits }

-- A stage of a division, at wires that have the words of their expressions: where what comes in is the division of a by b of
-- which k digits are done, what goes out is that of which so many more are.
abbrev pub StageDivides : (N M : Type 0) → Type 0
StageDivides N M =
    (u : Units) (ms : M → List ℕ) (env : N → ℕ) (inner : ℕ → N) (a b k count first : ℕ) (rest digits by : Expr N M)
    → a < 2 ^ 32 → b < 2 ^ 32 → k + count ≤ 32 → value u ms env by ≡ b → held u ms env rest digits ≡ with_digits k b (begun a)
    → Solves u ms env (cut inner count first rest digits by).wires
    → held u ms env (cut inner count first rest digits by).rest (cut inner count first rest digits by).digits
    ≡ with_digits (count + k) b (begun a)

-- the operations of the standard units are made by their circuits
pub record AreMade : Type 0 where
  pub sums : (i : ℕ) → Makes (arith_circuit i) (arith i).value
  pub divisions : (i : ℕ) → Makes (divide_circuit i) (divide i).value
  pub bits : (i : ℕ) → Makes (logic_circuit i) (logic i).value
  pub shifts : (i : ℕ) → Makes (shift_circuit i) (shift i).value
  pub comparisons : (i : ℕ) → Makes (compare_circuit i) (compare i).value

-- A circuit of an operation makes it under any names, among the wires of any other circuit.
abbrev pub MakesAnywhere : (N M : Type 0) → Type 0
MakesAnywhere N M =
    (w : Worked) (op : ℕ → ℕ → ℕ) → Makes w op → (f : Port → N) (g : ⊥ → M) (u : Units) (ms : M → List ℕ) (env : N → ℕ)
    → env (f First) < 2 ^ 32 → env (f Second) < 2 ^ 32 → Solves u ms env (wires_renamed f g w.wires)
    → value u ms env (renamed f g w.word) ≡ op (env (f First)) (env (f Second))

-- Its wires settle, one after another, and then its word is that of the operation.
abbrev pub SettlesTo : Type 0
SettlesTo =
    (w : Worked) (op : ℕ → ℕ → ℕ) → Makes w op → (u : Units) (ms : ⊥ → List ℕ) (env : Port → ℕ) → env First < 2 ^ 32
    → env Second < 2 ^ 32
    → value u ms (settle same_port u ms env w.wires) w.word ≡ op (env First) (env Second)
