-- The functions of the standard operations are the text of circuits that make them.
use Rattle.std.specs.Prelude.{◌≡◌, ◌<◌, ℕ}
use Rattle.tta_rtl.specs.Cited.{Operation, Worked, Makes, arith, arith_circuit, compare, compare_circuit, divide, divide_circuit, logic, logic_circuit, shift, shift_circuit}
use Rattle.tta_rtl.specs.Functions.{circuit_text, operation_text}

-- The function of an operation is the text of a circuit that makes the operation, whatever its number.
pub record IsTextOfCircuit (o : Operation) (w : Worked) : Type 0 where
  pub makes : Makes w o.value
  pub text : (op : ℕ) → operation_text op o.name ≡ circuit_text op o.name w

-- So it is of all operations of the standard units.
pub record FunctionsAreCircuits : Type 0 where
  pub sums : (i : ℕ) → i < 5 → IsTextOfCircuit (arith i) (arith_circuit i)
  pub divisions : (i : ℕ) → i < 2 → IsTextOfCircuit (divide i) (divide_circuit i)
  pub bits : (i : ℕ) → i < 4 → IsTextOfCircuit (logic i) (logic_circuit i)
  pub shifts : (i : ℕ) → i < 3 → IsTextOfCircuit (shift i) (shift_circuit i)
  pub comparisons : (i : ℕ) → i < 6 → IsTextOfCircuit (compare i) (compare_circuit i)
