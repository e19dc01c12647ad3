-- The functions of the standard operations are the text of circuits that make them.
use Rattle.std.proofs.Common.{◌<◌, ℕ, zero, suc, refl, arith}
use Rattle.std.specs.Fmt.{digits}
use Rattle.tta_rtl.specs.Cited.{part, between, choice, constant, joined, narrow_cut, range, arith as sums, arith_circuit, compare, compare_circuit, divide, divide_circuit, logic, logic_circuit, shift, shift_circuit}
use Rattle.tta_verilog.specs.Expressions.{negated}
use Rattle.tta_op_circuits.proofs.Operations.{are_made}
use Rattle.tta_rtl.specs.Variables.{variable, declaration, assignment}
use Rattle.tta_rtl.specs.Operations.{FunctionsAreCircuits, IsTextOfCircuit}

of_sums : (i : ℕ) → i < 5 → IsTextOfCircuit (sums i) (arith_circuit i)
unfolding digits range constant part between negated choice joined variable declaration assignment
of_sums zero few = record { makes = are_made.sums 0; text = λ op. refl }
of_sums (suc zero) few = record { makes = are_made.sums 1; text = λ op. refl }
of_sums (suc (suc zero)) few = record { makes = are_made.sums 2; text = λ op. refl }
of_sums (suc (suc (suc zero))) few = record { makes = are_made.sums 3; text = λ op. refl }
of_sums (suc (suc (suc (suc zero)))) few = record { makes = are_made.sums 4; text = λ op. refl }
of_sums (suc (suc (suc (suc (suc i))))) few = absurd (omega (arith, few))

of_divisions : (i : ℕ) → i < 2 → IsTextOfCircuit (divide i) (divide_circuit i)
unfolding digits variable narrow_cut
of_divisions zero few = record { makes = are_made.divisions 0; text = λ op. refl }
of_divisions (suc zero) few = record { makes = are_made.divisions 1; text = λ op. refl }
of_divisions (suc (suc i)) few = absurd (omega (arith, few))

of_bits : (i : ℕ) → i < 4 → IsTextOfCircuit (logic i) (logic_circuit i)
unfolding digits range constant part between negated choice joined
of_bits zero few = record { makes = are_made.bits 0; text = λ op. refl }
of_bits (suc zero) few = record { makes = are_made.bits 1; text = λ op. refl }
of_bits (suc (suc zero)) few = record { makes = are_made.bits 2; text = λ op. refl }
of_bits (suc (suc (suc zero))) few = record { makes = are_made.bits 3; text = λ op. refl }
of_bits (suc (suc (suc (suc i)))) few = absurd (omega (arith, few))

of_shifts : (i : ℕ) → i < 3 → IsTextOfCircuit (shift i) (shift_circuit i)
unfolding digits range constant part between negated choice joined variable declaration assignment
of_shifts zero few = record { makes = are_made.shifts 0; text = λ op. refl }
of_shifts (suc zero) few = record { makes = are_made.shifts 1; text = λ op. refl }
of_shifts (suc (suc zero)) few = record { makes = are_made.shifts 2; text = λ op. refl }
of_shifts (suc (suc (suc i))) few = absurd (omega (arith, few))

of_comparisons : (i : ℕ) → i < 6 → IsTextOfCircuit (compare i) (compare_circuit i)
unfolding digits range constant part between negated choice joined
of_comparisons zero few = record { makes = are_made.comparisons 0; text = λ op. refl }
of_comparisons (suc zero) few = record { makes = are_made.comparisons 1; text = λ op. refl }
of_comparisons (suc (suc zero)) few = record { makes = are_made.comparisons 2; text = λ op. refl }
of_comparisons (suc (suc (suc zero))) few = record { makes = are_made.comparisons 3; text = λ op. refl }
of_comparisons (suc (suc (suc (suc zero)))) few = record { makes = are_made.comparisons 4; text = λ op. refl }
of_comparisons (suc (suc (suc (suc (suc zero))))) few = record { makes = are_made.comparisons 5; text = λ op. refl }
of_comparisons (suc (suc (suc (suc (suc (suc i)))))) few = absurd (omega (arith, few))

pub functions_are_circuits : FunctionsAreCircuits
functions_are_circuits =
    record { sums = of_sums; divisions = of_divisions; bits = of_bits; shifts = of_shifts; comparisons = of_comparisons }
