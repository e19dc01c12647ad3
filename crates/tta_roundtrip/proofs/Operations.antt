-- A step with an operation is read as it was printed.
use Rattle.std.proofs.Common.{◌≡◌, ℕ, ◌==◌, Bool, true, false, [], ◌∷◌, get_or, refl, sym, ap, ◌∙◌, arith, ◌⊎◌, inl, inr}
use Rattle.std.specs.Prelude.{Option, Some, None, not, ◌&&◌, ◌||◌, slice_get}
use Rattle.std.specs.Option.{option_map_or}
use Rattle.std.proofs.lemmas.Bool.{eqb-true, not-true}
use Rattle.std.proofs.lemmas.Option.{slice_get_within, get_or_from_slice_get}
use Rattle.tta_list.proofs.Tests.{and_left, and_right}
use Rattle.tta_list.proofs.Lists.{list_all_one}
use Rattle.tta_roundtrip.specs.Cited.{is_reserved, Units, OpId, Src, Var, Word, Apply, is_over, is_zero}
use Rattle.tta_ifconv.proofs.Lists.{stands_within}
use Rattle.tta_pretty.specs.Printed.{word, op_name, operand_words, step_line}
use Rattle.tta_roundtrip.proofs.Forms.{IsShort, Reads, assign_read, one_read, two_read}
use Rattle.tta_roundtrip.proofs.Said.{step_said}

-- an operation that a step names
pub record IsOperation (u : Units) (op : OpId) (a b : Src) : Type 0 where
  pub arity : ℕ
  pub there : slice_get u.arities op.0 ≡ Some arity
  pub fits : (arity ≡ 2) ⊎ ((arity ≡ 1) × (a ≡ Word 0))
  pub free : is_reserved (op_name u op) ≡ false

zero_is : (s : Src) → is_zero s ≡ true → s ≡ Word 0
zero_is (Var x) e = absurd cc
zero_is (Word w) e = ap Word (eqb-true w 0 e)

pub operation_of : (u : Units) (d : ℕ) (op : OpId) (a b : Src) → is_over u (Apply d op a b) ≡ true → IsOperation u op a b
operation_of u d op a b over = by (slice_get u.arities op.0) refl over where
  by : (o : Option ℕ) → slice_get u.arities op.0 ≡ o → option_map_or (λ n. n == 2 || n == 1 && is_zero a) o false ≡ true → IsOperation u op a b
  by None there over = absurd cc
  by (Some n) there over =
      let small = slice_get_within u.arities op.0 n there in
      let name = stands_within u.names op.0 (omega (arith, u.paired)) in
      record {
        arity = n;
        there = there;
        fits = two (n == 2) refl over;
        free = ap is_reserved (get_or_from_slice_get u.names op.0 name.item [] name.there) ∙ not-true (is_reserved name.item) (list_all_one (λ x. not (is_reserved x)) u.names op.0 name.item u.reserved name.there);
      }
    where
      two : (c : Bool) → (n == 2) ≡ c → (n == 2 || n == 1 && is_zero a) ≡ true → (n ≡ 2) ⊎ ((n ≡ 1) × (a ≡ Word 0))
      two true e over = inl (eqb-true n 2 e)
      two false e over =
          let rest : (n == 1 && is_zero a) ≡ true = sym (ap (λ c. c || n == 1 && is_zero a) e) ∙ over in
          inr (eqb-true n 1 (and_left (n == 1) (is_zero a) rest), zero_is a (and_right (n == 1) (is_zero a) rest))

pub apply_read : (u : Units) (main d : ℕ) (op : OpId) (a b : Src) → IsOperation u op a b → IsShort a → IsShort b → Reads (step_line u main (Apply d op a b)) (step_said u main (Apply d op a b))
apply_read u main d op a b o sa sb = by o.fits where
  arity : get_or u.arities op.0 0 ≡ o.arity
  arity = get_or_from_slice_get u.arities op.0 o.arity 0 o.there

  there : (n : ℕ) → o.arity ≡ n → (get_or u.arities op.0 0 == 2) ≡ (n == 2)
  there n e = ap (λ k. k == 2) (arity ∙ e)

  by : (o.arity ≡ 2) ⊎ ((o.arity ≡ 1) × (a ≡ Word 0)) → Reads (step_line u main (Apply d op a b)) (step_said u main (Apply d op a b))
  by (inl e) =
      assign_read d (word (op_name u op) ∷ operand_words (get_or u.arities op.0 0) a b) (step_said u main (Apply d op a b))
      (rw (there 2 e) (two_read d (op_name u op) a b o.free sa sb))
  by (inr e) =
      assign_read d (word (op_name u op) ∷ operand_words (get_or u.arities op.0 0) a b) (step_said u main (Apply d op a b))
      (rw (there 1 e.0) (one_read d (op_name u op) b o.free sb))
