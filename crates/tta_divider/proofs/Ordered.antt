-- The wires of a divider stand in order.
use Rattle.std.proofs.Common.{◌≡◌, ℕ, zero, suc, ◌≤◌, ◌+◌, ◌*◌, ◌==◌, Bool, true, false, [], ◌∷◌, refl, arith}
use Rattle.std.specs.Prelude.{if◌then◌else◌, nat_lt}
use Rattle.std.specs.List.{AllByRecursion}
use Rattle.std.proofs.lemmas.Bool.{and_from, lt-ltb}
use Rattle.tta_list.proofs.Lists.{all_append}
use Rattle.tta_divider.specs.Cited.{Expr, Const, Signal, Wire, reads_below, is_ordered, cut, wire}
use Rattle.tta_divider.specs.declared.kind.Kind.{Kind}
use Rattle.tta_divider.specs.declared.kind.Kind.TheVariants.{Quotient, Remainder}
use Rattle.tta_divider.specs.Divider.{Part, First, Second, Rest, Digits, Divisor, Digit, Shown, made_by, rest_before, digits_before, divisor_before, stage_cut, stage_wires, shown_of, divider, rank}
use Rattle.tta_divider.proofs.Rising.{in_order}
use Rattle.tta_divider.proofs.Counts.{at_most}
use Rattle.tta_divider.proofs.Lists.{all_wires}
use Rattle.tta_divider.proofs.Places.{wires_rise}

module _ (stages : ℕ) where
  -- a wire reads only what stands before it
  abbrev pub ReadsBefore : Wire Part ⊥ → Type 0
  ReadsBefore w = reads_below (rank stages) (rank stages w.name) w.word ≡ true

  -- an expression that may be read from a place on
  abbrev From : ℕ → Expr Part ⊥ → Type 0
  From least e = (k : ℕ) → least ≤ k → reads_below (rank stages) k e ≡ true

  of_digit : (stage number : ℕ) → From (160 * stage + number + 2) (Signal (Digit stage number))
  of_digit stage number k more = lt-ltb (160 * stage + number + 1) k (omega (arith, more))

  -- what is made of the digits of a stage: its wires read before them, and what goes out may be read behind them
  record Reads (stage count first : ℕ) (rest digits by : Expr Part ⊥) : Type 0 where
    wires : AllByRecursion ReadsBefore (cut (Digit stage) count first rest digits by).wires
    rest_out : From (160 * stage + first + 5 * count + 1) (cut (Digit stage) count first rest digits by).rest
    digits_out : From (160 * stage + first + 5 * count + 1) (cut (Digit stage) count first rest digits by).digits

  digits_read : (stage count first : ℕ) (rest digits by : Expr Part ⊥) → From (160 * stage + first + 1) rest
      → From (160 * stage + first + 1) digits → From (160 * stage + first + 1) by → Reads stage count first rest digits by
  unfolding cut
  digits_read stage zero first rest digits by of_rest of_digits of_by = record {
    wires = tt;
    rest_out = λ k more. of_rest k (omega (arith, more));
    digits_out = λ k more. of_digits k (omega (arith, more));
  }
  digits_read stage (suc n) first rest digits by of_rest of_digits of_by =
      let one : From (160 * stage + (first + 5) + 1) (Signal (Digit stage (first + 3))) =
      λ k more. of_digit stage (first + 3) k (omega (arith, more)) in
      let other : From (160 * stage + (first + 5) + 1) (Signal (Digit stage (first + 4))) =
      λ k more. of_digit stage (first + 4) k (omega (arith, more)) in
      let later = digits_read stage n (first + 5) (Signal (Digit stage (first + 3))) (Signal (Digit stage (first + 4))) by one other
      (λ k more. of_by k (omega (arith, more))) in
      record {
        wires = (
          and_from _ _ (of_rest (160 * stage + first + 1) (omega arith)) (of_digits (160 * stage + first + 1) (omega arith)),
          (
            and_from _ _ (of_digit stage first (160 * stage + (first + 1) + 1) (omega arith))
                (of_by (160 * stage + (first + 1) + 1) (omega arith)),
            (
              and_from _ _ (of_digit stage first (160 * stage + (first + 2) + 1) (omega arith))
                  (of_by (160 * stage + (first + 2) + 1) (omega arith)),
              (
                and_from _ _ (of_digit stage (first + 1) (160 * stage + (first + 3) + 1) (omega arith))
                    (and_from _ _ (of_digit stage first (160 * stage + (first + 3) + 1) (omega arith))
                    (of_digit stage (first + 2) (160 * stage + (first + 3) + 1) (omega arith))),
                (
                  and_from _ _ (of_digits (160 * stage + (first + 4) + 1) (omega arith))
                      (of_digit stage (first + 1) (160 * stage + (first + 4) + 1) (omega arith)),
                  later.wires,
                ),
              ),
            ),
          ),
        );
        rest_out = λ k more. later.rest_out k (omega (arith, more));
        digits_out = λ k more. later.digits_out k (omega (arith, more));
      }

  -- what a stage begins with is no wire
  rest_first : (stage : ℕ) → From 1 (rest_before stage)
  rest_first stage k more = by (stage == 0) where
    by : (b : Bool) → reads_below {M = ⊥} (rank stages) k (if b then Const 32 0 else Signal (Rest stage)) ≡ true
    by true = refl
    by false = lt-ltb 0 k (omega (arith, more))

  digits_first : (stage : ℕ) → From 1 (Signal (digits_before stage))
  digits_first stage k more = by (stage == 0) where
    by : (b : Bool) → nat_lt (rank stages (if b then First else Digits stage)) k ≡ true
    by true = lt-ltb 0 k (omega (arith, more))
    by false = lt-ltb 0 k (omega (arith, more))

  divisor_first : (stage : ℕ) → From 1 (Signal (divisor_before stage))
  divisor_first stage k more = by (stage == 0) where
    by : (b : Bool) → nat_lt (rank stages (if b then Second else Divisor stage)) k ≡ true
    by true = lt-ltb 0 k (omega (arith, more))
    by false = lt-ltb 0 k (omega (arith, more))

  stage_reads : (stage : ℕ) → Reads stage (made_by stages stage) 0 (rest_before stage) (Signal (digits_before stage))
      (Signal (divisor_before stage))
  stage_reads stage =
      digits_read stage (made_by stages stage) 0 (rest_before stage) (Signal (digits_before stage)) (Signal (divisor_before stage))
      (λ k more. rest_first stage k (omega (arith, more))) (λ k more. digits_first stage k (omega (arith, more)))
      (λ k more. divisor_first stage k (omega (arith, more)))

  shown_reads : (kind : Kind)
      → reads_below (rank stages) (160 * (stages + 1) + 1) (shown_of kind (stage_cut stages stages)) ≡ true
  shown_reads Quotient = (stage_reads stages).digits_out (160 * (stages + 1) + 1) (omega (arith, at_most stages stages (omega arith)))
  shown_reads Remainder = (stage_reads stages).rest_out (160 * (stages + 1) + 1) (omega (arith, at_most stages stages (omega arith)))

  pub wires_ordered : (kind : Kind) → is_ordered (rank stages) 1 (divider kind stages).wires ≡ true
  wires_ordered kind =
      in_order (rank stages) 2 1 (160 * (stages + 1) + 4) (divider kind stages).wires
      (wires_rise stages (λ p. rank stages p + 2) 2 (λ stage number. refl) refl kind)
      (all_append ReadsBefore (stage_wires stages 0 (stages + 1)) (wire Shown 32 (shown_of kind (stage_cut stages stages)) ∷ [])
      (all_wires stages ReadsBefore 0 (stages + 1) (λ stage from to. (stage_reads stage).wires)) (shown_reads kind, tt))
