-- A text can say a divider.
use Rattle.std.proofs.Common.{◌≡◌, ℕ, zero, suc, ◌+◌, ◌==◌, Bool, true, false, [], ◌∷◌, refl}
use Rattle.std.specs.Prelude.{if◌then◌else◌}
use Rattle.std.specs.List.{AllByRecursion}
use Rattle.std.proofs.lemmas.Bool.{and_from}
use Rattle.tta_list.proofs.Lists.{all_append}
use Rattle.tta_divider.specs.Cited.{Expr, Const, Signal, cut, wire, applies_nothing}
use Rattle.tta_divider.specs.declared.kind.Kind.{Kind}
use Rattle.tta_divider.specs.declared.kind.Kind.TheVariants.{Quotient, Remainder}
use Rattle.tta_divider.specs.Divider.{Part, Rest, Digit, Shown, made_by, rest_before, digits_before, divisor_before, stage_cut, stage_wires, shown_of, divider}
use Rattle.tta_divider.specs.Laws.{DividerIsSaid}
use Rattle.tta_divider.proofs.Names.{parts_apart}
use Rattle.tta_divider.proofs.Lists.{all_wires}
use Rattle.tta_divider.proofs.Places.{signals_apart}
use Rattle.tta_divider.proofs.Ordered.{wires_ordered}
use Rattle.tta_divider.proofs.Written.{plain}
use Rattle.tta_divider.proofs.Closed.{closed}

record Alone (stage count first : ℕ) (rest digits by : Expr Part ⊥) : Type 0 where
  wires : AllByRecursion (λ w. applies_nothing w.word ≡ true) (cut (Digit stage) count first rest digits by).wires
  rest_out : applies_nothing (cut (Digit stage) count first rest digits by).rest ≡ true
  digits_out : applies_nothing (cut (Digit stage) count first rest digits by).digits ≡ true

digits_alone : (stage count first : ℕ) (rest digits by : Expr Part ⊥) → applies_nothing rest ≡ true → applies_nothing digits ≡ true
    → applies_nothing by ≡ true → Alone stage count first rest digits by
unfolding cut
digits_alone stage zero first rest digits by of_rest of_digits of_by = record { wires = tt; rest_out = of_rest; digits_out = of_digits }
digits_alone stage (suc n) first rest digits by of_rest of_digits of_by =
    let later = digits_alone stage n (first + 5) (Signal (Digit stage (first + 3))) (Signal (Digit stage (first + 4))) by refl refl
    of_by in
    record {
      wires = (and_from _ _ of_rest of_digits, (of_by, (of_by, (refl, (and_from _ _ of_digits refl, later.wires)))));
      rest_out = later.rest_out;
      digits_out = later.digits_out;
    }

stage_alone : (stages stage : ℕ)
    → Alone stage (made_by stages stage) 0 (rest_before stage) (Signal (digits_before stage)) (Signal (divisor_before stage))
stage_alone stages stage =
    digits_alone stage (made_by stages stage) 0 (rest_before stage) (Signal (digits_before stage)) (Signal (divisor_before stage))
    (by (stage == 0)) refl refl
  where
    by : (b : Bool) → applies_nothing {M = ⊥} (if b then Const 32 0 else Signal (Rest stage)) ≡ true
    by true = refl
    by false = refl

shown_alone : (kind : Kind) (stages : ℕ) → applies_nothing (shown_of kind (stage_cut stages stages)) ≡ true
shown_alone Quotient stages = (stage_alone stages stages).digits_out
shown_alone Remainder stages = (stage_alone stages stages).rest_out

alone : (kind : Kind) (stages : ℕ) → AllByRecursion (λ w. applies_nothing w.word ≡ true) (divider kind stages).wires
alone kind stages =
    all_append (λ w. applies_nothing w.word ≡ true) (stage_wires stages 0 (stages + 1))
    (wire Shown 32 (shown_of kind (stage_cut stages stages)) ∷ [])
    (all_wires stages (λ w. applies_nothing w.word ≡ true) 0 (stages + 1) (λ stage from to. (stage_alone stages stage).wires))
    (shown_alone kind stages, tt)

pub divider_is_said : DividerIsSaid
divider_is_said kind stages = record {
  parts = parts_apart;
  apart = signals_apart stages kind;
  order = wires_ordered stages kind;
  closed = closed kind stages;
  plain = plain stages kind;
  alone = alone kind stages;
}
