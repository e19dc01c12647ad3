-- All parts of a divider have bits, and the widths that their places ask for.
use Rattle.std.proofs.Common.{◌≡◌, ℕ, zero, suc, ◌<◌, ◌+◌, ◌*◌, ◌%◌, ◌==◌, Bool, true, false, ◌&&◌, [], ◌∷◌, refl, ap, ◌∙◌, subst, arith}
use Rattle.std.specs.Prelude.{if◌then◌else◌, nat_lt, nat_le, nat_eq}
use Rattle.std.specs.List.{AllByRecursion}
use Rattle.std.proofs.lemmas.Bool.{and_from, lt-ltb}
use Rattle.tta_list.proofs.Lists.{all_append}
use Rattle.tta_divider.specs.Cited.{Expr, Const, Signal, Slice, Join, Select, Not, Below, Minus, is_sized, is_plain, IsWritten, IsWrittenWire, IsWrittenRegister, IsPlain, cut, wire, with_zero, digit_widths}
use Rattle.tta_divider.specs.declared.kind.Kind.{Kind}
use Rattle.tta_divider.specs.declared.kind.Kind.TheVariants.{Quotient, Remainder}
use Rattle.tta_divider.specs.Divider.{Part, Enable, First, Second, Rest, Digits, Divisor, Digit, Shown, part_width, memory_width, made_by, rest_before, digits_before, divisor_before, stage_cut, stage_wires, shown_of, divider}
use Rattle.tta_divider.proofs.Lists.{all_wires, all_registers}

abbrev IsWrittenHere : Expr Part ⊥ → ℕ → Type 0
IsWrittenHere = IsWritten part_width memory_width

-- a signal of so many bits
signal_written : (p : Part) (width : ℕ) → 0 < width → part_width p ≡ width → IsWrittenHere (Signal p) width
signal_written p width some is = record { plain = ap (nat_lt 0) is ∙ lt-ltb 0 width some; sized = refl; wide = is }

-- how many bits the wires of a digit have
record Widths (first : ℕ) : Type 0 where
  more : digit_widths first ≡ 33
  less : digit_widths (first + 1) ≡ 1
  taken : digit_widths (first + 2) ≡ 33
  rest : digit_widths (first + 3) ≡ 32
  digits : digit_widths (first + 4) ≡ 32

-- the width of a wire by its number among those of its digit
abbrev by_five : ℕ → ℕ
by_five k = if nat_eq k 0 then 33 else if nat_eq k 1 then 1 else if nat_eq k 2 then 33 else 32

widths : (j : ℕ) → Widths (5 * j)
widths j = record {
  more = ap by_five (let e : 5 * j % 5 ≡ 0 = omega arith in e);
  less = ap by_five (let e : (5 * j + 1) % 5 ≡ 1 = omega arith in e);
  taken = ap by_five (let e : (5 * j + 2) % 5 ≡ 2 = omega arith in e);
  rest = ap by_five (let e : (5 * j + 3) % 5 ≡ 3 = omega arith in e);
  digits = ap by_five (let e : (5 * j + 4) % 5 ≡ 4 = omega arith in e);
}

-- what is made of the digits of a stage can be said
record Written (stage count first : ℕ) (rest by : Expr Part ⊥) (digits : Part) : Type 0 where
  wires : AllByRecursion (IsWrittenWire part_width memory_width) (cut (Digit stage) count first rest (Signal digits) by).wires
  rest_out : IsWrittenHere (cut (Digit stage) count first rest (Signal digits) by).rest 32
  digits_out : IsWrittenHere (cut (Digit stage) count first rest (Signal digits) by).digits 32

module _ (stage : ℕ) where
  -- the five wires of a digit
  module _ (first : ℕ) (w : Widths first) (rest by : Expr Part ⊥) (digits : Part) (of_rest : IsWrittenHere rest 32)
      (of_by : IsWrittenHere by 32) (of_digits : part_width digits ≡ 32) where
    -- a test of the widths of wires and of what comes in
    more_plain : (is_plain part_width memory_width rest && (nat_lt 0 1 && nat_lt 0 (part_width digits))) ≡ true
    more_plain = and_from _ _ of_rest.plain (ap (λ (n : ℕ). nat_lt 0 1 && nat_lt 0 n) of_digits)

    more_sized : ((1 == 1) && (is_sized part_width memory_width rest && (nat_le (31 + 1) (part_width digits) && true))) ≡ true
    more_sized = and_from (1 == 1) _ refl (and_from _ _ of_rest.sized (ap (λ (n : ℕ). nat_le (31 + 1) n && true) of_digits))

    more_written : IsWrittenHere (Join 1 rest (Slice 31 1 (Signal digits))) 33
    more_written = record { plain = more_plain; sized = more_sized; wide = ap (λ (n : ℕ). n + 1) of_rest.wide }

    by_wide : IsWrittenHere (with_zero by) 33
    by_wide = record {
      plain = of_by.plain;
      sized = and_from _ _ (ap (λ (n : ℕ). n == 32) of_by.wide) of_by.sized;
      wide = refl;
    }

    alike : (part_width (Digit stage first) == 33) ≡ true
    alike = ap (λ (n : ℕ). n == 33) w.more

    less_written : IsWrittenHere (Below (Signal (Digit stage first)) (with_zero by)) 1
    less_written = record {
      plain = and_from _ _ (ap (nat_lt 0) w.more) by_wide.plain;
      sized = and_from _ _ alike by_wide.sized;
      wide = refl;
    }

    taken_written : IsWrittenHere (Minus 33 (Signal (Digit stage first)) (with_zero by)) 33
    taken_written = record {
      plain = and_from _ _ (ap (nat_lt 0) w.more) by_wide.plain;
      sized = and_from _ _ (and_from _ _ alike refl) by_wide.sized;
      wide = refl;
    }

    part_sized : (p : Part) → part_width p ≡ 33 → (nat_le (0 + 32) (part_width p) && true) ≡ true
    part_sized p is = ap (λ (n : ℕ). nat_le (0 + 32) n && true) is

    rest_written : IsWrittenHere
        (Select (Signal (Digit stage (first + 1))) (Slice 0 32 (Signal (Digit stage first)))
        (Slice 0 32 (Signal (Digit stage (first + 2))))) 32
    rest_written = record {
      plain = and_from _ _ (ap (nat_lt 0) w.less)
          (and_from _ _ (ap (λ (n : ℕ). nat_lt 0 32 && nat_lt 0 n) w.more) (ap (λ (n : ℕ). nat_lt 0 32 && nat_lt 0 n) w.taken));
      sized = and_from _ _ (and_from _ _ (ap (λ (n : ℕ). n == 1) w.less) refl)
          (and_from _ _ (part_sized (Digit stage first) w.more) (part_sized (Digit stage (first + 2)) w.taken));
      wide = refl;
    }

    digits_written : IsWrittenHere (Join 1 (Slice 0 31 (Signal digits)) (Not (Signal (Digit stage (first + 1))))) 32
    digits_written = record {
      plain = and_from _ _ (ap (λ (n : ℕ). nat_lt 0 31 && nat_lt 0 n) of_digits) (ap (nat_lt 0) w.less);
      sized = and_from (1 == 1) _ refl
          (and_from _ _ (ap (λ (n : ℕ). nat_le (0 + 31) n && true) of_digits) (ap (λ (n : ℕ). (n == 1) && true) w.less));
      wide = refl;
    }

  digits_said : (count j : ℕ) (rest by : Expr Part ⊥) (digits : Part) → IsWrittenHere rest 32 → IsWrittenHere by 32
      → part_width digits ≡ 32 → Written stage count (5 * j) rest by digits
  unfolding cut
  digits_said zero j rest by digits of_rest of_by of_digits = record {
    wires = tt;
    rest_out = of_rest;
    digits_out = signal_written digits 32 (omega arith) of_digits;
  }
  digits_said (suc n) j rest by digits of_rest of_by of_digits =
      let w = widths j in
      let first : ℕ = 5 * j in
      let next : 5 * (j + 1) ≡ 5 * j + 5 = omega arith in
      let later : Written stage n (5 * j + 5) (Signal (Digit stage (first + 3))) by (Digit stage (first + 4)) =
      subst (λ (k : ℕ). Written stage n k (Signal (Digit stage (first + 3))) by (Digit stage (first + 4))) next
      (digits_said n (j + 1) (Signal (Digit stage (first + 3))) by (Digit stage (first + 4))
      (signal_written (Digit stage (first + 3)) 32 (omega arith) w.rest) of_by w.digits) in
      record {
        wires = (
          record { some = omega arith; wide = w.more; word = more_written first w rest by digits of_rest of_by of_digits },
          (
            record { some = omega arith; wide = w.less; word = less_written first w rest by digits of_rest of_by of_digits },
            (
              record { some = omega arith; wide = w.taken; word = taken_written first w rest by digits of_rest of_by of_digits },
              (
                record { some = omega arith; wide = w.rest; word = rest_written first w rest by digits of_rest of_by of_digits },
                (
                  record { some = omega arith; wide = w.digits; word = digits_written first w rest by digits of_rest of_by of_digits },
                  later.wires,
                ),
              ),
            ),
          ),
        );
        rest_out = later.rest_out;
        digits_out = later.digits_out;
      }

-- what a stage begins with has 32 bits
rest_wide : (stage : ℕ) → IsWrittenHere (rest_before stage) 32
rest_wide stage = by (stage == 0) where
  by : (b : Bool) → IsWrittenHere (if b then Const 32 0 else Signal (Rest stage)) 32
  by true = record { plain = refl; sized = refl; wide = refl }
  by false = record { plain = refl; sized = refl; wide = refl }

digits_wide : (stage : ℕ) → part_width (digits_before stage) ≡ 32
digits_wide stage = by (stage == 0) where
  by : (b : Bool) → part_width (if b then First else Digits stage) ≡ 32
  by true = refl
  by false = refl

divisor_wide : (stage : ℕ) → part_width (divisor_before stage) ≡ 32
divisor_wide stage = by (stage == 0) where
  by : (b : Bool) → part_width (if b then Second else Divisor stage) ≡ 32
  by true = refl
  by false = refl

module _ (stages : ℕ) where
  stage_said : (stage : ℕ)
      → Written stage (made_by stages stage) 0 (rest_before stage) (Signal (divisor_before stage)) (digits_before stage)
  stage_said stage =
      digits_said stage (made_by stages stage) 0 (rest_before stage) (Signal (divisor_before stage)) (digits_before stage)
      (rest_wide stage) (signal_written (divisor_before stage) 32 (omega arith) (divisor_wide stage)) (digits_wide stage)

  shown_said : (kind : Kind) → IsWrittenHere (shown_of kind (stage_cut stages stages)) 32
  shown_said Quotient = (stage_said stages).digits_out
  shown_said Remainder = (stage_said stages).rest_out

  enable_said : IsWrittenHere (Signal Enable) 1
  enable_said = record { plain = refl; sized = refl; wide = refl }

  pub plain : (kind : Kind) → IsPlain part_width memory_width (divider kind stages)
  plain kind = record {
    inputs = ((omega arith, refl), ((omega arith, refl), ((omega arith, refl), tt)));
    wires = all_append (IsWrittenWire part_width memory_width) (stage_wires stages 0 (stages + 1))
        (wire Shown 32 (shown_of kind (stage_cut stages stages)) ∷ [])
        (all_wires stages (IsWrittenWire part_width memory_width) 0 (stages + 1) (λ stage from to. (stage_said stage).wires))
        (record { some = omega arith; wide = refl; word = shown_said kind }, tt);
    registers = all_registers stages (IsWrittenRegister part_width memory_width) 0 stages
        (λ stage from to. (
          record { some = omega arith; wide = refl; enable = enable_said; next = (stage_said stage).rest_out },
          (
            record { some = omega arith; wide = refl; enable = enable_said; next = (stage_said stage).digits_out },
            record {
              some = omega arith;
              wide = refl;
              enable = enable_said;
              next = signal_written (divisor_before stage) 32 (omega arith) (divisor_wide stage);
            },
          ),
        ));
    memories = tt;
  }
