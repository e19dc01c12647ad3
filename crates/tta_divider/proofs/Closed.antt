-- A divider reads only signals that it has.
use Rattle.std.proofs.Common.{◌≡◌, ℕ, zero, suc, ◌<◌, ◌≤◌, ◌+◌, ◌-◌, ◌==◌, Bool, true, false, ◌||◌, List, [], ◌∷◌, refl, subst, arith}
use Rattle.std.specs.Prelude.{if◌then◌else◌}
use Rattle.std.specs.List.{list_any, AllByRecursion}
use Rattle.std.proofs.lemmas.Bool.{and_from, or_left, or_right, eqb-false}
use Rattle.tta_list.proofs.Lists.{all_append, all_weaker}
use Rattle.tta_divider.specs.Cited.{Expr, Const, Signal, Wire, Register, reads_only, has_signal, IsClosed, cut, wire}
use Rattle.tta_circuit.proofs.Closed.{reads_one}
use Rattle.tta_divider.specs.declared.kind.Kind.{Kind}
use Rattle.tta_divider.specs.declared.kind.Kind.TheVariants.{Quotient, Remainder}
use Rattle.tta_divider.specs.Divider.{Part, First, Second, Rest, Digits, Divisor, Digit, Shown, same_part, made_by, rest_before, digits_before, divisor_before, stage_cut, stage_wires, shown_of, divider}
use Rattle.tta_divider.proofs.Names.{parts_apart}
use Rattle.tta_divider.proofs.Lists.{both, wires_of, all_wires, registers_of, all_registers}

module _ (has : Part → Bool) (stage : ℕ) where
  -- an expression reads only what there is
  abbrev Reads : Expr Part ⊥ → Type 0
  Reads e = reads_only has e ≡ true

  record Closed (count first : ℕ) (rest digits by : Expr Part ⊥) : Type 0 where
    wires : AllByRecursion (λ w. Reads w.word) (cut (Digit stage) count first rest digits by).wires
    rest_out : Reads (cut (Digit stage) count first rest digits by).rest
    digits_out : Reads (cut (Digit stage) count first rest digits by).digits

  digits_closed : (count first : ℕ) (rest digits by : Expr Part ⊥) → Reads rest → Reads digits → Reads by
      → AllByRecursion (λ w. has w.name ≡ true) (cut (Digit stage) count first rest digits by).wires → Closed count first rest digits by
  unfolding cut
  digits_closed zero first rest digits by of_rest of_digits of_by there = record { wires = tt; rest_out = of_rest; digits_out = of_digits }
  digits_closed (suc n) first rest digits by of_rest of_digits of_by there =
      let more = reads_one has (Digit stage first) there.0 in
      let less = reads_one has (Digit stage (first + 1)) there.1.0 in
      let taken = reads_one has (Digit stage (first + 2)) there.1.1.0 in
      let later = digits_closed n (first + 5) (Signal (Digit stage (first + 3))) (Signal (Digit stage (first + 4))) by
      (reads_one has (Digit stage (first + 3)) there.1.1.1.0) (reads_one has (Digit stage (first + 4)) there.1.1.1.1.0) of_by
      there.1.1.1.1.1 in
      record {
        wires = (
          and_from _ _ of_rest of_digits,
          (
            and_from _ _ more of_by,
            (and_from _ _ more of_by, (and_from _ _ less (and_from _ _ more taken), (and_from _ _ of_digits less, later.wires))),
          ),
        );
        rest_out = later.rest_out;
        digits_out = later.digits_out;
      }

-- each of some has a name that one of them has
wires_there : (ws : List (Wire Part ⊥)) → AllByRecursion (λ w. list_any (λ x. same_part x.name w.name) ws ≡ true) ws
wires_there [] = tt
wires_there (w ∷ ws) = (
  or_left (same_part w.name w.name) (list_any (λ x. same_part x.name w.name) ws) (parts_apart.itself w.name),
  all_weaker (λ v. list_any (λ x. same_part x.name v.name) ws ≡ true)
      (λ v. (same_part w.name v.name || list_any (λ x. same_part x.name v.name) ws) ≡ true) ws
      (λ v is. or_right (same_part w.name v.name) (list_any (λ x. same_part x.name v.name) ws) is) (wires_there ws),
)

registers_there : (rs : List (Register Part ⊥)) → AllByRecursion (λ r. list_any (λ x. same_part x.name r.name) rs ≡ true) rs
registers_there [] = tt
registers_there (r ∷ rs) = (
  or_left (same_part r.name r.name) (list_any (λ x. same_part x.name r.name) rs) (parts_apart.itself r.name),
  all_weaker (λ v. list_any (λ x. same_part x.name v.name) rs ≡ true)
      (λ v. (same_part r.name v.name || list_any (λ x. same_part x.name v.name) rs) ≡ true) rs
      (λ v is. or_right (same_part r.name v.name) (list_any (λ x. same_part x.name v.name) rs) is) (registers_there rs),
)

module _ (kind : Kind) (stages : ℕ) where
  abbrev has : Part → Bool
  has = has_signal same_part (divider kind stages)

  wire_has : AllByRecursion (λ w. has w.name ≡ true) (divider kind stages).wires
  wire_has =
      all_weaker (λ v. list_any (λ x. same_part x.name v.name) (divider kind stages).wires ≡ true) (λ v. has v.name ≡ true)
      (divider kind stages).wires (λ v is. or_right _ _ (or_left _ _ is)) (wires_there (divider kind stages).wires)

  register_has : AllByRecursion (λ r. has r.name ≡ true) (divider kind stages).registers
  register_has =
      all_weaker (λ v. list_any (λ x. same_part x.name v.name) (divider kind stages).registers ≡ true) (λ v. has v.name ≡ true)
      (divider kind stages).registers (λ v is. or_right _ _ (or_right _ _ is)) (registers_there (divider kind stages).registers)

  -- the registers before a stage that is not the first
  record Before (stage : ℕ) : Type 0 where
    rest : has (Rest stage) ≡ true
    digits : has (Digits stage) ≡ true
    divisor : has (Divisor stage) ≡ true

  before : (stage : ℕ) → 0 < stage → stage ≤ stages → Before stage
  before stage some few =
      let of = registers_of stages (λ r. has r.name ≡ true) 0 stages (stage - 1) register_has (omega arith) (omega (arith, some, few)) in
      let same : stage - 1 + 1 ≡ stage = omega (arith, some) in
      subst Before same (record { rest = of.0; digits = of.1.0; divisor = of.1.1 })

  -- what a stage begins with is there
  record Begins (stage : ℕ) : Type 0 where
    rest : reads_only has (rest_before stage) ≡ true
    digits : has (digits_before stage) ≡ true
    divisor : has (divisor_before stage) ≡ true

  begins : (stage : ℕ) → stage ≤ stages → Begins stage
  begins stage few = record { rest = parts.0; digits = parts.1.0; divisor = parts.1.1 } where
    on : (b : Bool) → (b ≡ false → Before stage) → (reads_only {M = ⊥} has (if b then Const 32 0 else Signal (Rest stage)) ≡ true)
        × ((has (if b then First else Digits stage) ≡ true) × (has (if b then Second else Divisor stage) ≡ true))
    on true there = (refl, (refl, refl))
    on false there = let b = there refl in (reads_one has (Rest stage) b.rest, (b.digits, b.divisor))

    behind : (stage == 0) ≡ false → Before stage
    behind later = before stage (omega (arith, eqb-false stage 0 later)) few

    parts : (reads_only has (rest_before stage) ≡ true) × ((has (digits_before stage) ≡ true) × (has (divisor_before stage) ≡ true))
    parts = on (stage == 0) behind

  stage_closed : (stage : ℕ) → stage ≤ stages
      → Closed has stage (made_by stages stage) 0 (rest_before stage) (Signal (digits_before stage)) (Signal (divisor_before stage))
  stage_closed stage few =
      let b = begins stage few in
      digits_closed has stage (made_by stages stage) 0 (rest_before stage) (Signal (digits_before stage)) (Signal (divisor_before stage))
      b.rest (reads_one has (digits_before stage) b.digits) (reads_one has (divisor_before stage) b.divisor)
      (wires_of stages (λ w. has w.name ≡ true) 0 (stages + 1) stage
      (both (λ w. has w.name ≡ true) (stage_wires stages 0 (stages + 1)) (wire Shown 32 (shown_of kind (stage_cut stages stages)) ∷ [])
      wire_has).0 (omega arith) (omega (arith, few)))

  shown_closed : (kind : Kind) → reads_only has (shown_of kind (stage_cut stages stages)) ≡ true
  shown_closed Quotient = (stage_closed stages (omega arith)).digits_out
  shown_closed Remainder = (stage_closed stages (omega arith)).rest_out

  pub closed : IsClosed same_part (divider kind stages)
  closed = record {
    wires = all_append (λ w. reads_only has w.word ≡ true) (stage_wires stages 0 (stages + 1))
        (wire Shown 32 (shown_of kind (stage_cut stages stages)) ∷ [])
        (all_wires stages (λ w. reads_only has w.word ≡ true) 0 (stages + 1)
        (λ stage from to. (stage_closed stage (omega (arith, to))).wires)) (shown_closed kind, tt);
    registers = all_registers stages (λ r. (reads_only has r.enable ≡ true) × (reads_only has r.next ≡ true)) 0 stages
        (λ stage from to.
        let of = stage_closed stage (omega (arith, to)) in
        let b = begins stage (omega (arith, to)) in
        ((refl, of.rest_out), ((refl, of.digits_out), (refl, reads_one has (divisor_before stage) b.divisor))));
    memories = tt;
  }
