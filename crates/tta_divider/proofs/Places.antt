-- The signals of a divider have places that rise.
use Rattle.std.proofs.Common.{◌≡◌, ℕ, zero, suc, ◌≤◌, ◌+◌, ◌*◌, true, List, [], ◌∷◌, ◌++◌, map, refl, arith}
use Rattle.tta_divider.specs.Cited.{Expr, Wire, are_apart, signals_of, cut, wire}
use Rattle.tta_divider.specs.declared.kind.Kind.{Kind}
use Rattle.tta_divider.specs.Divider.{Part, Enable, First, Second, Rest, Digits, Divisor, Digit, Shown, same_part, made_by, stage_cut, stage_wires, stage_registers, shown_of, divider}
use Rattle.tta_divider.proofs.Rising.{Between, wider, joined, mapped, apart}
use Rattle.tta_divider.proofs.Names.{parts_apart}
use Rattle.tta_divider.proofs.Counts.{at_most}

-- Wires have places by their ranks: that of a digit is one more than its number and the digits of stages before, and some more.
module _ (stages : ℕ) (place : Part → ℕ) (k : ℕ) (digit : (stage number : ℕ) → place (Digit stage number) ≡ 160 * stage + number + 1 + k)
    (shown : place Shown ≡ 160 * (stages + 1) + 1 + k) where
  -- the place of a wire
  abbrev at : Wire Part ⊥ → ℕ
  at w = place w.name

  -- the digits of a stage
  digits_rise : (stage count first : ℕ) (rest digits by : Expr Part ⊥)
      → Between at (160 * stage + first + 1 + k) (160 * stage + first + 5 * count + 1 + k)
      (cut (Digit stage) count first rest digits by).wires
  unfolding cut
  digits_rise stage zero first rest digits by = omega arith
  digits_rise stage (suc n) first rest digits by =
      let zeroth = digit stage first in
      let first_one = digit stage (first + 1) in
      let second_one = digit stage (first + 2) in
      let third_one = digit stage (first + 3) in
      let fourth_one = digit stage (first + 4) in (
        omega (arith, zeroth),
        (
          omega (arith, zeroth, first_one),
          (
            omega (arith, first_one, second_one),
            (
              omega (arith, second_one, third_one),
              (
                omega (arith, third_one, fourth_one),
                wider at (place (Digit stage (first + 4)) + 1) (160 * stage + (first + 5) + 1 + k)
                    (160 * stage + (first + 5) + 5 * n + 1 + k)
                    (160 * stage + first + 5 * suc n + 1 + k) _ (omega (arith, fourth_one)) (omega arith)
                    (digits_rise stage n (first + 5) _ _ by),
              ),
            ),
          ),
        ),
      )

  stages_rise : (stage count : ℕ) → stage + count ≤ stages + 1
      → Between at (160 * stage + 1 + k) (160 * (stage + count) + 1 + k) (stage_wires stages stage count)
  stages_rise stage zero few = omega arith
  stages_rise stage (suc n) few =
      joined at (160 * stage + 1 + k) (160 * (stage + 1) + 1 + k) (160 * (stage + suc n) + 1 + k) (stage_cut stages stage).wires
      (stage_wires stages (stage + 1) n)
      (wider at (160 * stage + 1 + k) (160 * stage + 0 + 1 + k) (160 * stage + 0 + 5 * made_by stages stage + 1 + k)
      (160 * (stage + 1) + 1 + k) (stage_cut stages stage).wires (omega arith)
      (omega (arith, at_most stages stage (omega (arith, few)))) (digits_rise stage (made_by stages stage) 0 _ _ _))
      (wider at (160 * (stage + 1) + 1 + k) (160 * (stage + 1) + 1 + k) (160 * (stage + 1 + n) + 1 + k)
      (160 * (stage + suc n) + 1 + k) (stage_wires stages (stage + 1) n) (omega arith) (omega arith)
      (stages_rise (stage + 1) n (omega (arith, few))))

  pub wires_rise : (kind : Kind) → Between at (1 + k) (160 * (stages + 1) + (2 + k)) (divider kind stages).wires
  wires_rise kind =
      joined at (1 + k) (160 * (stages + 1) + 1 + k) (160 * (stages + 1) + (2 + k)) (stage_wires stages 0 (stages + 1))
      (wire Shown 32 (shown_of kind (stage_cut stages stages)) ∷ [])
      (wider at (1 + k) (160 * 0 + 1 + k) (160 * (0 + (stages + 1)) + 1 + k) (160 * (stages + 1) + 1 + k)
      (stage_wires stages 0 (stages + 1)) (omega arith) (omega arith) (stages_rise 0 (stages + 1) (omega arith)))
      (omega (arith, shown), omega (arith, shown))

module _ (stages : ℕ) where
  -- where a signal stands: first the inputs, then the wires, then the registers
  abbrev pub place : Part → ℕ
  place Enable = 0
  place First = 1
  place Second = 2
  place (Digit stage number) = 160 * stage + number + 1 + 2
  place Shown = 160 * (stages + 1) + 1 + 2
  place (Rest stage) = 160 * (stages + 1) + 3 * stage + 4
  place (Digits stage) = 160 * (stages + 1) + 3 * stage + 5
  place (Divisor stage) = 160 * (stages + 1) + 3 * stage + 6

  pub wires_placed : (kind : Kind) → Between (λ w. place w.name) 3 (160 * (stages + 1) + 4) (divider kind stages).wires
  wires_placed kind = wires_rise stages place 2 (λ stage number. refl) refl kind

  pub registers_rise : (stage count : ℕ)
      → Between (λ r. place r.name) (160 * (stages + 1) + 3 * stage + 7) (160 * (stages + 1) + 3 * (stage + count) + 7)
      (stage_registers stages stage count)
  registers_rise stage zero = omega arith
  registers_rise stage (suc n) = (
    omega arith,
    (
      omega arith,
      (
        omega arith,
        wider (λ r. place r.name) (160 * (stages + 1) + 3 * (stage + 1) + 6 + 1) (160 * (stages + 1) + 3 * (stage + 1) + 7)
            (160 * (stages + 1) + 3 * (stage + 1 + n) + 7) (160 * (stages + 1) + 3 * (stage + suc n) + 7)
            (stage_registers stages (stage + 1) n)
            (omega arith) (omega arith) (registers_rise (stage + 1) n),
      ),
    ),
  )

  -- each stands once
  pub signals_apart : (kind : Kind) → are_apart same_part (signals_of (divider kind stages)) ≡ true
  signals_apart kind =
      let wires : List Part = map (λ w. w.name) (divider kind stages).wires in
      let registers : List Part = map (λ r. r.name) (divider kind stages).registers in
      let top : ℕ = 160 * (stages + 1) + 3 * (0 + stages) + 7 in
      let first : Between place 3 (160 * (stages + 1) + 4) wires =
      mapped (λ w. w.name) place 3 (160 * (stages + 1) + 4) (divider kind stages).wires (wires_placed kind) in
      let second : Between place (160 * (stages + 1) + 3 * 0 + 7) top registers =
      mapped (λ r. r.name) place (160 * (stages + 1) + 3 * 0 + 7) top (divider kind stages).registers (registers_rise 0 stages) in
      apart same_part parts_apart place 0 top (Enable ∷ First ∷ Second ∷ (wires ++ registers)) (
        omega arith,
        (
          omega arith,
          (
            omega arith,
            joined place 3 (160 * (stages + 1) + 4) top wires registers first
                (wider place (160 * (stages + 1) + 4) (160 * (stages + 1) + 3 * 0 + 7) top top registers (omega arith) (omega arith)
                second),
          ),
        ),
      )
