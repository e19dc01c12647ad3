-- What holds of all wires and registers of a divider, stage by stage.
use Rattle.std.proofs.Common.{◌≡◌, ℕ, zero, suc, ◌<◌, ◌≤◌, ◌+◌, ◌==◌, Bool, true, false, List, [], ◌∷◌, ◌++◌, refl, subst, arith}
use Rattle.std.specs.List.{AllByRecursion}
use Rattle.std.proofs.lemmas.Bool.{eqb-true, eqb-false}
use Rattle.tta_list.proofs.Lists.{all_append}
use Rattle.tta_divider.specs.Cited.{Signal, Wire, Register}
use Rattle.tta_divider.specs.Divider.{Part, Rest, Digits, Divisor, stage_cut, stage_wires, kept, stage_registers, divisor_before}

-- what holds of all of two lists holds of each
pub both : {A : Type 0} (P : A → Type 0) (xs ys : List A) → AllByRecursion P (xs ++ ys) → AllByRecursion P xs × AllByRecursion P ys
both P [] ys all = (tt, all)
both P (x ∷ xs) ys all = let rest = both P xs ys all.1 in ((all.0, rest.0), rest.1)

module _ (stages : ℕ) where
  module _ (P : Wire Part ⊥ → Type 0) where
    -- of the wires of a stage
    abbrev OfStage : ℕ → Type 0
    OfStage stage = AllByRecursion P (stage_cut stages stage).wires

    pub wires_of : (first count stage : ℕ) → AllByRecursion P (stage_wires stages first count) → first ≤ stage → stage < first + count
        → OfStage stage
    wires_of first zero stage all from to = absurd (omega (arith, from, to))
    wires_of first (suc n) stage all from to =
        let parts = both P (stage_cut stages first).wires (stage_wires stages (first + 1) n) all in
        by (first == stage) refl parts.0 (λ more. wires_of (first + 1) n stage parts.1 more (omega (arith, to)))
      where
        by : (b : Bool) → (first == stage) ≡ b → OfStage first → (first + 1 ≤ stage → OfStage stage) → OfStage stage
        by true is one rest = subst OfStage (eqb-true first stage is) one
        by false is one rest = rest (omega (arith, from, eqb-false first stage is))

    pub all_wires : (first count : ℕ) → ((stage : ℕ) → first ≤ stage → stage < first + count → OfStage stage)
        → AllByRecursion P (stage_wires stages first count)
    all_wires first zero each = tt
    all_wires first (suc n) each =
        all_append P (stage_cut stages first).wires (stage_wires stages (first + 1) n) (each first (omega arith) (omega arith))
        (all_wires (first + 1) n (λ stage from to. each stage (omega (arith, from)) (omega (arith, to))))

  module _ (P : Register Part ⊥ → Type 0) where
    -- of the registers behind a stage
    abbrev pub Behind : ℕ → Type 0
    Behind stage =
        P (kept (Rest (stage + 1)) (stage_cut stages stage).rest)
        × (P (kept (Digits (stage + 1)) (stage_cut stages stage).digits)
        × P (kept (Divisor (stage + 1)) (Signal (divisor_before stage))))

    pub registers_of : (first count stage : ℕ) → AllByRecursion P (stage_registers stages first count) → first ≤ stage
        → stage < first + count → Behind stage
    registers_of first zero stage all from to = absurd (omega (arith, from, to))
    registers_of first (suc n) stage all from to =
        by (first == stage) refl (all.0, (all.1.0, all.1.1.0))
        (λ more. registers_of (first + 1) n stage all.1.1.1 more (omega (arith, to)))
      where
        by : (b : Bool) → (first == stage) ≡ b → Behind first → (first + 1 ≤ stage → Behind stage) → Behind stage
        by true is one rest = subst Behind (eqb-true first stage is) one
        by false is one rest = rest (omega (arith, from, eqb-false first stage is))

    pub all_registers : (first count : ℕ) → ((stage : ℕ) → first ≤ stage → stage < first + count → Behind stage)
        → AllByRecursion P (stage_registers stages first count)
    all_registers first zero each = tt
    all_registers first (suc n) each =
        let now = each first (omega arith) (omega arith) in (
          now.0,
          (
            now.1.0,
            (
              now.1.1,
              all_registers (first + 1) n (λ stage from to. each stage (omega (arith, from)) (omega (arith, to))),
            ),
          ),
        )
