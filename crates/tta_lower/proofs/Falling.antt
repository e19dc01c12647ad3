-- Steps after which the next block follows.
use Rattle.std.proofs.Common.{◌≡◌, ◌+◌, ◌==◌, ℕ, true, false, refl}
use Rattle.std.proofs.lemmas.Bool.{eq-eqb, or_right}
use Rattle.tta_lower.specs.Cited.{Step, Load, Take, Store, When, Program, plain}
use Rattle.tta_program.specs.declared.step.Step.TheVariants.{Copy, Apply, Put, If}
use Rattle.tta_lir.specs.declared.code.Exit.TheVariants as exit
use Rattle.tta_lower.specs.Liveness.{Homes, is_plain, leads}
use Rattle.tta_lower.specs.Layout.{exit_for}
use Rattle.tta_lower.specs.Shape.{may_fall, is_call}
use Rattle.tta_lower.proofs.Runs.{plain-leads}

-- a step that may fall through leads to the next one
pub falls-leads : (st : Step) (at : ℕ) → may_fall st ≡ true → leads st at (at + 1) ≡ true
falls-leads (If rel a b to) at may = or_right (to == at + 1) (at + 1 == at + 1) (eq-eqb (at + 1) (at + 1) refl)
falls-leads (Copy d s) at may = plain-leads (Copy d s) at may
falls-leads st at may = plain-leads st at may

-- a plain step may fall through, is no call, and its block has no transfer
pub record IsPlainExit (p : Program) (home : Homes) (number : ℕ → ℕ → ℕ) (entry : ℕ → ℕ) (owner : ℕ) (st : Step) : Type 0 where
  pub falls_through : may_fall st ≡ true
  pub no_call : is_call st ≡ false
  pub next : exit_for p home number entry owner st ≡ exit.Next

-- a plain step leads to the next block
pub plain-exit : (p : Program) (home : Homes) (number : ℕ → ℕ → ℕ) (entry : ℕ → ℕ) (owner : ℕ) (st : Step) → is_plain st ≡ true
    → IsPlainExit p home number entry owner st
plain-exit p home number entry owner (Copy d s) plain = record { falls_through = refl; no_call = refl; next = refl }
plain-exit p home number entry owner (Apply d op a b) plain = record { falls_through = refl; no_call = refl; next = refl }
plain-exit p home number entry owner (Load d a) plain = record { falls_through = refl; no_call = refl; next = refl }
plain-exit p home number entry owner (Take d) plain = record { falls_through = refl; no_call = refl; next = refl }
plain-exit p home number entry owner (Store a v) plain = record { falls_through = refl; no_call = refl; next = refl }
plain-exit p home number entry owner (Put v) plain = record { falls_through = refl; no_call = refl; next = refl }
plain-exit p home number entry owner (When rel a b d s) plain = record { falls_through = refl; no_call = refl; next = refl }
plain-exit p home number entry owner st plain = cc
