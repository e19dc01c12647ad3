-- Rows of live variables, and what a step wants by them.
use Rattle.std.proofs.Common.{◌≡◌, ◌+◌, ℕ, Bool, true, false, List, Option, Some, None, refl, sym, ap, ◌∙◌, inl, inr}
use Rattle.std.specs.Prelude.{◌==◌, ◌||◌, ◌&&◌, not, slice_get}
use Rattle.std.specs.Option.{option_map_or}
use Rattle.std.proofs.lemmas.Bool.{eq-eqb, or_cases, eqb-true}
use Rattle.std.proofs.Math.Bool.{or-true}
use Rattle.tta_list.proofs.Tests.{and_left, and_right}
use Rattle.tta_flow.specs.Cited.{Step}
use Rattle.tta_flow.specs.declared.bits.BitRow.{BitRow}
use Rattle.tta_flow.specs.Paths.{LiveBefore, ReadHere, ReadLater}
use Rattle.tta_flow.specs.Rows.{has_at, leaves, wanted}
use Rattle.tta_flow.specs.Steps.{falls_through, target, follows, leads, reads, assigns}

pub no : {A : Type 0} → true ≡ false → A
no e = absurd cc

-- ---- a row is replaced

-- ---- what a step wants, by the rows of those that can follow it

leads_next : (steps : List Step) (i : ℕ) (s : Step) → slice_get steps i ≡ Some s → falls_through s ≡ true → leads steps i (i + 1) ≡ true
leads_next steps i s is f =
    ap (λ o. option_map_or (λ (s : Step). follows s i (i + 1)) o false) is
    ∙ ap (λ b. (b && i + 1 == i + 1) || option_map_or (λ to. to == i + 1) (target s) false) f
    ∙ ap (λ b. b || option_map_or (λ to. to == i + 1) (target s) false) (eq-eqb (i + 1) (i + 1) refl)

leads_named : (steps : List Step) (i to : ℕ) (s : Step) → slice_get steps i ≡ Some s → target s ≡ Some to → leads steps i to ≡ true
leads_named steps i to s is t =
    ap (λ o. option_map_or (λ (s : Step). follows s i to) o false) is
    ∙ ap (λ o. (falls_through s && i + 1 == to) || option_map_or (λ k. k == to) o false) t
    ∙ ap (λ b. (falls_through s && i + 1 == to) || b) (eq-eqb to to refl) ∙ or-true (falls_through s && i + 1 == to)

-- where a variable is in a row of what can follow, it is in the row of some step that can
pub leaves_cases : (steps : List Step) (rows : List BitRow) (i x : ℕ) (s : Step) → slice_get steps i ≡ Some s → leaves rows s i x ≡ true
    → (k : ℕ) × ((leads steps i k ≡ true) × (has_at rows k x ≡ true))
leaves_cases steps rows i x s is e = elim (or_cases (falls_through s && has_at rows (i + 1) x) _ e) [
  | inl f ↦ (i + 1, (leads_next steps i s is (and_left (falls_through s) _ f), and_right (falls_through s) _ f))
  | inr t ↦ named (target s) refl t
] where
  named : (o : Option ℕ) → target s ≡ o → option_map_or (λ to. has_at rows to x) o false ≡ true
      → (k : ℕ) × ((leads steps i k ≡ true) × (has_at rows k x ≡ true))
  named None at t = absurd cc
  named (Some to) at t = (to, (leads_named steps i to s is at, t))

-- and the other way
pub leaves_by : (steps : List Step) (rows : List BitRow) (i k x : ℕ) (s : Step) → slice_get steps i ≡ Some s → leads steps i k ≡ true
    → has_at rows k x ≡ true → leaves rows s i x ≡ true
leaves_by steps rows i k x s is e h =
    elim (or_cases (falls_through s && i + 1 == k) (option_map_or (λ to. to == k) (target s) false) (sym (ap (λ o. option_map_or (λ (s : Step). follows s i k) o false) is) ∙ e)) [
      | inl f ↦ ap (λ b. b || option_map_or (λ to. has_at rows to x) (target s) false)
          (ap (λ b. b && has_at rows (i + 1) x) (and_left (falls_through s) _ f) ∙ ap (λ n. has_at rows n x) (eqb-true (i + 1) k (and_right (falls_through s) _ f)) ∙ h)
      | inr t ↦ ap (λ b. (falls_through s && has_at rows (i + 1) x) || b) (named (target s) t) ∙ or-true (falls_through s && has_at rows (i + 1) x)
    ]
  where
    named : (o : Option ℕ) → option_map_or (λ to. to == k) o false ≡ true → option_map_or (λ to. has_at rows to x) o false ≡ true
    named None t = absurd cc
    named (Some to) t = ap (λ n. has_at rows n x) (eqb-true to k t) ∙ h

-- other rows that agree where the step leads
pub wanted_from : (steps : List Step) (rows new : List BitRow) (i x : ℕ) (s : Step) → slice_get steps i ≡ Some s
    → ((k : ℕ) → leads steps i k ≡ true → has_at new k x ≡ true → has_at rows k x ≡ true) → wanted new s i x ≡ true → wanted rows s i x ≡ true
wanted_from steps rows new i x s is agree e = elim (or_cases (leaves new s i x && not (assigns s x)) (reads s x) e) [
  | inl f ↦
      let w = leaves_cases steps new i x s is (and_left (leaves new s i x) _ f) in
      ap (λ b. b || reads s x)
      (ap (λ b. b && not (assigns s x)) (leaves_by steps rows i w.0 x s is w.1.0 (agree w.0 w.1.0 w.1.1)) ∙ and_right (leaves new s i x) _ f)
  | inr r ↦ ap (λ b. (leaves rows s i x && not (assigns s x)) || b) r ∙ or-true (leaves rows s i x && not (assigns s x))
]

-- what a step wants is live before it, where the rows have only what is live
pub wanted_live : (steps : List Step) (rows : List BitRow) (i x : ℕ) (s : Step) → slice_get steps i ≡ Some s
    → ((k : ℕ) → has_at rows k x ≡ true → LiveBefore steps x k) → wanted rows s i x ≡ true → LiveBefore steps x i
wanted_live steps rows i x s is sound e = elim (or_cases (leaves rows s i x && not (assigns s x)) (reads s x) e) [
  | inl f ↦
      let w = leaves_cases steps rows i x s is (and_left (leaves rows s i x) _ f) in
      ReadLater i w.0 (ap (λ o. option_map_or (λ (s : Step). assigns s x) o false) is ∙ not_true (assigns s x) (and_right (leaves rows s i x) _ f))
      w.1.0 (sound w.0 w.1.1)
  | inr r ↦ ReadHere i (ap (λ o. option_map_or (λ (s : Step). reads s x) o false) is ∙ r)
] where
  not_true : (b : Bool) → not b ≡ true → b ≡ false
  not_true true e = cc
  not_true false e = refl
