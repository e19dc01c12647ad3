-- Paths and liveness by the steps of a procedure are those by its number in the program.
use Rattle.std.proofs.Common.{◌≡◌, ◌≢◌, ℕ, Bool, true, false, Option, Some, None, refl, sym, ap, subst, ◌∙◌, arith, slice_get}
use Rattle.std.specs.Prelude.{◌==◌}
use Rattle.std.specs.Option.{option_map_or}
use Rattle.std.proofs.lemmas.Bool.{eqb-true}
use Rattle.std.proofs.lemmas.Bool.Decides.{nat_tests}
use Rattle.tta_lower.specs.Cited.{Step, Proc, Program, step_at, Begin, Onward, ReadHere, ReadLater}
use Rattle.tta_flow.specs.Steps as steps
use Rattle.tta_flow.specs.Paths as flow
use Rattle.tta_lower.specs.Liveness as lower
use Rattle.tta_lower.specs.Liveness.{Reads, Leads, After, First, Then}
use Rattle.tta_lower.proofs.SameSteps.{same_reads, same_assigned, same_leads}

module _ (p : Program) (owner : ℕ) (q : Proc) (is : slice_get p.procs owner ≡ Some q) where
  pub step_is : (at : ℕ) → step_at p owner at ≡ slice_get q.steps at
  step_is at = rw is refl

  -- a step that passes a test is there
  pub record Passing (f : Step → Bool) (at : ℕ) : Type 0 where
    pub st : Step
    pub there : step_at p owner at ≡ Some st
    pub passes : f st ≡ true

  -- a step that passes
  pub passing : (f : Step → Bool) (at : ℕ) → option_map_or f (slice_get q.steps at) false ≡ true → Passing f at
  passing f at e = on (slice_get q.steps at) refl e where
    on : (o : Option Step) → slice_get q.steps at ≡ o → option_map_or f o false ≡ true → Passing f at
    on None g e = absurd cc
    on (Some st) g e = record { st = st; there = step_is at ∙ g; passes = e }

  -- a step that is there passes
  pub passes_at : (f : Step → Bool) (at : ℕ) (st : Step) → step_at p owner at ≡ Some st → (b : Bool) → f st ≡ b → option_map_or f (slice_get q.steps at) false ≡ b
  passes_at f at st there b e = ap (λ (o : Option Step). option_map_or f o false) (sym (step_is at) ∙ there) ∙ e

  -- a path by places, by the program
  pub reached_to : (i : ℕ) → flow.Reached q.steps i → lower.Reached p owner i
  reached_to _ Begin = First 0 refl
  reached_to _ (Onward i j r e) =
      let s = passing (λ st. steps.follows st i j) i e in
      Then i j s.st (reached_to i r) s.there (sym (same_leads s.st i j) ∙ s.passes)

  -- a path by the program, by places
  pub reached_from : (i : ℕ) → lower.Reached p owner i → flow.Reached q.steps i
  reached_from i (First at e) = subst (λ (n : ℕ). flow.Reached q.steps n) (sym e) Begin
  reached_from i (Then from at st r there goes) =
      Onward from at (reached_from from r) (passes_at (λ s. steps.follows s from at) from st there true (same_leads st from at ∙ goes))

  module _ (x : ℕ) where
    not_assigned : (o : Option ℕ) → option_map_or (λ d. d == x) o false ≡ false → o ≢ Some x
    not_assigned None e f = cc
    not_assigned (Some d) e f =
        let same : d ≡ x = cc in
        let z : (d == x) ≡ true = grind (arith, nat_tests) in
        let y : true ≡ false = sym z ∙ e in cc

    assigns_none : (o : Option ℕ) → o ≢ Some x → option_map_or (λ d. d == x) o false ≡ false
    assigns_none None e = refl
    assigns_none (Some d) e = on (d == x) refl where
      on : (b : Bool) → (d == x) ≡ b → (d == x) ≡ false
      on false t = t
      on true t = absurd (e (ap (λ (n : ℕ). Some n) (eqb-true d x t)))

    pub live_to : (i : ℕ) → flow.LiveBefore q.steps x i → lower.LiveBefore p owner x i
    live_to _ (ReadHere i e) = let s = passing (λ st. steps.reads st x) i e in Reads i s.st s.there (sym (same_reads s.st x) ∙ s.passes)
    live_to _ (ReadLater i j na e l) =
        let s = passing (λ st. steps.follows st i j) i e in
        let here : steps.assigns s.st x ≡ false = sym (passes_at (λ t. steps.assigns t x) i s.st s.there (steps.assigns s.st x) refl) ∙ na in
        Leads i j s.st s.there (λ f. not_assigned (steps.assigned s.st) here (same_assigned s.st ∙ f)) (sym (same_leads s.st i j) ∙ s.passes) (live_to j l)

    pub live_from : (i : ℕ) → lower.LiveBefore p owner x i → flow.LiveBefore q.steps x i
    live_from i (Reads at st there read) = ReadHere at (passes_at (λ s. steps.reads s x) at st there true (same_reads st x ∙ read))
    live_from i (Leads at to st there ne goes l) =
        ReadLater at to (passes_at (λ s. steps.assigns s x) at st there false (assigns_none (steps.assigned st) (λ f. ne (sym (same_assigned st) ∙ f))))
        (passes_at (λ s. steps.follows s at to) at st there true (same_leads st at to ∙ goes)) (live_from to l)

    pub after_to : (i : ℕ) → flow.LiveAfter q.steps x i → lower.LiveAfter p owner x i
    after_to i h = let s = passing (λ st. steps.follows st i h.next) i h.leads in After h.next s.st s.there (sym (same_leads s.st i h.next) ∙ s.passes) (live_to h.next h.live)

    pub after_from : (i : ℕ) → lower.LiveAfter p owner x i → flow.LiveAfter q.steps x i
    after_from i (After to st there goes l) =
        record { next = to; leads = passes_at (λ s. steps.follows s i to) i st there true (same_leads st i to ∙ goes); live = live_from to l }
