-- What became of a cycle.
use Rattle.std.proofs.Common.{◌≡◌, ◌+◌, true, false, ◌++◌, refl, ap, ◌∙◌, arith}
use Rattle.std.specs.Prelude.{is_some}
use Rattle.std.proofs.lemmas.Bool.{eq-eqb, ne_eqb}
use Rattle.tta_waves.specs.Cited.{Units, Machine, Code, State, next, next_of, CycleStep, Ran, Held, Stands, GoesTo, IsAnswer, cycles_of, cycle_writes, is_made, went_on}
use Rattle.tta_code.specs.Cycle.{Halted as HasHalted}
use Rattle.tta_sim.specs.declared.cycle_step.CycleStep.TheVariants.{Halted, Waiting, Fault}
use Rattle.tta_places.proofs.Onward.{written_on}
use Rattle.tta_waves.specs.Steps.{Goes}

module _ (u : Units) (m : Machine) (code : Code) where
  abbrev step : State → State
  step = next u m code

  -- a state that has halted stays
  halted_stays : (s : State) → s.outcome ≡ HasHalted → step s ≡ s
  unfolding next
  halted_stays s is = ap (next_of u m code s) is

  -- no cycle was made where none is counted
  unmade : (s : State) → (step s).cycle ≡ s.cycle → is_made step s ≡ false
  unmade s same = ne_eqb (step s).cycle (s.cycle + 1) (λ e. absurd (omega (arith, e, same)))

  -- what became of a cycle, by its answer, where what it wrote is known
  pub goes : (old new : Held) (Keeps : State → Type 0) (s : State) → Stands old s → (a : CycleStep) → new.cycle ≡ old.cycle + cycles_of a → GoesTo new s (step s) a
      → IsAnswer u m code s a → (is_some (went_on a) ≡ true → (step s).written ≡ cycle_writes m code s ++ s.written → Keeps (step s))
      → Goes step (λ t. Stands new t × Keeps t) s a
  goes old new Keeps s stands (Ran word took) counted after answer keeps =
      let was = stands.cycle in
      let is = after.cycle in
      let made : (step s).cycle ≡ s.cycle + 1 = omega (arith, counted, was, is) in
      record {
        stands = (after, keeps refl (written_on u m code s answer.0 made));
        rest = answer.1.2;
        made = eq-eqb (step s).cycle (s.cycle + 1) made;
      }
  goes old new Keeps s stands Halted counted after answer keeps =
      let same = halted_stays s answer in
      record { made = unmade s (ap (λ (t : State). t.cycle) same); outcome = ap (λ (t : State). t.outcome) same ∙ answer }
  goes old new Keeps s stands Waiting counted after answer keeps = record {
    made = unmade s (ap (λ (t : State). t.cycle) answer.1);
    outcome = ap (λ (t : State). t.outcome) answer.1;
  }
  goes old new Keeps s stands (Fault number) counted after answer keeps =
      let was = stands.cycle in
      let is = after.cycle in
      record { made = unmade s (omega (arith, counted, was, is)); outcome = answer }
