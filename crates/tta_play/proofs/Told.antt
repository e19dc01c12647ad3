-- What a cycle's answer tells.
use Rattle.std.proofs.Common.{◌≡◌, ℕ, ◌+◌, Bool, true, false, List, [], ◌∷◌, ◌++◌, Option, None, Some, length, drop, refl, sym, ap, ◌∙◌, append-nil, arith}
use Rattle.std.specs.Prelude.{is_some, option_to_list}
use Rattle.std.specs.List.{flat_map}
use Rattle.std.proofs.lemmas.Bool.{eq-eqb, ne_eqb}
use Rattle.tta_play.specs.Cited.{Units, Machine, Code, State, next, next_of, CycleStep, Ran, Held, Stands, GoesTo, IsAnswer, cycles_of, is_made, went_on}
use Rattle.tta_code.specs.Cycle.{Halted as HasHalted}
use Rattle.tta_sim.specs.declared.cycle_step.CycleStep.TheVariants.{Halted, Waiting, Fault}
use Rattle.tta_play.specs.States.{out_text, outs_text, end_text}
use Rattle.tta_play.specs.Steps.{Goes, step_text}

-- what is left behind a list is what was put after it
behind : (xs ys : List ℕ) → drop (length xs) (xs ++ ys) ≡ ys
behind [] ys = refl
behind (x ∷ xs) ys = behind xs ys

-- the text of the word that a cycle output
of_word : (word : Option ℕ) (took : Bool) → step_text (Ran word took) ≡ flat_map out_text (option_to_list word)
of_word None took = refl
of_word (Some word) took = sym (append-nil (out_text word))

-- it is that of what the output gains
of_output : (s t : State) (word : Option ℕ) (took : Bool) → t.output ≡ s.output ++ option_to_list word → step_text (Ran word took) ≡ outs_text s t
of_output s t word took is =
    of_word word took ∙ sym (ap (flat_map out_text) (ap (drop (length s.output)) is ∙ behind s.output (option_to_list word)))

module _ (u : Units) (m : Machine) (code : Code) where
  abbrev step : State → State
  step = next u m code

  -- a state that has halted stays
  halted_stays : (s : State) → s.outcome ≡ HasHalted → step s ≡ s
  unfolding next
  halted_stays s is = ap (next_of u m code s) is

  -- no cycle was made where none is counted
  unmade : (s : State) → (step s).cycle ≡ s.cycle → is_made step s ≡ false
  unmade s same = ne_eqb (step s).cycle (s.cycle + 1) (λ e. absurd (omega (arith, e, same)))

  -- what became of a cycle, by its answer
  pub goes : (old new : Held) (Shown : State → Type 0) (s : State) → Stands old s → (a : CycleStep) → new.cycle ≡ old.cycle + cycles_of a → GoesTo new s (step s) a
      → IsAnswer u m code s a → (is_some (went_on a) ≡ true → Shown (step s)) → Goes step Shown s a
  goes old new Shown s stands (Ran word took) counted after answer shown =
      let was = stands.cycle in
      let is = after.cycle in
      record {
        stands = shown refl;
        rest = answer.1.2;
        made = eq-eqb (step s).cycle (s.cycle + 1) (omega (arith, counted, was, is));
        tells = of_output s (step s) word took answer.1.1;
      }
  goes old new Shown s stands Halted counted after answer shown =
      let same = halted_stays s answer in
      record {
        made = unmade s (ap (λ (t : State). t.cycle) same);
        tells = sym (ap end_text (ap (λ (t : State). t.outcome) same ∙ answer));
      }
  goes old new Shown s stands Waiting counted after answer shown = record {
    made = unmade s (ap (λ (t : State). t.cycle) answer.1);
    tells = sym (ap end_text (ap (λ (t : State). t.outcome) answer.1));
  }
  goes old new Shown s stands (Fault number) counted after answer shown =
      let was = stands.cycle in
      let is = after.cycle in
      record {
        made = unmade s (omega (arith, counted, was, is));
        tells = sym (ap end_text answer);
      }
