-- The cycles before those that a page plays.
use Rattle.std.proofs.Common.{◌≡◌, ◌≤◌, inl, inr, ℕ, zero, suc, ◌+◌, Bool, false, List, ◌++◌, None, Some, length, refl, sym, ap, ◌∙◌, subst, arith}
use Rattle.std.specs.Prelude.{Option, option_map}
use Rattle.std.proofs.lemmas.Bool.{ne_eqb}
use Rattle.tta_play.specs.Cited.{left, iterate, Units, Machine, Code, State, next, next_of, CycleStep, Ran, Held, GoesTo, IsAnswer, cycles_of, is_made, went_on, within}
use Rattle.tta_list.proofs.Iterated.{iterate-more, iterate-still}
use Rattle.tta_code.specs.Cycle.{Fault as HasFaulted, Halted as HasHalted}
use Rattle.tta_sim.specs.declared.cycle_step.CycleStep.TheVariants.{Halted, Waiting, Fault}
use Rattle.tta_play.specs.States.{whole_text, held_text, state_text, where_text, places_text, file_text, imm_text, operands_text, return_text, results_text, dues_text, states_text}
use Rattle.tta_play.specs.Statement.{limited, earlier_part, room_after, played_text}
use Rattle.tta_play.specs.Steps.{IsAt, waiting}
use Rattle.tta_play.specs.Controls.{pending_of, Follows}
use Rattle.tta_play.specs.declared.control.UnderWay.{UnderWay}
use Rattle.tta_play.proofs.Unmade.{fault_keeps_pending, fault_takes_none}

-- one cycle more comes first
pub one_first : {S : Type 0} (k left : ℕ) (step : S → S) (s : S) → left ≡ suc k → iterate left step s ≡ iterate k step (step s)
one_first k left step s is = ap (λ n. iterate n step s) (let e : left ≡ k + 1 = omega (arith, is) in e) ∙ iterate-more k 1 step s

-- a cycle counts for one at most
pub ran_counts : (a : CycleStep) (old new : ℕ) → new ≡ old + cycles_of a → new ≤ old + 1
ran_counts (Ran word took) old new is = omega (arith, is)
ran_counts Halted old new is = omega (arith, is)
ran_counts Waiting old new is = omega (arith, is)
ran_counts (Fault number) old new is = omega (arith, is)

some_same : {a b : Bool} → Some a ≡ Some b → a ≡ b
some_same is = cc

module _ (u : Units) (m : Machine) (code : Code) where
  abbrev step : State → State
  step = next u m code

  -- a state that is over stays
  halted_stays : (s : State) → s.outcome ≡ HasHalted → step s ≡ s
  unfolding next
  halted_stays s is = ap (next_of u m code s) is

  waiting_stays : (s : State) → step (waiting s) ≡ waiting s
  unfolding next
  waiting_stays s = refl

  fault_stays : (s : State) (number at : ℕ) → s.outcome ≡ HasFaulted number at → step s ≡ s
  unfolding next
  fault_stays s number at is = ap (next_of u m code s) is

  -- where no cycle was carried out, the run is where all that are left would lead, with the same control move under way
  pub over : (old new : Held) (before after : Option UnderWay) (t : State) (a : CycleStep) (k left : ℕ) → left ≡ suc k → went_on a ≡ None → Follows old before t
      → after ≡ before → GoesTo new t (step t) a → IsAnswer u m code t a → IsAt step (Follows new after) t.rest (iterate left step t)
  over old new before after t (Ran word took) k left more none was kept goes answer = absurd cc
  over old new before after t Halted k left more none was kept goes answer =
      let same = halted_stays t answer in
      record {
        state = step t;
        stands = record {
          stands = goes;
          pending = ap (option_map pending_of) kept ∙ was.pending ∙ sym (ap (λ (s : State). s.pending) same);
        };
        left = ap (λ (s : State). s.rest) same;
        is = inl (iterate-still step left t same ∙ sym same);
      }
  over old new before after t Waiting k left more none was kept goes answer = record {
    state = t;
    stands = record { stands = goes; pending = ap (option_map pending_of) kept ∙ was.pending };
    left = refl;
    is = inr (answer.1, one_first k left step t more ∙ ap (iterate k step) answer.1 ∙ iterate-still step k (waiting t) (waiting_stays t));
  }
  over old new before after t (Fault number) k left more none was kept goes answer = record {
    state = step t;
    stands = record {
      stands = goes;
      pending = ap (option_map pending_of) kept ∙ was.pending ∙ sym (fault_keeps_pending u m code t number t.cycle answer);
    };
    left = fault_takes_none u m code t number t.cycle answer;
    is = inl (one_first k left step t more ∙ iterate-still step k (step t) (fault_stays (step t) number t.cycle answer));
  }

  -- where one was, it took a word of the input or did not
  pub rest_after : (t : State) (a : CycleStep) (took : Bool) → went_on a ≡ Some took → IsAnswer u m code t a → (step t).rest ≡ left took t.rest
  rest_after t (Ran word taken) took some answer = subst (λ b. (step t).rest ≡ left b t.rest) (some_same some) answer.1.2
  rest_after t Halted took some answer = absurd cc
  rest_after t Waiting took some answer = absurd cc
  rest_after t (Fault number) took some answer = absurd cc

  -- a state that has to wait is told as before
  abbrev told : State → List ℕ
  told = whole_text u m code.words

  told_waiting : (s : State) → told (waiting s) ≡ told s
  unfolding state_text held_text where_text places_text file_text imm_text operands_text return_text results_text dues_text
  told_waiting s = refl

  -- no cycle is made where it waits
  unmade : (s : State) → (step s).cycle ≡ s.cycle → is_made step s ≡ false
  unmade s same = ne_eqb (step s).cycle (s.cycle + 1) (λ e. absurd (omega (arith, e, same)))

  states_waiting : (s : State) (room left : ℕ) → step s ≡ waiting s → states_text step told room left (waiting s) ≡ states_text step told room left s
  states_waiting s room zero waits = ap (within room) (told_waiting s)
  states_waiting s room (suc left) waits =
      let stays = waiting_stays s in
      let now = unmade (waiting s) (ap (λ (t : State). t.cycle) stays) in
      let before = unmade s (ap (λ (t : State). t.cycle) waits) in
      rw (told_waiting s, now, before, stays, waits) refl

  -- so is a page that begins with it
  pub played_waiting : (bytes : ℕ) (begin s : State) (bound : ℕ) → step s ≡ waiting s
      → played_text u m code bytes begin (waiting s) bound ≡ played_text u m code bytes begin s bound
  unfolding played_text
  played_waiting bytes begin s bound waits =
      let earlier = earlier_part begin s in
      ap (λ l. earlier ++ l) (states_waiting s (room_after (bytes + length earlier)) (limited bound) waits)
