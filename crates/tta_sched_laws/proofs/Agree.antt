-- Code that holds the placed lists of a program does what the program does.
use Rattle.std.proofs.Common.{◌≡◌, ◌≢◌, ◌⊎◌, inl, inr, ℕ, suc, ◌+◌, ◌-◌, ◌*◌, ◌<◌, ◌≤◌, ◌^◌, List, ◌++◌, sym, ap, subst, ◌∙◌, arith, length, replicate}
use Rattle.std.specs.Prelude.{IsTrue}
use Rattle.std.specs.List.{AllByRecursion}
use Rattle.std.proofs.Math.Nat.{mul-suc}
use Rattle.tta_list.proofs.Prefixes.{prefix_same, prefix_chain}
use Rattle.tta_sched_laws.specs.Cited.{IsPrefixOf, Units, Machine, IsMachine, over, Program, step_count, data_of, seq, BlockList, Held, AreAddresses, lrun, Instruction, Code, is_legal, Whole, data_in, State, cyc, IsGiven, HaltAlike, WaitAlike, Agrees, program_at}
use Rattle.tta_list.proofs.Lists.{all_append}
use Rattle.tta_program.specs.Sequential as program
use Rattle.tta_program.proofs.Halted.{later_end}
use Rattle.tta_list.specs.Legs as legs
use Rattle.tta_list.specs.Legs.{Run}
use Rattle.tta_code.specs.Cycle as cycle
use Rattle.tta_refines.proofs.Words.{none_words}
use Rattle.tta_sched_laws.specs.Means.{Means, MeanAt}
use Rattle.tta_sched_laws.proofs.Row.{IsRow, HasHalted, HasStopped, Tracks, goes, halts, stops}
use Rattle.tta_sched_laws.proofs.Runs.{Reached, reach}
use Rattle.tta_sched_laws.proofs.Over.{output_stays, over_stays, over_same, output_before}

-- ---- what is given

more_given : (m : Machine) (memory input : List ℕ) (z : ℕ) → IsGiven m memory input → IsGiven m memory (input ++ replicate z 0)
more_given m memory input z g = record { size = g.size; words = g.words; inputs = all_append (λ (w : ℕ). w < 2 ^ 32) input (replicate z 0) g.inputs (none_words z) }

-- ---- both runs

module _ (u : Units) (m : Machine) (rules : IsMachine m) (p : Program) (code : Code) (legal : AllByRecursion (λ (i : Instruction). IsTrue (is_legal m i)) code.words)
    (addr : List ℕ) (lists : List BlockList) (row : IsRow m code addr lists) (memory input : List ℕ) (sound : (z n : ℕ) → (lrun u m lists addr memory (input ++ replicate z 0) n).outcome ≢ legs.Undefined)
    (mean : MeanAt u m p lists addr memory input) where
  abbrev seq_at : ℕ → program.State
  seq_at n = seq u p memory input n

  abbrev cyc_at : ℕ → State
  cyc_at n = cyc u m code memory input n

  abbrev run_at : ℕ → Run Held
  run_at n = lrun u m lists addr memory input n

  abbrev words : ℕ
  words = length code.words

  there : (n : ℕ) → Reached u m rules code legal addr lists row memory input sound n
  there n = reach u m rules code legal addr lists row memory input sound n

  halted_over : (a : ℕ) → (cyc_at a).outcome ≡ cycle.Halted → (cyc_at a).outcome ≢ cycle.Running
  halted_over a e r = let z : cycle.Halted ≡ cycle.Running = sym e ∙ r in absurd cc

  waiting_over : (a : ℕ) → (cyc_at a).outcome ≡ cycle.Waiting → (cyc_at a).outcome ≢ cycle.Running
  waiting_over a e r = let z : cycle.Waiting ≡ cycle.Running = sym e ∙ r in absurd cc

  fault_over : (a number at : ℕ) → (cyc_at a).outcome ≡ cycle.Fault number at → (cyc_at a).outcome ≢ cycle.Running
  fault_over a number at e r = let z : cycle.Fault number at ≡ cycle.Running = sym e ∙ r in absurd cc

  same_end : (a b : ℕ) → (cyc_at a).outcome ≢ cycle.Running → (cyc_at b).outcome ≢ cycle.Running → cyc_at a ≡ cyc_at b
  same_end a b h k = over_same u m code (cycle.start m memory input) a b h k

  -- what the lists output is what the machine has output then
  output_is : (r : Run Held) (t : State) → Tracks addr r t → t.output ≡ r.state.output
  output_is r t (goes e g) = g.match.output
  output_is r t (halts e h) = h.output
  output_is r t (stops e h) = h.output

  -- a machine that is over at a moment is over where as many legs are made
  over_then : (n : ℕ) → (cyc_at n).outcome ≢ cycle.Running → (r : Reached u m rules code legal addr lists row memory input sound n) → cyc_at n ≡ cyc_at r.cycles
  over_then n over r = on r.tracks where
    on : Tracks addr (run_at n) (cyc_at r.cycles) → cyc_at n ≡ cyc_at r.cycles
    on (goes e g) = sym (over_stays u m code (cycle.start m memory input) n r.cycles (r.least e) over)
    on (halts e h) = same_end n r.cycles over (halted_over r.cycles h.outcome)
    on (stops e h) = same_end n r.cycles over (waiting_over r.cycles h.outcome)

  no_fault : (n number at : ℕ) → (cyc_at n).outcome ≢ cycle.Fault number at
  no_fault n number at e = on (there n).tracks where
    same : (cyc_at (there n).cycles).outcome ≡ cycle.Fault number at
    same = sym (ap (λ (t : State). t.outcome) (over_then n (fault_over n number at e) (there n))) ∙ e

    on : Tracks addr (run_at n) (cyc_at (there n).cycles) → ⊥
    on (goes q g) = let z : cycle.Running ≡ cycle.Fault number at = sym g.match.outcome ∙ same in absurd cc
    on (halts q h) = let z : cycle.Halted ≡ cycle.Fault number at = sym h.outcome ∙ same in absurd cc
    on (stops q h) = let z : cycle.Waiting ≡ cycle.Fault number at = sym h.outcome ∙ same in absurd cc

  -- the machine at its bound
  at_bound : (n : ℕ) → (cyc_at (there n).cycles).outcome ≢ cycle.Running → cyc_at (words * n) ≡ cyc_at (there n).cycles
  at_bound n over = over_stays u m code (cycle.start m memory input) (there n).cycles (words * n) (there n).most over

  list_halts : (n : ℕ) → (run_at n).outcome ≡ legs.Halted → HasHalted (run_at n) (cyc_at (there n).cycles)
  list_halts n e = on (there n).tracks where
    on : Tracks addr (run_at n) (cyc_at (there n).cycles) → HasHalted (run_at n) (cyc_at (there n).cycles)
    on (goes q g) = let z : legs.Running ≡ legs.Halted = sym q ∙ e in absurd cc
    on (halts q h) = h
    on (stops q h) = let z : legs.Waiting ≡ legs.Halted = sym q ∙ e in absurd cc

  list_waits : (n : ℕ) → (run_at n).outcome ≡ legs.Waiting → HasStopped (run_at n) (cyc_at (there n).cycles)
  list_waits n e = on (there n).tracks where
    on : Tracks addr (run_at n) (cyc_at (there n).cycles) → HasStopped (run_at n) (cyc_at (there n).cycles)
    on (goes q g) = let z : legs.Running ≡ legs.Waiting = sym q ∙ e in absurd cc
    on (halts q h) = let z : legs.Halted ≡ legs.Waiting = sym q ∙ e in absurd cc
    on (stops q h) = h

  halts_is : (n : ℕ) → (seq_at n).outcome ≡ program.Halted → HaltAlike (seq_at n) (cyc_at (words * (n + 1)))
  halts_is n e =
      let a = mean.halts n e in
      let h = list_halts (n + 1) a.lists in
      let same = at_bound (n + 1) (halted_over (there (n + 1)).cycles h.outcome) in
      record {
        program = e;
        code = ap (λ (t : State). t.outcome) same ∙ h.outcome;
        memory = ap (λ (t : State). t.memory) same ∙ h.memory ∙ a.memory;
        output = ap (λ (t : State). t.output) same ∙ h.output ∙ a.output;
        rest = ap (λ (t : State). t.rest) same ∙ h.rest ∙ a.rest;
      }

  waits_is : (n : ℕ) → (seq_at n).outcome ≡ program.Waiting → WaitAlike (seq_at n) (cyc_at (words * (n + 1)))
  waits_is n e =
      let a = mean.waits n e in
      let h = list_waits (n + 1) a.lists in
      let same = at_bound (n + 1) (waiting_over (there (n + 1)).cycles h.outcome) in
      record {
        program = e;
        code = ap (λ (t : State). t.outcome) same ∙ h.outcome;
        output = ap (λ (t : State). t.output) same ∙ h.output ∙ a.output;
        rest = ap (λ (t : State). t.rest) same ∙ h.rest ∙ a.rest;
      }

  -- a program that is over by so many steps is over by the bound
  program_bound : (n : ℕ) → (seq_at (step_count p * n)).outcome ≢ program.Running → seq_at (step_count p * (n + 1)) ≡ seq_at (step_count p * n)
  program_bound n over =
      let e : n + 1 ≡ suc n = omega arith in
      let g = ap (λ (k : ℕ). step_count p * k) e ∙ mul-suc (step_count p) n in
      later_end u p (step_count p * n) (step_count p * (n + 1)) (program.start p memory input) (omega arith) over

  halts_only_is : (n : ℕ) → (cyc_at n).outcome ≡ cycle.Halted → HaltAlike (seq_at (step_count p * (n + 1))) (cyc_at n)
  halts_only_is n e = on (there n).tracks where
    same : cyc_at n ≡ cyc_at (there n).cycles
    same = over_then n (halted_over n e) (there n)

    on : Tracks addr (run_at n) (cyc_at (there n).cycles) → HaltAlike (seq_at (step_count p * (n + 1))) (cyc_at n)
    on (goes q g) = let z : cycle.Running ≡ cycle.Halted = sym g.match.outcome ∙ sym (ap (λ (t : State). t.outcome) same) ∙ e in absurd cc
    on (stops q h) = let z : cycle.Waiting ≡ cycle.Halted = sym h.outcome ∙ sym (ap (λ (t : State). t.outcome) same) ∙ e in absurd cc
    on (halts q h) =
        let a = mean.halts_only n q in
        let steps = program_bound n (λ r. let z : program.Halted ≡ program.Running = sym a.program ∙ r in absurd cc) in
        record {
          program = ap (λ (t : program.State). t.outcome) steps ∙ a.program;
          code = e;
          memory = ap (λ (t : State). t.memory) same ∙ h.memory ∙ a.memory ∙ sym (ap (λ (t : program.State). t.memory) steps);
          output = ap (λ (t : State). t.output) same ∙ h.output ∙ a.output ∙ sym (ap (λ (t : program.State). t.output) steps);
          rest = ap (λ (t : State). t.rest) same ∙ h.rest ∙ a.rest ∙ sym (ap (λ (t : program.State). t.rest) steps);
        }

  waits_only_is : (n : ℕ) → (cyc_at n).outcome ≡ cycle.Waiting → WaitAlike (seq_at (step_count p * (n + 1))) (cyc_at n)
  waits_only_is n e = on (there n).tracks where
    same : cyc_at n ≡ cyc_at (there n).cycles
    same = over_then n (waiting_over n e) (there n)

    on : Tracks addr (run_at n) (cyc_at (there n).cycles) → WaitAlike (seq_at (step_count p * (n + 1))) (cyc_at n)
    on (goes q g) = let z : cycle.Running ≡ cycle.Waiting = sym g.match.outcome ∙ sym (ap (λ (t : State). t.outcome) same) ∙ e in absurd cc
    on (halts q h) = let z : cycle.Halted ≡ cycle.Waiting = sym h.outcome ∙ sym (ap (λ (t : State). t.outcome) same) ∙ e in absurd cc
    on (stops q h) =
        let a = mean.waits_only n q in
        let steps = program_bound n (λ r. let z : program.Waiting ≡ program.Running = sym a.program ∙ r in absurd cc) in
        record {
          program = ap (λ (t : program.State). t.outcome) steps ∙ a.program;
          code = e;
          output = ap (λ (t : State). t.output) same ∙ h.output ∙ a.output ∙ sym (ap (λ (t : program.State). t.output) steps);
          rest = ap (λ (t : State). t.rest) same ∙ h.rest ∙ a.rest ∙ sym (ap (λ (t : program.State). t.rest) steps);
        }

  output_fits : (n : ℕ) → IsPrefixOf (seq_at n).output (cyc_at (words * (n + 1))).output
  output_fits n =
      let r = there (n + 1) in
      prefix_chain (seq_at n).output (cyc_at r.cycles).output (cyc_at (words * (n + 1))).output
      (prefix_chain (seq_at n).output (run_at (n + 1)).state.output (cyc_at r.cycles).output (mean.output n) (prefix_same (run_at (n + 1)).state.output (cyc_at r.cycles).output (sym (output_is (run_at (n + 1)) (cyc_at r.cycles) r.tracks))))
      (output_stays u m code (cycle.start m memory input) r.cycles (words * (n + 1)) r.most)

  output_only_fits : (n : ℕ) → IsPrefixOf (cyc_at n).output (seq_at (step_count p * (n + 1))).output
  output_only_fits n =
      let r = there (n + 1) in
      prefix_chain (cyc_at n).output (cyc_at r.cycles).output (seq_at (step_count p * (n + 1))).output
      (output_before u m code (cycle.start m memory input) n r.cycles (before r r.tracks))
      (prefix_chain (cyc_at r.cycles).output (run_at (n + 1)).state.output (seq_at (step_count p * (n + 1))).output
      (prefix_same (cyc_at r.cycles).output (run_at (n + 1)).state.output (output_is (run_at (n + 1)) (cyc_at r.cycles) r.tracks)) (mean.output_only (n + 1))) where
        before : (r : Reached u m rules code legal addr lists row memory input sound (n + 1)) → Tracks addr (run_at (n + 1)) (cyc_at r.cycles) → (n ≤ r.cycles) ⊎ ((cyc_at r.cycles).outcome ≢ cycle.Running)
        before r (goes e g) = inl (let l = r.least e in omega arith)
        before r (halts e h) = inr (halted_over r.cycles h.outcome)
        before r (stops e h) = inr (waiting_over r.cycles h.outcome)

-- ---- code that agrees with its program

-- Code that holds the placed lists of a program, with data that lay the same words as the program's, agrees with the
-- program.
pub code_agrees : (u : Units) (m : Machine) → IsMachine m → (p : Program) (whole : Whole) → AllByRecursion (λ (i : Instruction). IsTrue (is_legal m i)) whole.code.words
    → (addr : List ℕ) (lists : List BlockList) → AreAddresses addr (length lists) → IsRow m whole.code addr lists → Means u m p lists
    → ((memory : List ℕ) → over (data_in whole) memory ≡ over (data_of p) memory)
    → ((memory input : List ℕ) → IsGiven m memory input → IsGiven m (over (data_of p) memory) input) → Agrees u m p whole
code_agrees u m rules p whole legal addr lists addresses row means laid given = record {
  no_fault = λ memory input n number at g. subst (λ (q : List ℕ). (cyc u m whole.code q input n).outcome ≢ cycle.Fault number at) (sym (laid memory))
      (no_fault u m rules p whole.code legal addr lists row (over (data_of p) memory) input (sound memory input g) (mean memory input g) n number at);
  halts = λ memory input n g e. subst (λ (q : List ℕ). HaltAlike (program_at u p memory input n) (cyc u m whole.code q input (length whole.code.words * (n + 1)))) (sym (laid memory))
      (halts_is u m rules p whole.code legal addr lists row (over (data_of p) memory) input (sound memory input g) (mean memory input g) n e);
  waits = λ memory input n g e. subst (λ (q : List ℕ). WaitAlike (program_at u p memory input n) (cyc u m whole.code q input (length whole.code.words * (n + 1)))) (sym (laid memory))
      (waits_is u m rules p whole.code legal addr lists row (over (data_of p) memory) input (sound memory input g) (mean memory input g) n e);
  halts_only = λ memory input n g e. halts_only_at memory input n g (laid memory) e;
  waits_only = λ memory input n g e. waits_only_at memory input n g (laid memory) e;
  output = λ memory input n g. subst (λ (q : List ℕ). IsPrefixOf (program_at u p memory input n).output (cyc u m whole.code q input (length whole.code.words * (n + 1))).output) (sym (laid memory))
      (output_fits u m rules p whole.code legal addr lists row (over (data_of p) memory) input (sound memory input g) (mean memory input g) n);
  output_only = λ memory input n g. subst (λ (q : List ℕ). IsPrefixOf (cyc u m whole.code q input n).output (program_at u p memory input (step_count p * (n + 1))).output) (sym (laid memory))
      (output_only_fits u m rules p whole.code legal addr lists row (over (data_of p) memory) input (sound memory input g) (mean memory input g) n);
} where
  mean : (memory input : List ℕ) → IsGiven m memory input → MeanAt u m p lists addr (over (data_of p) memory) input
  mean memory input g = means addr (over (data_of p) memory) input addresses (given memory input g)

  sound : (memory input : List ℕ) → IsGiven m memory input → (z n : ℕ) → (lrun u m lists addr (over (data_of p) memory) (input ++ replicate z 0) n).outcome ≢ legs.Undefined
  sound memory input g z = (means addr (over (data_of p) memory) (input ++ replicate z 0) addresses (more_given m (over (data_of p) memory) input z (given memory input g))).sound

  halts_only_at : (memory input : List ℕ) (n : ℕ) → IsGiven m memory input → over (data_in whole) memory ≡ over (data_of p) memory → (cyc u m whole.code (over (data_in whole) memory) input n).outcome ≡ cycle.Halted
      → HaltAlike (program_at u p memory input (step_count p * (n + 1))) (cyc u m whole.code (over (data_in whole) memory) input n)
  halts_only_at memory input n g same e = subst (λ (q : List ℕ). HaltAlike (program_at u p memory input (step_count p * (n + 1))) (cyc u m whole.code q input n)) (sym same)
      (halts_only_is u m rules p whole.code legal addr lists row (over (data_of p) memory) input (sound memory input g) (mean memory input g) n
      (subst (λ (q : List ℕ). (cyc u m whole.code q input n).outcome ≡ cycle.Halted) same e))

  waits_only_at : (memory input : List ℕ) (n : ℕ) → IsGiven m memory input → over (data_in whole) memory ≡ over (data_of p) memory → (cyc u m whole.code (over (data_in whole) memory) input n).outcome ≡ cycle.Waiting
      → WaitAlike (program_at u p memory input (step_count p * (n + 1))) (cyc u m whole.code (over (data_in whole) memory) input n)
  waits_only_at memory input n g same e = subst (λ (q : List ℕ). WaitAlike (program_at u p memory input (step_count p * (n + 1))) (cyc u m whole.code q input n)) (sym same)
      (waits_only_is u m rules p whole.code legal addr lists row (over (data_of p) memory) input (sound memory input g) (mean memory input g) n
      (subst (λ (q : List ℕ). (cyc u m whole.code q input n).outcome ≡ cycle.Waiting) same e))
