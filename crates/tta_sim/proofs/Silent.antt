-- Cycles that output no word and take none.
use Rattle.std.proofs.Common.{◌≡◌, ℕ, zero, suc, ◌+◌, ◌<◌, ◌≤◌, ◌==◌, Bool, true, false, if◌then◌else◌, List, [], ◌∷◌, ◌++◌, length, get_or, Option, Some, None, refl, sym, ap, ◌∙◌, slice_get, true≢false, arith}
use Rattle.std.specs.List.{filter_map}
use Rattle.std.specs.Option.{option_map_or}
use Rattle.std.proofs.lemmas.List.{append-nil}
use Rattle.tta_sim.specs.Cited.{Units, Machine, Kind, Jumps, Calls, Halts, control_of, first_some, bring, write_of, start_of, Code, Instruction, State, Outcome, Halted, Waiting, Fault, next, next_of, carry_out, or_fault, or_wait, waits, acts, lands, takes_effect, pending_after, effects_of, read_source, fault_of}
use Rattle.tta_code.specs.Cycle.{Running, Pending}
use Rattle.tta_sim.specs.declared.cycle_step.CycleStep.{CycleStep}
use Rattle.tta_sim.specs.declared.decoded.Line.{Line}
use Rattle.tta_sim.specs.declared.cycle_step.CycleStep.TheVariants.{Ran, Halted as HadHalted, Waiting as Waits, Fault as Faults}
use Rattle.tta_sim.specs.Results.{Results}
use Rattle.tta_sim.specs.Held.{HeldState, StandsWith, GoesWith, IsAnswer, IsSilentRun, is_fault, cycles_of}
use Rattle.tta_sim.specs.Kept.{is_silent}

-- A state has the output and the input of another.
pub record IsSilent (s t : State) : Type 0 where
  pub output : t.output ≡ s.output
  pub rest : t.rest ≡ s.rest

-- ---- a cycle that faults

landed_well : (s : State) (o : Option Pending) → is_fault s.outcome ≡ false → is_fault (lands s o).outcome ≡ false
landed_well s None well = well
landed_well s (Some p) well = chosen (p.time == s.cycle) where
  took : (k : Kind) → is_fault (takes_effect s (record p { kind = k })).outcome ≡ false
  took Jumps = well
  took Calls = well
  took Halts = refl

  chosen : (b : Bool) → is_fault (if b then takes_effect s p else s).outcome ≡ false
  chosen true = took p.kind
  chosen false = well

waited_well : (s t : State) (must : Bool) → is_fault t.outcome ≡ false → is_fault (or_wait s must t).outcome ≡ false
waited_well s t false well = well
waited_well s t true well = refl

pure_fault : (s t : State) (o : Option ℕ) → is_fault t.outcome ≡ false → is_fault (or_fault s o t).outcome ≡ true → IsSilent s (or_fault s o t)
pure_fault s t None well faulty = absurd (true≢false (sym faulty ∙ well))
pure_fault s t (Some number) well faulty = record { output = refl; rest = refl }

pure : (u : Units) (m : Machine) (s : State) (o : Option Instruction)
    → is_fault (carry_out u m s o).outcome ≡ true → IsSilent s (carry_out u m s o)
pure u m s None faulty = record { output = refl; rest = refl }
pure u m s (Some i) faulty =
    let effects = effects_of m i in
    let bs = filter_map (bring (read_source s)) effects in
    let written = filter_map (write_of m (s.pc + 1 + m.control.delay)) bs ++ s.written in
    let ts = filter_map (start_of m written) bs in
    pure_fault s (or_wait s (waits s ts) (acts u m s bs ts written)) (fault_of s effects bs ts)
    (waited_well s (acts u m s bs ts written) (waits s ts) (landed_well _ (pending_after m s (first_some control_of bs)) refl)) faulty

-- a cycle that comes to a fault outputs no word, and takes none
pub fault_is_silent : (u : Units) (m : Machine) (code : Code) (s : State) (number at : ℕ)
    → (next u m code s).outcome ≡ Fault number at → IsSilent s (next u m code s)
unfolding next
fault_is_silent u m code s number at is = of s s.outcome (ap is_fault is) where
  of : (s : State) (o : Outcome) → is_fault (next_of u m code s o).outcome ≡ true → IsSilent s (next_of u m code s o)
  of s Running faulty = pure u m s (slice_get code.words s.pc) faulty
  of s Halted faulty = record { output = refl; rest = refl }
  of s Waiting faulty = record { output = refl; rest = refl }
  of s (Fault n c) faulty = record { output = refl; rest = refl }

-- ---- pure runs

-- an answer without a word tells of a cycle that neither outputs nor takes one
pub silent_answer : (u : Units) (m : Machine) (code : Code) (s : State) (answer : CycleStep) → is_silent answer ≡ true → IsAnswer u m code s answer
    → IsSilent s (next u m code s)
silent_answer u m code s (Ran None false) is at = record { output = at.1.1 ∙ append-nil s.output; rest = at.1.2 }
silent_answer u m code s (Ran None true) is at = cc
silent_answer u m code s (Ran (Some word) took) is at = cc
silent_answer u m code s HadHalted is at = cc
silent_answer u m code s Waits is at = cc
silent_answer u m code s (Faults number) is at = fault_is_silent u m code s number s.cycle at

-- so it is one of a pure run
pub silent_cycle : (u : Units) (m : Machine) (code : Code) (r : Results) (h : HeldState) (s : State) (answer : CycleStep) → is_silent answer ≡ true
    → GoesWith r h s (next u m code s) answer → IsAnswer u m code s answer → IsSilentRun (StandsWith r h) s (next u m code s)
silent_cycle u m code r h s answer is goes at =
    let same = silent_answer u m code s answer is at in
    record { stands = stands answer is goes; output = same.output; rest = same.rest }
  where
    stands : (answer : CycleStep) → is_silent answer ≡ true → GoesWith r h s (next u m code s) answer → StandsWith r h (next u m code s)
    stands (Ran word took) is goes = goes
    stands HadHalted is goes = goes
    stands Waits is goes = cc
    stands (Faults number) is goes = goes

-- where a line is not pure, and where there is none, a run does not go on in one call
pub no_pure_line : (lines : List Line) (k : ℕ) (l : Line) → k < length lines → l ≡ get_or lines k l → l.pure ≡ false
    → option_map_or (λ l. l.pure) (slice_get lines k) false ≡ false
no_pure_line [] k l within at is = absurd (omega (arith, within))
no_pure_line (x ∷ lines) zero l within at is = ap (λ l. l.pure) (sym at) ∙ is
no_pure_line (x ∷ lines) (suc k) l within at is = no_pure_line lines k l (omega (arith, within)) at is

pub no_line : (lines : List Line) (k : ℕ) → length lines ≤ k → option_map_or (λ l. l.pure) (slice_get lines k) false ≡ false
no_line [] k past = refl
no_line (x ∷ lines) zero past = absurd (omega (arith, past))
no_line (x ∷ lines) (suc k) past = no_line lines k (omega (arith, past))

-- a call makes one cycle at most
pub at_most_one : (answer : CycleStep) → cycles_of answer ≤ 1
at_most_one (Ran word took) = omega arith
at_most_one HadHalted = omega arith
at_most_one Waits = omega arith
at_most_one (Faults number) = omega arith

-- one more cycle
pub pure_more : (Before After : State → Type 0) (s t : State) (u : State) → IsSilentRun Before s t → (Before t → IsSilentRun After t u) → IsSilentRun After s u
pure_more Before After s t u first more =
    let last = more first.stands in
    record { stands = last.stands; output = last.output ∙ first.output; rest = last.rest ∙ first.rest }
