-- Runs that begin, go on or are over.
use Rattle.std.proofs.Common.{◌≡◌, ℕ, zero, suc, ◌+◌, ◌<◌, ◌≤◌, get_or, true, false, IsTrue, List, [], ◌∷◌, length, replicate, Option, Some, None, refl, sym, ap, ◌∙◌, subst, arith}
use Rattle.std.specs.Prelude.{slice_get}
use Rattle.std.specs.List.{AllByRecursion}
use Rattle.tta_sim.specs.Cited.{Units, Machine, IsMachine, Instruction, Code, is_legal, IsLegalCode, State, Halted, Fault, next, start, carry_out}
use Rattle.std.proofs.lemmas.List.{length-replicate}
use Rattle.tta_code.specs.Cycle.{Running}
use Rattle.tta_sim.specs.declared.cycle_step.CycleStep.{CycleStep}
use Rattle.tta_sim.specs.declared.cycle_step.CycleStep.TheVariants.{Ran, Halted as HadHalted, Waiting as Waits, Fault as Faults}
use Rattle.tta_sim.specs.declared.control.Control.{Control}
use Rattle.tta_sim.specs.declared.control.Phase.TheVariants as phase
use Rattle.tta_sim.specs.declared.decoded.Line.{Line}
use Rattle.tta_sim.specs.declared.store.Store.{Store}
use Rattle.tta_sim.specs.Decoded.{line_of, lines_from, IsDecoded}
use Rattle.tta_sim.specs.Lines.{IsLineThere}
use Rattle.tta_sim.specs.Ready.{FitsLine}
use Rattle.tta_sim.specs.Places.{HasWritten}
use Rattle.tta_sim.specs.Results.{Results, AreResultsOf, HasUnits}
use Rattle.tta_sim.specs.Held.{HeldState, StandsWith, GoesWith, IsAnswer, IsStateOf, is_fault}
use Rattle.tta_sim.specs.Controls.{outcome_of}
use Rattle.tta_sim.specs.Kept.{held_of, IsCarried}
use Rattle.tta_sim.proofs.Possible.{Found}
use Rattle.tta_sim.proofs.Fitting.{line_there}
use Rattle.tta_sim.proofs.Facing.{fits_line}
use Rattle.tta_code.proofs.Rooms.{room_few as all_reached}

-- ---- over

module _ (u : Units) (m : Machine) (code : Code) (r : Results) (h : HeldState) (s : State) (same : StandsWith r h s) where
  pub halted_stands : h.outcome ≡ Halted → StandsWith r h (next u m code s)
  unfolding next
  halted_stands over =
      let ended : s.outcome ≡ Halted = sym same.outcome ∙ over in
      let still : next u m code s ≡ s = rw ended refl in
      rw still same

  pub halted_answer : h.outcome ≡ Halted → IsAnswer u m code s HadHalted
  halted_answer over = sym same.outcome ∙ over

  fault_still : (number at : ℕ) → h.outcome ≡ Fault number at → next u m code s ≡ s
  unfolding next
  fault_still number at over =
      let ended : s.outcome ≡ Fault number at = sym same.outcome ∙ over in
      rw ended refl

  pub fault_stands : (number at : ℕ) → h.outcome ≡ Fault number at → StandsWith r h (next u m code s)
  fault_stands number at over = subst (StandsWith r h) (sym (fault_still number at over)) same

  pub fault_answer : (number : ℕ) → h.outcome ≡ Fault number h.cycle → IsAnswer u m code s (Faults number)
  fault_answer number over =
      ap (λ t. t.outcome) (fault_still number h.cycle over) ∙ sym same.outcome ∙ over ∙ ap (Fault number) same.cycle

-- ---- going on

module _ (u : Units) (m : Machine) (code : Code) (lines : List Line) (store : Store) (r : Results) (control : Control) (s : State) (same : StandsWith r (held_of lines store control) s)
    (running : control.phase ≡ phase.Running) where
  runs : s.outcome ≡ Running
  runs = sym same.outcome ∙ ap (outcome_of store.cycle) running

  next_is : (o : Option Instruction) → slice_get code.words control.pc ≡ o → next u m code s ≡ carry_out u m s o
  unfolding next
  next_is o at =
      let here : slice_get code.words s.pc ≡ o = ap (slice_get code.words) (sym same.pc) ∙ at in
      rw (runs, here) refl

  -- no instruction has this address
  past : slice_get code.words control.pc ≡ None → next u m code s ≡ record s { outcome = Fault 65 s.cycle }
  past none = next_is None none

  pub past_stands : slice_get code.words control.pc ≡ None → StandsWith r (held_of lines store (record control { phase = phase.Fault 65 })) (next u m code s)
  past_stands none = subst (StandsWith r (held_of lines store (record control { phase = phase.Fault 65 }))) (sym (past none)) (record {
    places = same.places;
    results = same.results;
    memory = same.memory;
    frame = same.frame;
    pc = same.pc;
    cycle = same.cycle;
    pending = same.pending;
    outcome = ap (Fault 65) same.cycle;
  })

  pub past_answer : slice_get code.words control.pc ≡ None → IsAnswer u m code s (Faults 65)
  past_answer none = ap (λ t. t.outcome) (past none)

  pub goes_stands : (i : Instruction) (r' : Results) (h : HeldState) (answer : CycleStep) → slice_get code.words control.pc ≡ Some i
      → IsCarried r' h s (carry_out u m s (Some i)) answer → GoesWith r' h s (next u m code s) answer
  goes_stands i r' h answer at carried = subst (λ t. GoesWith r' h s t answer) (sym (next_is (Some i) at)) carried.stands

  pub goes_answer : (i : Instruction) (r' : Results) (h : HeldState) (answer : CycleStep) → slice_get code.words control.pc ≡ Some i
      → IsCarried r' h s (carry_out u m s (Some i)) answer → IsAnswer u m code s answer
  goes_answer i r' h (Ran word took) at carried =
      let is = next_is (Some i) at in
      (runs, (ap (λ t. is_fault t.outcome) is ∙ carried.answers.0, ap (λ t. t.output) is ∙ carried.answers.1, ap (λ t. t.rest) is ∙ carried.answers.2))
  goes_answer i r' h Waits at carried = (runs, next_is (Some i) at ∙ carried.answers)
  goes_answer i r' h HadHalted at carried = absurd carried.answers
  goes_answer i r' h (Faults number) at carried = ap (λ t. t.outcome) (next_is (Some i) at) ∙ carried.answers

-- ---- the code

pub legal_at : (m : Machine) (words : List Instruction) (k : ℕ) (i : Instruction) → AllByRecursion (λ i. IsTrue (is_legal m i)) words → slice_get words k ≡ Some i
    → IsTrue (is_legal m i)
legal_at m [] k i all at = cc
legal_at m (j ∷ words) zero i all at = let here : j ≡ i = cc in subst (λ x. IsTrue (is_legal m x)) here all.0
legal_at m (j ∷ words) (suc k) i all at = legal_at m words k i all.1 at

-- each instruction is decoded at its address
pub line_at : (m : Machine) (back : ℕ) (words : List Instruction) (k : ℕ) (i : Instruction) (d : Line) → slice_get words k ≡ Some i
    → get_or (lines_from m back words) k d ≡ line_of m (back + k) i
line_at m back [] k i d at = cc
line_at m back (j ∷ words) zero i d at = let here : j ≡ i = cc in ap (line_of m back) here ∙ ap (λ n. line_of m n i) (omega arith)
line_at m back (j ∷ words) (suc k) i d at = line_at m (back + 1) words k i d at ∙ ap (λ n. line_of m n i) (omega arith)

pub length-lines : (m : Machine) (back : ℕ) (words : List Instruction) → length (lines_from m back words) ≡ length words
length-lines m back [] = refl
length-lines m back (i ∷ words) = ap suc (length-lines m (back + 1) words)

-- an address within the code has an instruction
instruction_there : (words : List Instruction) (k : ℕ) → k < length words → Found words k (λ i. true)
instruction_there [] k within = absurd (omega (arith, within))
instruction_there (i ∷ words) zero within = record { item = i; at = refl; within = omega arith; passes = refl }
instruction_there (i ∷ words) (suc k) within =
    let rest = instruction_there words k (omega (arith, within)) in
    record { item = rest.item; at = rest.at; within = omega (arith, rest.within); passes = refl }

-- and one past the code has none
pub past_all : (words : List Instruction) (k : ℕ) → length words ≤ k → slice_get words k ≡ None
past_all [] k past = refl
past_all (i ∷ words) zero past = absurd (omega (arith, past))
past_all (i ∷ words) (suc k) past = past_all words k (omega (arith, past))

-- the line at an address is that of the instruction there
decoded_at : (m : Machine) (code : Code) (h : HeldState) → IsMachine m → IsStateOf m code h → (k : ℕ) (i : Instruction) (delay : ℕ) (lines : List Line) (l : Line)
    → slice_get code.words k ≡ Some i → delay ≡ m.control.delay → lines ≡ h.lines → l ≡ get_or lines k l → IsDecoded m (k + 1 + delay) i l
decoded_at m code h rules run k i delay lines l at is same item =
    let number : 1 + m.control.delay + k ≡ k + 1 + delay = omega (arith, is) in
    record {
      rules = rules;
      legal = legal_at m code.words k i run.legal.words at;
      line = item ∙ ap (λ xs. get_or xs k l) (same ∙ run.decoded) ∙ line_at m (1 + m.control.delay) code.words k i l at ∙ ap (λ n. line_of m n i) number;
    }

-- The instruction at an address within the code, and the line there, whose ends are there and whose operations fit.
pub record Here (m : Machine) (code : Code) (k delay : ℕ) (store : Store) (r : Results) (l : Line) : Type 0 where
  pub item : Instruction
  pub at : slice_get code.words k ≡ Some item
  pub decoded : IsDecoded m (k + 1 + delay) item l
  pub there : IsLineThere r.units l
  pub fits : FitsLine store r l

pub line_here : (m : Machine) (code : Code) (h : HeldState) → IsMachine m → IsStateOf m code h → (k delay : ℕ) (lines : List Line) (store : Store) (r : Results) (l : Line)
    → k < length code.words → delay ≡ m.control.delay → lines ≡ h.lines → l ≡ get_or lines k l → HasUnits r.base m r.rings → r.units ≡ length m.units
    → Here m code k delay store r l
line_here m code h rules run k delay lines store r l within is same item has size =
    let i = instruction_there code.words k within in
    let decoded = decoded_at m code h rules run k i.item delay lines l i.at is same item in
    record {
      item = i.item;
      at = i.at;
      decoded = decoded;
      there =
          subst (IsLineThere r.units) (sym decoded.line)
          (subst (λ n. IsLineThere n (line_of m (k + 1 + delay) i.item)) (sym size) (line_there m rules (k + 1 + delay) i.item decoded.legal));
      fits = fits_line m rules i.item decoded.legal (k + 1 + delay) l decoded.line store.places r false has size;
    }

-- ---- the start

pub first_stands : (m : Machine) (memory input : List ℕ) (lines : List Line) (store : Store) (control : Control) (r : Results) → HasWritten store.places []
    → store.cycle ≡ 0 → store.memory.items ≡ memory → store.frame.items ≡ replicate m.frame_words 0
    → control ≡ record { pc = 0; pending = None; phase = phase.Running } → AreResultsOf [] 0 r → StandsWith r (held_of lines store control) (start m memory input)
first_stands m memory input lines store control r written cycle words frame first results = rw first (record {
  places = written;
  results = results;
  memory = words;
  frame = frame;
  pc = refl;
  cycle = cycle;
  pending = refl;
  outcome = refl;
})

pub first_run : (m : Machine) (code : Code) (lines : List Line) (store : Store) (control : Control) (words : ℕ) → IsMachine m → IsLegalCode m code → lines ≡ lines_from m (1 + m.control.delay) code.words
    → length store.memory.items ≡ m.data_words → store.frame.items ≡ replicate words 0 → words ≡ m.frame_words
    → IsStateOf m code (held_of lines store control)
first_run m code lines store control words rules legal decoded size frame all = record {
  legal = legal;
  reached = all_reached m code rules legal;
  decoded = decoded;
  memory = size;
  frame = ap length frame ∙ length-replicate {A = ℕ} words 0 ∙ all;
}
