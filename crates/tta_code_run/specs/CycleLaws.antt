-- The output of code grows with each cycle, and a state that waits stays and reports that.
use Rattle.std.proofs.Common.{◌≡◌, ℕ, ◌+◌, ◌==◌, Bool, true, false, if◌then◌else◌, List, [], ◌∷◌, ◌++◌, fold, Option, Some, None, refl, sym, ap, ◌∙◌, append_assoc, append-nil, slice_get}
use Rattle.std.specs.List.{filter_map}
use Rattle.tta_code_run.specs.Cited.{Units, Op, Out, Machine, Kind, Jumps, Calls, Halts, Brought, Start, Written, put_out, control_of, first_some, bring, write_of, start_of, Code, Instruction, Fault, Pending, or_fault, or_wait, acts, lands, takes_effect, pending_after, effects_of, read_source, fault_of, OutputGrows, WaitStays, WaitReports}
use Rattle.tta_code.specs.Cycle.{State, Outcome, Running, Halted, Waiting, next, next_of, carry_out, waits}
use Rattle.tta_code_run.specs.Cycles.{meaning_of, reports}

-- one list begins another
abbrev Begins : List ℕ → List ℕ → Type 0
Begins xs ys = (more : List ℕ) × (ys ≡ xs ++ more)

-- a list that is the same begins itself
same : (xs ys : List ℕ) → ys ≡ xs → Begins xs ys
same xs ys e = ([], e ∙ sym (append-nil xs))

-- one operation
put : (words : List ℕ) (t : Start) → Begins words (put_out words t)
put words t = of t.does.op where
  of : (op : Op) → Begins words (put_out words (record t { does = record t.does { op = op } }))
  of Out = (t.word ∷ [], refl)
  of op = same words words refl

-- all operations of a cycle
all_put : (words : List ℕ) (ts : List Start) → Begins words (fold put_out words ts)
all_put words [] = same words words refl
all_put words (t ∷ ts) =
    let first = put words t in
    let rest = all_put (put_out words t) ts in
    (first.0 ++ rest.0, rest.1 ∙ ap (λ l. l ++ rest.0) first.1 ∙ append_assoc words first.0 rest.0)

-- a control move that takes effect, or none
landed : (s : State) (o : Option Pending) → (lands s o).output ≡ s.output
landed s None = refl
landed s (Some p) = chosen (p.time == s.cycle) where
  took : (k : Kind) → (takes_effect s (record p { kind = k })).output ≡ s.output
  took Jumps = refl
  took Calls = refl
  took Halts = refl

  chosen : (b : Bool) → (if b then takes_effect s p else s).output ≡ s.output
  chosen true = took p.kind
  chosen false = refl

-- a cycle that neither faults nor waits
acted : (u : Units) (m : Machine) (s : State) (bs : List Brought) (ts : List Start) (written : Written)
    → Begins s.output (acts u m s bs ts written).output
acted u m s bs ts written =
    let words = all_put s.output ts in
    (words.0, landed _ (pending_after m s (first_some control_of bs)) ∙ words.1)

-- a cycle that may fault
or_faulted : (s t : State) (o : Option ℕ) → Begins s.output t.output → Begins s.output (or_fault s o t).output
or_faulted s t None is = is
or_faulted s t (Some number) is = same s.output s.output refl

-- a cycle that may wait
or_waited : (s t : State) (must : Bool) → Begins s.output t.output → Begins s.output (or_wait s must t).output
or_waited s t false is = is
or_waited s t true is = same s.output s.output refl

-- the instruction at the address of a state, if there is one
carried : (u : Units) (m : Machine) (s : State) (o : Option Instruction) → Begins s.output (carry_out u m s o).output
carried u m s None = same s.output s.output refl
carried u m s (Some i) =
    let effects = effects_of m i in
    let bs = filter_map (bring (read_source s)) effects in
    let written = filter_map (write_of m (s.pc + 1 + m.control.delay)) bs ++ s.written in
    let ts = filter_map (start_of m written) bs in
    or_faulted s _ (fault_of s effects bs ts) (or_waited s _ (waits s ts) (acted u m s bs ts written))

-- a cycle outputs after what was output before
pub cycles_grow : (u : Units) (m : Machine) (code : Code) → OutputGrows (meaning_of u m code)
unfolding next
cycles_grow u m code = λ s. of s s.outcome where
  of : (s : State) (o : Outcome) → Begins s.output (next_of u m code s o).output
  of s Running = carried u m s (slice_get code.words s.pc)
  of s Halted = same s.output s.output refl
  of s Waiting = same s.output s.output refl
  of s (Fault number at) = same s.output s.output refl

-- a state that waits stays, and has output what it had before
pub cycles_wait : (u : Units) (m : Machine) (code : Code) → WaitStays (meaning_of u m code)
unfolding next
cycles_wait u m code = record { stays = λ s. refl; output = λ s. refl }

-- and it reports that it waits
pub cycles_report : (u : Units) (m : Machine) (code : Code) → WaitReports (meaning_of u m code) reports
cycles_report u m code = record { ended = λ s. refl; memory = λ s. refl; count = λ s. refl }
