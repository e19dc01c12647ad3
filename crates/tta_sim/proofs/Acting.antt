-- A cycle of what is held is a cycle of the state that it stands for.
use Rattle.std.proofs.Common.{◌≡◌, ℕ, ◌<◌, ◌+◌, ◌==◌, true, false, IsTrue, List, ◌++◌, length, map, Option, Some, None, Bool, ◌&&◌, refl, sym, ap, ◌∙◌, subst, arith}
use Rattle.std.specs.Prelude.{is_some, is_none, option_map, slice_get, option_to_list, fold, if◌then◌else◌}
use Rattle.std.specs.Option.{unwrap_or}
use Rattle.std.specs.List.{filter_map, find, list_any, AllByRecursion}
use Rattle.tta_sim.specs.Cited.{Units, Machine, IsMachine, Kind, Jumps, Calls, Halts, KeptOperand, Written, Brought, Start, Reads, bring, write_of, start_of, first_some, control_of, store_data, store_frame, put_out, takes, take_in, Instruction, is_legal, Result', State, Waiting, Fault, read_source, effects_of, fault_of, result_of, pending_after, takes_effect, lands, acts, or_fault, or_wait, waits, carry_out, IsFed, left}
use Rattle.tta_code.specs.Cycle.{Pending as Underway, Running}
use Rattle.tta_sim.specs.declared.cycle_step.CycleStep.TheVariants.{Ran, Waiting as Waits, Fault as Faults}
use Rattle.tta_sim.specs.declared.control.Control.{Control}
use Rattle.tta_sim.specs.declared.control.Pending.{Pending}
use Rattle.tta_sim.specs.declared.control.Phase.{Phase}
use Rattle.tta_sim.specs.declared.control.Phase.TheVariants as phase
use Rattle.tta_sim.specs.declared.decoded.Line.{Line}
use Rattle.tta_sim.specs.declared.store.Store.{Store}
use Rattle.tta_sim.specs.Places.{HasWritten, is_place}
use Rattle.tta_sim.specs.Results.{Results, AreResultsOf, shown_by}
use Rattle.tta_sim.specs.Moves.{Arrival, is_possible_slot, reads_of, arrivals_of, brought_of}
use Rattle.tta_sim.specs.Starts.{starts_of, operand_with, fault_in, begun, puts, acting_in}
use Rattle.tta_sim.specs.Writing.{long_writes}
use Rattle.tta_sim.specs.Controls.{underway, outcome_of, controlled, pending_with}
use Rattle.tta_sim.specs.Held.{StandsWith, is_fault}
use Rattle.tta_sim.specs.Kept.{held_of, IsCarried}
use Rattle.tta_sim.proofs.Possible.{possible}
use Rattle.tta_sim.proofs.Agreeing.{long_brought, brings_all}
use Rattle.tta_sim.proofs.Starting.{reachable, outputs_apart, inputs_apart, put_once, all_there}
use Rattle.tta_sim.proofs.Taking.{next_word}
use Rattle.tta_sim.proofs.Wrote.{writes_all, starts_all}
use Rattle.tta_sim.proofs.Faulting.{fault_same, acting_all}
use Rattle.tta_arch.proofs.Takes.{take_once}

-- ---- control

is_some_underway : (o : Option Pending) → is_some o ≡ is_some (option_map underway o)
is_some_underway None = refl
is_some_underway (Some p) = refl

-- the control move that is under way after the cycle
pending_same : (m : Machine) (s : State) (now : ℕ) (before : Option Underway) (acting acting' : Option (Kind × ℕ)) → now ≡ s.cycle + 1 → before ≡ s.pending
    → acting ≡ acting' → pending_with now m.control.delay before acting ≡ pending_after m s acting'
pending_same m s now before acting acting' cycle same controls = ap (pending_with now m.control.delay before) controls ∙ by acting' where
  by : (o : Option (Kind × ℕ)) → pending_with now m.control.delay before o ≡ pending_after m s o
  by None = same
  by (Some c) =
      let p : ℕ → Option Underway = λ time. Some (record { time = time; kind = c.0; word = c.1 }) in
      ap p (ap (λ n. n + m.control.delay) cycle)

-- a state goes on to the same where address, control move and phase are the same
pub lands_same : (t : State) (now : ℕ) {pc pc' : ℕ} {p p' : Option Underway} {f f' : Phase} → pc ≡ pc' → p ≡ p' → f ≡ f'
    → lands (record t { pc = pc + 1; pending = p; outcome = outcome_of now f }) p ≡ lands (record t { pc = pc' + 1; pending = p'; outcome = outcome_of now f' }) p'
lands_same t now {pc' = pc'} {p = p} {p' = p'} {f = f} pc_is pending phase =
    ap (λ n. lands (record t { pc = n + 1; pending = p; outcome = outcome_of now f }) p) pc_is
    ∙ ap (λ o. lands (record t { pc = pc' + 1; pending = o; outcome = outcome_of now f }) o) pending
    ∙ ap (λ x. lands (record t { pc = pc' + 1; pending = p'; outcome = outcome_of now x }) p') phase

lands_runs : (s : State) (p : Option Underway) → s.outcome ≡ Running → is_fault (lands s p).outcome ≡ false
lands_runs s None running = ap is_fault running
lands_runs s (Some p) running = elim (p.time == s.cycle) as (λ b. is_fault (if b then takes_effect s p else s).outcome ≡ false) [ true ↦ takes p.kind | false ↦ ap is_fault running ] where
  takes : (k : Kind) → is_fault (takes_effect s (record p { kind = k })).outcome ≡ false
  takes Jumps = ap is_fault running
  takes Calls = ap is_fault running
  takes Halts = refl

lands_rest : (s : State) (p : Option Underway) → (lands s p).rest ≡ s.rest
lands_rest s None = refl
lands_rest s (Some p) = elim (p.time == s.cycle) as (λ b. (if b then takes_effect s p else s).rest ≡ s.rest) [ true ↦ same p.kind | false ↦ refl ] where
  same : (k : Kind) → (takes_effect s (record p { kind = k })).rest ≡ s.rest
  same Jumps = refl
  same Calls = refl
  same Halts = refl

-- ---- a cycle

module _ (u : Units) (m : Machine) (rules : IsMachine m) (i : Instruction) (legal : is_legal m i ≡ true) (lines : List Line) (store : Store) (r : Results) (control : Control) (s : State)
    (size : r.units ≡ length m.units) (same : StandsWith r (held_of lines store control) s) where
  -- the word of each source, by what the simulator holds
  abbrev reads : Reads
  reads = reads_of store.places (shown_by r)

  -- the words that the moves of the instruction bring to their destinations
  abbrev arrivals : List Arrival
  arrivals = arrivals_of reads i.moves

  -- the words that the instruction brings in the state, that of its long immediate among them
  abbrev bs : List Brought
  bs = filter_map (bring (read_source s)) (effects_of m i)

  -- the address that a call of this cycle comes back to
  abbrev back : ℕ
  back = s.pc + 1 + m.control.delay

  -- what was written into each place once the words of this cycle are there, the newest first
  abbrev written : Written
  written = filter_map (write_of m back) bs ++ s.written

  -- the operations that the instruction starts in the state
  abbrev ts : List Start
  ts = filter_map (start_of m written) bs

  slots : AllByRecursion (λ slot. IsTrue (is_possible_slot (length m.units) slot)) i.moves
  slots = (possible m rules i legal).slots

  brought : bs ≡ map brought_of arrivals ++ long_brought m i.long
  brought = brings_all store.places r s (length m.units) same.places same.results size m i slots

  starting : ts ≡ starts_of m store.places arrivals
  starting =
      let few = rules.limits.units in
      ap (λ b. filter_map (start_of m (filter_map (write_of m back) b ++ s.written)) b) brought
      ∙ starts_all m back store.places arrivals i.long s.written (length m.units)
      (λ unit within. same.places (KeptOperand unit) (place unit (omega (arith, within, few)))) (reachable (length m.units) reads i.moves slots)
    where
      place : (unit : ℕ) → unit < 32 → is_place (KeptOperand unit) ≡ true
      place unit less = grind (arith, less)

  fault_is : fault_in m store.places r (is_some control.pending) i.moves ≡ fault_of s (effects_of m i) bs ts
  fault_is =
      fault_same store.places r s m i same.places same.results size slots (is_some control.pending)
      (is_some_underway control.pending ∙ ap is_some same.pending) bs ts brought starting
      (subst (λ list. AllByRecursion (λ t. t.unit < r.units) list) (sym starting) (all_there m r.units size (operand_with store.places arrivals) arrivals))

  -- a cycle that faults
  pub carried_fault : (number : ℕ) → fault_in m store.places r (is_some control.pending) i.moves ≡ Some number
      → IsCarried r (held_of lines store (record control { phase = phase.Fault number })) s (carry_out u m s (Some i)) (Faults number)
  carried_fault number faults =
      let next : carry_out u m s (Some i) ≡ record s { outcome = Fault number s.cycle } =
      ap (λ o. or_fault s o (or_wait s (waits s ts) (acts u m s bs ts written))) (sym fault_is ∙ faults) in
      subst (λ after. IsCarried r (held_of lines store (record control { phase = phase.Fault number })) s after (Faults number)) (sym next) (record {
        stands = record {
          places = same.places;
          results = same.results;
          memory = same.memory;
          frame = same.frame;
          pc = same.pc;
          cycle = same.cycle;
          pending = same.pending;
          outcome = ap (Fault number) same.cycle;
        };
        answers = refl;
      })

  -- a cycle that waits
  pub carried_wait : (none : fault_in m store.places r (is_some control.pending) i.moves ≡ None)
      (next : Option ℕ) → IsFed s.rest next → (list_any takes (starts_of m store.places arrivals) && is_none next) ≡ true
      → IsCarried r (held_of lines store control) s (carry_out u m s (Some i)) Waits
  carried_wait none next fed must =
      let waiting : waits s ts ≡ true = ap (λ xs. list_any takes xs && is_none (slice_get s.rest 0)) starting
      ∙ ap (λ o. list_any takes (starts_of m store.places arrivals) && is_none o) fed ∙ must in
      let after : carry_out u m s (Some i) ≡ record s { outcome = Waiting } =
      ap (λ o. or_fault s o (or_wait s (waits s ts) (acts u m s bs ts written))) (sym fault_is ∙ none)
      ∙ ap (λ b. or_wait s b (acts u m s bs ts written)) waiting in
      record { stands = same; answers = after }

  -- a cycle without a fault, which does not wait
  module _ (none : fault_in m store.places r (is_some control.pending) i.moves ≡ None) (running : control.phase ≡ phase.Running)
      (after : Store) (r' : Results) (control' : Control) (arrivals' : List Arrival) (starts' : List Start) (word : Option ℕ) (acting : Option (Kind × ℕ))
      (next : Option ℕ) (took : Bool) (fed : IsFed s.rest next) (took_is : took ≡ list_any takes starts') (goes_on : (took && is_none next) ≡ false)
      (arrivals_are : arrivals' ≡ arrivals) (starts_are : starts' ≡ starts_of m store.places arrivals') where
    starts_ts : starts' ≡ ts
    starts_ts = starts_are ∙ ap (starts_of m store.places) arrivals_are ∙ sym starting

    -- the control move that is under way after the cycle
    abbrev pending : Option Underway
    pending = pending_after m s (first_some control_of bs)

    -- the state after the cycle, before a control move whose time has come takes effect
    abbrev after_all : State
    after_all = record {
      written = written;
      started = filter_map (result_of u s) ts ++ s.started;
      memory = fold store_data s.memory ts;
      frame = fold store_frame s.frame ts;
      rest = fold take_in s.rest ts;
      output = fold put_out s.output ts;
      pc = s.pc + 1;
      cycle = s.cycle + 1;
      pending = pending;
      outcome = Running;
    }

    acted : carry_out u m s (Some i) ≡ lands after_all pending
    acted =
        let on : waits s ts ≡ false = ap (λ o. list_any takes ts && is_none o) fed ∙ ap (λ xs. list_any takes xs && is_none next) (sym starts_ts)
        ∙ ap (λ b. b && is_none next) (sym took_is) ∙ goes_on in
        ap (λ o. or_fault s o (or_wait s (waits s ts) (acts u m s bs ts written))) (sym fault_is ∙ none)
        ∙ ap (λ b. or_wait s b (acts u m s bs ts written)) on

    pub carried : ((ws : Written) → HasWritten store.places ws
        → HasWritten after.places (filter_map (write_of m (control.pc + 1 + m.control.delay)) (map brought_of arrivals') ++ (long_writes m i.long ++ ws)))
        → ((started : List Result') → AreResultsOf started store.cycle r
        → AreResultsOf (filter_map (begun u store.cycle store.memory.items store.frame.items (unwrap_or next 0)) starts' ++ started) (store.cycle + 1) r')
        → after.cycle ≡ store.cycle + 1
        → after.memory.items ≡ fold store_data store.memory.items starts'
        → after.frame.items ≡ fold store_frame store.frame.items starts'
        → word ≡ option_map (λ t. t.word) (find puts starts')
        → acting ≡ acting_in arrivals'
        → ((t : State) → t.cycle ≡ after.cycle
        → let p = pending_with after.cycle m.control.delay (option_map underway control.pending) acting in
        controlled t control' ≡ lands (record t { pc = control.pc + 1; pending = p; outcome = outcome_of after.cycle control.phase }) p)
        → IsCarried r' (held_of lines after control') s (carry_out u m s (Some i)) (Ran word took)
    carried has_written have_results cycle memory frame puts_it controls advances =
        let now : after.cycle ≡ s.cycle + 1 = cycle ∙ ap (λ n. n + 1) same.cycle in
        let p = pending_with after.cycle m.control.delay (option_map underway control.pending) acting in
        let controls_all : acting ≡ first_some control_of bs =
        controls ∙ ap acting_in arrivals_are ∙ sym (acting_all m (map brought_of arrivals) i.long) ∙ ap (first_some control_of) (sym brought) in
        let p_is : p ≡ pending = pending_same m s after.cycle (option_map underway control.pending) acting (first_some control_of bs) now same.pending controls_all in
        let pc : control.pc ≡ s.pc = same.pc in
        let goes : State = record after_all { pc = control.pc + 1; pending = p; outcome = outcome_of after.cycle control.phase } in
        let goes_is : goes ≡ after_all =
        ap {A = ℕ} (λ n. record after_all { pc = n + 1; pending = p; outcome = outcome_of after.cycle control.phase }) pc
        ∙ ap {A = Option Underway} (λ o. record after_all { pending = o; outcome = outcome_of after.cycle control.phase }) p_is
        ∙ ap {A = Phase} (λ f. record after_all { outcome = outcome_of after.cycle f }) running in
        let lands_is : lands after_all pending ≡ controlled after_all control' =
        sym (ap (λ o. lands after_all o) p_is) ∙ sym (ap (λ t. lands t p) goes_is) ∙ sym (advances after_all (sym now)) in
        let total : carry_out u m s (Some i) ≡ controlled after_all control' = acted ∙ lands_is in
        let writes : filter_map (write_of m (control.pc + 1 + m.control.delay)) (map brought_of arrivals') ++ (long_writes m i.long ++ s.written) ≡ written =
        ap (λ n. filter_map (write_of m (n + 1 + m.control.delay)) (map brought_of arrivals') ++ (long_writes m i.long ++ s.written)) pc
        ∙ ap (λ list. filter_map (write_of m back) (map brought_of list) ++ (long_writes m i.long ++ s.written)) arrivals_are
        ∙ sym (writes_all m back (map brought_of arrivals) i.long s.written) ∙ ap (λ b. filter_map (write_of m back) b ++ s.written) (sym brought) in
        let begins : filter_map (begun u store.cycle store.memory.items store.frame.items (unwrap_or next 0)) starts' ≡ filter_map (result_of u s) ts =
        ap (λ n. filter_map (begun u n store.memory.items store.frame.items (unwrap_or next 0)) starts') same.cycle
        ∙ ap (λ w. filter_map (begun u s.cycle w store.frame.items (unwrap_or next 0)) starts') same.memory
        ∙ ap (λ w. filter_map (begun u s.cycle s.memory w (unwrap_or next 0)) starts') same.frame
        ∙ ap (λ n. filter_map (begun u s.cycle s.memory s.frame n) starts') (next_word s.rest next fed)
        ∙ ap (filter_map (result_of u s)) starts_ts in
        let output : fold put_out s.output ts ≡ s.output ++ option_to_list word =
        ap (fold put_out s.output) starting
        ∙ put_once s.output (starts_of m store.places arrivals) (outputs_apart m rules i legal reads (operand_with store.places arrivals))
        ∙ ap (λ list. s.output ++ option_to_list (option_map (λ t. t.word) (find puts list))) (sym starting ∙ sym starts_ts)
        ∙ ap (λ o. s.output ++ option_to_list o) (sym puts_it) in
        let rest : fold take_in s.rest ts ≡ left took s.rest =
        ap (fold take_in s.rest) starting
        ∙ take_once s.rest (starts_of m store.places arrivals) (inputs_apart m rules i legal reads (operand_with store.places arrivals))
        ∙ ap (λ list. left (list_any takes list) s.rest) (sym starting ∙ sym starts_ts)
        ∙ ap (λ b. left b s.rest) (sym took_is) in
        let kept : (controlled after_all control').rest ≡ fold take_in s.rest ts = ap (λ t. t.rest) (sym lands_is) ∙ lands_rest after_all pending in
        let runs : is_fault (controlled after_all control').outcome ≡ false = ap (λ t. is_fault t.outcome) (sym lands_is) ∙ lands_runs after_all pending refl in
        subst (λ t. IsCarried r' (held_of lines after control') s t (Ran word took)) (sym total) (record {
          stands = record {
            places = subst (HasWritten after.places) writes (has_written s.written same.places);
            results =
                subst (λ n. AreResultsOf (filter_map (result_of u s) ts ++ s.started) (n + 1) r') same.cycle
                (subst (λ list. AreResultsOf (list ++ s.started) (store.cycle + 1) r') begins (have_results s.started (subst (λ n. AreResultsOf s.started n r) (sym same.cycle) same.results)));
            memory = memory ∙ ap (λ w. fold store_data w starts') same.memory ∙ ap (fold store_data s.memory) starts_ts;
            frame = frame ∙ ap (λ w. fold store_frame w starts') same.frame ∙ ap (fold store_frame s.frame) starts_ts;
            pc = refl;
            cycle = now;
            pending = refl;
            outcome = ap (λ n. outcome_of n control'.phase) now;
          };
          answers = (runs, output, kept ∙ rest);
        })

    -- the same, where the numbers come by other names
    pub carried_at : (back' delay now : ℕ) → back' ≡ control.pc + 1 + delay → delay ≡ m.control.delay → now ≡ after.cycle
        → ((ws : Written) → HasWritten store.places ws
        → HasWritten after.places (filter_map (write_of m back') (map brought_of arrivals') ++ (long_writes m i.long ++ ws)))
        → ((started : List Result') → AreResultsOf started store.cycle r
        → AreResultsOf (filter_map (begun u store.cycle store.memory.items store.frame.items (unwrap_or next 0)) starts' ++ started) (store.cycle + 1) r')
        → after.cycle ≡ store.cycle + 1
        → after.memory.items ≡ fold store_data store.memory.items starts'
        → after.frame.items ≡ fold store_frame store.frame.items starts'
        → word ≡ option_map (λ t. t.word) (find puts starts')
        → acting ≡ acting_in arrivals'
        → ((t : State) → t.cycle ≡ now
        → let p = pending_with now delay (option_map underway control.pending) acting in
        controlled t control' ≡ lands (record t { pc = control.pc + 1; pending = p; outcome = outcome_of now control.phase }) p)
        → IsCarried r' (held_of lines after control') s (carry_out u m s (Some i)) (Ran word took)
    carried_at back' delay now back_is delay_is now_is has_written have_results cycle memory frame puts_it controls advances =
        let address : back' ≡ control.pc + 1 + m.control.delay = back_is ∙ ap (λ n. control.pc + 1 + n) delay_is in
        carried
        (subst (λ n. (ws : Written) → HasWritten store.places ws → HasWritten after.places (filter_map (write_of m n) (map brought_of arrivals') ++ (long_writes m i.long ++ ws))) address has_written)
        have_results cycle memory frame puts_it controls
        (subst (λ d. (t : State) → t.cycle ≡ after.cycle → let p = pending_with after.cycle d (option_map underway control.pending) acting in
        controlled t control' ≡ lands (record t { pc = control.pc + 1; pending = p; outcome = outcome_of after.cycle control.phase }) p) delay_is
        (subst (λ n. (t : State) → t.cycle ≡ n → let p = pending_with n delay (option_map underway control.pending) acting in
        controlled t control' ≡ lands (record t { pc = control.pc + 1; pending = p; outcome = outcome_of n control.phase }) p) now_is advances))
