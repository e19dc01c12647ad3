-- The cycles of cores use their queues as such.
use Rattle.std.proofs.Common.{◌≡◌, ℕ, ◌+◌, ◌==◌, ◌&&◌, Bool, true, false, IsTrue, List, [], ◌∷◌, ◌++◌, fold, Option, Some, None, refl, sym, ap, ◌∙◌}
use Rattle.std.specs.Prelude.{if◌then◌else◌, slice_get, slice_index, is_none}
use Rattle.std.specs.Option.{option_map_or}
use Rattle.std.specs.List.{list_any, filter_map, cons_option, AllByRecursion}
use Rattle.std.proofs.lemmas.Bool.{or_parts}
use Rattle.tta_arch.proofs.Outputs.{puts_prefix}
use Rattle.tta_list.proofs.Prefixes.{prefix_same, prefix_chain}
use Rattle.tta_kahn.specs.Cited.{IsPrefixOf, left, Units, Op, Ldw, Stw, Ldf, Stf, Out, Set, Machine, IsMachine, Kind, Jumps, Calls, Halts, Written, Brought, Start, has_result, result_word, store_data, store_frame, put_out, bring, write_of, take_in, control_of, first_some, Instruction, Code, IsLegalCode, is_legal, Fault, Result', Pending, result_of, read_source, effects_of, fault_of, pending_after, takes_effect, lands, acts, or_wait, or_fault}
use Rattle.tta_list.proofs.Lists.{all_one}
use Rattle.tta_arch.specs.declared.parts.Op.TheVariants.{Take}
use Rattle.tta_arch.specs.Effects.{takes}
use Rattle.tta_code.specs.Cycle.{State, Outcome, Running, Halted, Waiting, waits, carry_out, next_of, next}
use Rattle.tta_kahn.specs.declared.cores.Core.{Core}
use Rattle.tta_kahn.specs.Queues.{UsesQueues}
use Rattle.tta_kahn.specs.Cluster.{is_waiting, cycle_of, cycles_given}
use Rattle.tta_kahn.specs.Laws.{IsCore}
use Rattle.tta_kahn.proofs.ProgramQueues.{first_more, index_more, one_off}
use Rattle.tta_kahn.proofs.Takes.{started_by, leaves, leaves_more}

-- What a step from a state to the next does with its queues; with more input it comes to another.
pub record CyclesSo (s next : State) (others : List ℕ → State) : Type 0 where
  pub grows : IsPrefixOf s.output next.output
  pub takes : (taken : List ℕ) × (s.rest ≡ taken ++ next.rest)
  pub more : (words : List ℕ) → is_waiting next.outcome ≡ false → others words ≡ record next { rest = next.rest ++ words }
  pub still : is_waiting next.outcome ≡ true → next.output ≡ s.output

-- nothing is done
stays_so : (s : State) → CyclesSo s s (λ words. record s { rest = s.rest ++ words })
stays_so s = record { grows = prefix_same _ _ refl; takes = ([], refl); more = λ words goes. refl; still = λ waits. refl }

-- ---- control

-- what a control move leaves that takes effect
record LandsSo (s after : State) : Type 0 where
  output : after.output ≡ s.output
  rest : after.rest ≡ s.rest
  goes : is_waiting s.outcome ≡ false → is_waiting after.outcome ≡ false

lands_so : (s : State) (o : Option Pending) → LandsSo s (lands s o)
lands_so s None = record { output = refl; rest = refl; goes = λ e. e }
lands_so s (Some p) = by (p.time == s.cycle) where
  kind : (k : Kind) → p.kind ≡ k → LandsSo s (takes_effect s p)
  kind Jumps e = record { output = rw e refl; rest = rw e refl; goes = λ g. rw e g }
  kind Calls e = record { output = rw e refl; rest = rw e refl; goes = λ g. rw e g }
  kind Halts e = record { output = rw e refl; rest = rw e refl; goes = λ g. rw e refl }

  by : (b : Bool) → LandsSo s (if b then takes_effect s p else s)
  by true = kind p.kind refl
  by false = record { output = refl; rest = refl; goes = λ e. e }

lands_more : (words : List ℕ) (s : State) (o : Option Pending) → lands (record s { rest = s.rest ++ words }) o ≡ record (lands s o) { rest = (lands s o).rest ++ words }
lands_more words s None = refl
lands_more words s (Some p) = by (p.time == s.cycle) where
  more : State → State
  more t = record t { rest = t.rest ++ words }

  kind : (k : Kind) → p.kind ≡ k → takes_effect (more s) p ≡ more (takes_effect s p)
  kind Jumps e = rw e refl
  kind Calls e = rw e refl
  kind Halts e = rw e refl

  by : (b : Bool) → (if b then takes_effect (more s) p else more s) ≡ more (if b then takes_effect s p else s)
  by true = kind p.kind refl
  by false = refl

-- ---- a cycle

left_off : (b : Bool) (rest : List ℕ) → (taken : List ℕ) × (rest ≡ taken ++ left b rest)
left_off true rest = one_off rest
left_off false rest = ([], refl)

waits_longer : (b : Bool) (rest words : List ℕ) → (b && is_none (slice_get rest 0)) ≡ false → (b && is_none (slice_get (rest ++ words) 0)) ≡ false
waits_longer false rest words e = refl
waits_longer true rest words e = first_more rest words e

-- the result that an operation begins where this is the next word of the input
abbrev begun : Units → State → (next : ℕ) → Start → Option Result'
begun u s next t =
    if has_result t.does.op then Some (record { unit = t.unit; due = s.cycle + t.does.latency; value = result_word u s.memory s.frame next t t.does.op }) else None

-- it does not depend on that word where no operation takes one
begun_same : (u : Units) (s : State) (n k : ℕ) (ts : List Start) → list_any takes ts ≡ false → filter_map (begun u s n) ts ≡ filter_map (begun u s k) ts
begun_same u s n k [] none = refl
begun_same u s n k (t ∷ ts) none =
    let both = or_parts (takes t) (list_any takes ts) none in
    ap (λ o. cons_option o (filter_map (begun u s n) ts)) (one t.does.op refl both.0) ∙ ap (cons_option (begun u s k t)) (begun_same u s n k ts both.1)
  where
    one : (o : Op) → t.does.op ≡ o → takes t ≡ false → begun u s n t ≡ begun u s k t
    one Ldw e none = rw e refl
    one Stw e none = rw e refl
    one Ldf e none = rw e refl
    one Stf e none = rw e refl
    one Out e none = rw e refl
    one Take e none = absurd (let odd : takes t ≡ true = rw e refl in let off : true ≡ false = sym odd ∙ none in cc)
    one (Set id) e none = rw e refl

module _ (u : Units) (m : Machine) (rules : IsMachine m) (i : Instruction) (legal : is_legal m i ≡ true) (s : State) where
  abbrev bs : List Brought
  bs = filter_map (bring (read_source s)) (effects_of m i)

  abbrev written : Written
  written = filter_map (write_of m (s.pc + 1 + m.control.delay)) bs ++ s.written

  abbrev ts : List Start
  ts = started_by m (read_source s) written i

  abbrev pending : Option Pending
  pending = pending_after m s (first_some control_of bs)

  -- the state after the cycle, before a control move whose time has come takes effect; the next word and the rest of the input
  -- stand apart
  abbrev before : (next : ℕ) (rest : List ℕ) → State
  before next rest = record {
    written = written;
    started = filter_map (begun u s next) ts ++ s.started;
    memory = fold store_data s.memory ts;
    frame = fold store_frame s.frame ts;
    rest = rest;
    output = fold put_out s.output ts;
    pc = s.pc + 1;
    cycle = s.cycle + 1;
    pending = pending;
    outcome = Running;
  }

  abbrev first : State
  first = before (slice_index s.rest 0) (fold take_in s.rest ts)

  -- the results that begin are the same with more input
  results_more : (words : List ℕ) → waits s ts ≡ false → filter_map (result_of u (record s { rest = s.rest ++ words })) ts ≡ filter_map (result_of u s) ts
  results_more words goes = by (list_any takes ts) refl where
    by : (b : Bool) → list_any takes ts ≡ b → filter_map (result_of u (record s { rest = s.rest ++ words })) ts ≡ filter_map (result_of u s) ts
    by true e =
        let some : is_none (slice_get s.rest 0) ≡ false = sym (ap (λ b. b && is_none (slice_get s.rest 0)) e) ∙ goes in
        ap (λ (n : ℕ). filter_map (begun u s n) ts) (index_more s.rest words some)
    by false e = begun_same u s (slice_index (s.rest ++ words) 0) (slice_index s.rest 0) ts e

  acts_more : (words : List ℕ) → waits s ts ≡ false → acts u m (record s { rest = s.rest ++ words }) bs ts written ≡ record (acts u m s bs ts written) { rest = (acts u m s bs ts written).rest ++ words }
  acts_more words goes =
      ap (λ (rs : List Result'). lands (record (before 0 (fold take_in (s.rest ++ words) ts)) { started = rs ++ s.started }) pending) (results_more words goes)
      ∙ ap (λ (r : List ℕ). lands (before (slice_index s.rest 0) r) pending) (leaves_more m rules i legal (read_source s) written s.rest words goes)
      ∙ lands_more words first pending

  acts_so : waits s ts ≡ false → CyclesSo s (acts u m s bs ts written) (λ words. acts u m (record s { rest = s.rest ++ words }) bs ts written)
  acts_so goes =
      let landed = lands_so first pending in
      record {
        grows = prefix_chain _ _ _ (puts_prefix ts s.output) (prefix_same _ _ (sym landed.output));
        takes =
            let off = left_off (list_any takes ts) s.rest in
            (off.0, off.1 ∙ ap (λ (r : List ℕ). off.0 ++ r) (sym (landed.rest ∙ leaves m rules i legal (read_source s) written s.rest)));
        more = λ words _. acts_more words goes;
        still = λ waits. absurd (let odd : true ≡ false = sym waits ∙ landed.goes refl in cc);
      }

  carry_so : is_waiting s.outcome ≡ false → CyclesSo s (carry_out u m s (Some i)) (λ words. carry_out u m (record s { rest = s.rest ++ words }) (Some i))
  carry_so running = fault (fault_of s (effects_of m i) bs ts) where
    wait : (b : Bool) → waits s ts ≡ b
        → CyclesSo s (or_wait s b (acts u m s bs ts written))
        (λ words. or_wait (record s { rest = s.rest ++ words }) (waits (record s { rest = s.rest ++ words }) ts) (acts u m (record s { rest = s.rest ++ words }) bs ts written))
    wait true e = record { grows = prefix_same _ _ refl; takes = ([], refl); more = λ words goes. absurd (let odd : true ≡ false = goes in cc); still = λ waits. refl }
    wait false e =
        let so = acts_so e in
        record {
          grows = so.grows;
          takes = so.takes;
          more = λ words goes.
              ap (λ (b : Bool). or_wait (record s { rest = s.rest ++ words }) b (acts u m (record s { rest = s.rest ++ words }) bs ts written))
              (waits_longer (list_any takes ts) s.rest words e)
              ∙ so.more words goes;
          still = so.still;
        }

    fault : (o : Option ℕ)
        → CyclesSo s (or_fault s o (or_wait s (waits s ts) (acts u m s bs ts written)))
        (λ words. or_fault (record s { rest = s.rest ++ words }) o
        (or_wait (record s { rest = s.rest ++ words }) (waits (record s { rest = s.rest ++ words }) ts) (acts u m (record s { rest = s.rest ++ words }) bs ts written)))
    fault None = wait (waits s ts) refl
    fault (Some number) = record { grows = prefix_same _ _ refl; takes = ([], refl); more = λ words goes. refl; still = λ waits. refl }

module _ (u : Units) (m : Machine) (code : Code) (rules : IsMachine m) (legal : IsLegalCode m code) where
  next_so : (s : State) → CyclesSo s (next u m code s) (λ words. next u m code (record s { rest = s.rest ++ words }))
  unfolding next
  next_so s = by s.outcome refl where
    word : (o : Option Instruction) → slice_get code.words s.pc ≡ o → is_waiting s.outcome ≡ false
        → CyclesSo s (carry_out u m s o) (λ words. carry_out u m (record s { rest = s.rest ++ words }) o)
    word None at running = record { grows = prefix_same _ _ refl; takes = ([], refl); more = λ words goes. refl; still = λ waits. refl }
    word (Some i) at running = carry_so u m rules i (all_one (λ i. IsTrue (is_legal m i)) code.words s.pc i legal.words at) s running

    by : (o : Outcome) → s.outcome ≡ o → CyclesSo s (next_of u m code s o) (λ words. next_of u m code (record s { rest = s.rest ++ words }) o)
    by Running e = word (slice_get code.words s.pc) refl (ap is_waiting e)
    by Halted e = stays_so s
    by Waiting e = stays_so s
    by (Fault number cycle) e = stays_so s

  next_stays : (s : State) → is_waiting s.outcome ≡ true → next u m code s ≡ s
  unfolding next
  next_stays s waits = by s.outcome waits where
    by : (o : Outcome) → is_waiting o ≡ true → next_of u m code s o ≡ s
    by Running e = absurd (let odd : false ≡ true = e in cc)
    by Halted e = refl
    by Waiting e = refl
    by (Fault number cycle) e = refl

module _ (u : Units) (cores : List Core) (all : AllByRecursion IsCore cores) where
  cycle_so : (core : ℕ) (s : State) → CyclesSo s (cycle_of u cores core s) (λ words. cycle_of u cores core (record s { rest = s.rest ++ words }))
  cycle_so core s = by (slice_get cores core) refl where
    by : (o : Option Core) → slice_get cores core ≡ o
        → CyclesSo s (option_map_or (λ c. next u c.machine c.code s) o s)
        (λ words. option_map_or (λ c. next u c.machine c.code (record s { rest = s.rest ++ words })) o (record s { rest = s.rest ++ words }))
    by None at = stays_so s
    by (Some c) at = let is = all_one IsCore cores core c all at in next_so u c.machine c.code is.machine is.legal s

  cycle_stays : (core : ℕ) (s : State) → is_waiting s.outcome ≡ true → cycle_of u cores core s ≡ s
  cycle_stays core s waits = by (slice_get cores core) refl where
    by : (o : Option Core) → slice_get cores core ≡ o → option_map_or (λ c. next u c.machine c.code s) o s ≡ s
    by None at = refl
    by (Some c) at = let is = all_one IsCore cores core c all at in next_stays u c.machine c.code is.machine is.legal s waits

  pub cores_use : (feeds : List (Option ℕ)) (given : ℕ → List ℕ) → UsesQueues (cycles_given u cores feeds given)
  cores_use feeds given = record {
    rest_is = λ s words. refl;
    again = λ s words others. refl;
    itself = λ s. refl;
    output_is = λ s words. refl;
    waits_is = λ s words. refl;
    grows = λ core s. (cycle_so core s).grows;
    takes = λ core s. (cycle_so core s).takes;
    more = λ core s words goes. (cycle_so core s).more words goes;
    stays = cycle_stays;
    still = λ core s waits. (cycle_so core s).still waits;
  }
