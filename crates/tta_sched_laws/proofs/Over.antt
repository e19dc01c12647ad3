-- A run that is over stays where it is, and what was output stays.
use Rattle.std.proofs.Common.{◌≡◌, ◌≢◌, ◌⊎◌, inl, inr, ℕ, zero, suc, ◌+◌, ◌-◌, ◌≤◌, Bool, true, false, List, ◌++◌, Option, Some, None, refl, sym, ap, subst, arith}
use Rattle.std.specs.Prelude.{slice_get, fold, if◌then◌else◌, ◌==◌}
use Rattle.std.proofs.lemmas.Bool.{cases_lt}
use Rattle.tta_sched_laws.specs.Cited.{iterate, Units, Machine, Kind, Jumps, Calls, Halts, Effect, Written, Brought, Start, start_of, bring, write_of, put_out, first_some, control_of, IsPrefixOf, Instruction, Code, State, Outcome, Fault, Pending, lands, takes_effect, or_fault, or_wait, carry_out, next_of, next, effects_of, read_source, fault_of, waits, pending_after}
use Rattle.std.specs.List.{filter_map}
use Rattle.tta_list.proofs.Prefixes.{prefix_same, prefix_chain}
use Rattle.tta_list.proofs.Iterated.{iterate-add, iterate-later}
use Rattle.tta_arch.proofs.Outputs.{puts_prefix}
use Rattle.tta_code.specs.Cycle.{Running, Halted, Waiting, acts}

-- ---- prefixes

-- ---- the output of a cycle

lands_output : (s : State) (o : Option Pending) → (lands s o).output ≡ s.output
lands_output s None = refl
lands_output s (Some p) = on (p.time == s.cycle) where
  kind : (k : Kind) → p.kind ≡ k → (takes_effect s p).output ≡ s.output
  kind Jumps e = rw e refl
  kind Calls e = rw e refl
  kind Halts e = rw e refl

  on : (b : Bool) → (if b then takes_effect s p else s).output ≡ s.output
  on true = kind p.kind refl
  on false = refl

next_prefix : (u : Units) (m : Machine) (code : Code) (s : State) → IsPrefixOf s.output (next u m code s).output
unfolding next
next_prefix u m code s = on s.outcome where
  word : (o : Option Instruction) → IsPrefixOf s.output (carry_out u m s o).output
  word None = prefix_same s.output s.output refl
  word (Some i) = fault (fault_of s effects bs ts) where
    effects : List Effect
    effects = effects_of m i

    bs : List Brought
    bs = filter_map (bring (read_source s)) effects

    written : Written
    written = filter_map (write_of m (s.pc + 1 + m.control.delay)) bs ++ s.written

    ts : List Start
    ts = filter_map (start_of m written) bs

    act : IsPrefixOf s.output (acts u m s bs ts written).output
    act = prefix_chain s.output (fold put_out s.output ts) (acts u m s bs ts written).output (puts_prefix ts s.output) (prefix_same (fold put_out s.output ts) (acts u m s bs ts written).output (sym (lands_output _ (pending_after m s (first_some control_of bs)))))

    wait : (b : Bool) → IsPrefixOf s.output (or_wait s b (acts u m s bs ts written)).output
    wait true = prefix_same s.output s.output refl
    wait false = act

    fault : (o : Option ℕ) → IsPrefixOf s.output (or_fault s o (or_wait s (waits s ts) (acts u m s bs ts written))).output
    fault None = wait (waits s ts)
    fault (Some k) = prefix_same s.output s.output refl

  on : (o : Outcome) → IsPrefixOf s.output (next_of u m code s o).output
  on Running = word (slice_get code.words s.pc)
  on Halted = prefix_same s.output s.output refl
  on Waiting = prefix_same s.output s.output refl
  on (Fault number cycle) = prefix_same s.output s.output refl

-- ---- runs

module _ (u : Units) (m : Machine) (code : Code) (s : State) where
  abbrev at : ℕ → State
  at n = iterate n (next u m code) s

  later_prefix : (a b : ℕ) → IsPrefixOf (at a).output (iterate b (next u m code) (at a)).output
  later_prefix a zero = prefix_same (at a).output (at a).output refl
  later_prefix a (suc b) = prefix_chain (at a).output (iterate b (next u m code) (at a)).output (next u m code (iterate b (next u m code) (at a))).output (later_prefix a b) (next_prefix u m code (iterate b (next u m code) (at a)))

  sum_is : (a b : ℕ) → a ≤ b → a + (b - a) ≡ b
  sum_is a b le = omega arith

  -- what was output stays
  pub output_stays : (a b : ℕ) → a ≤ b → IsPrefixOf (at a).output (at b).output
  output_stays a b le = subst (λ (n : ℕ). IsPrefixOf (at a).output (at n).output) (sum_is a b le)
      (subst (λ (t : State). IsPrefixOf (at a).output t.output) (sym (iterate-add a (b - a) (next u m code) s)) (later_prefix a (b - a)))

  stays : (o : Outcome) → o ≢ Running → (t : State) → t.outcome ≡ o → next u m code t ≡ t
  unfolding next
  stays Running h t e = absurd (h refl)
  stays Halted h t e = rw e refl
  stays Waiting h t e = rw e refl
  stays (Fault number cycle) h t e = rw e refl

  -- a run that is over stays where it is
  pub over_stays : (a b : ℕ) → a ≤ b → (at a).outcome ≢ Running → at b ≡ at a
  over_stays a b le h = iterate-later (next u m code) a b s le (stays (at a).outcome h (at a) refl)

  -- two moments at which it is over are one
  pub over_same : (a b : ℕ) → (at a).outcome ≢ Running → (at b).outcome ≢ Running → at a ≡ at b
  over_same a b h k = elim (cases_lt a b) [
    | inl lt ↦ sym (over_stays a b (omega arith) h)
    | inr le ↦ over_stays b a le k
  ]

  -- what was output by the one moment begins what was output by the other, unless the other is earlier and the run goes on
  pub output_before : (a b : ℕ) → (a ≤ b) ⊎ ((at b).outcome ≢ Running) → IsPrefixOf (at a).output (at b).output
  output_before a b (inl le) = output_stays a b le
  output_before a b (inr over) = elim (cases_lt a b) [
    | inl lt ↦ output_stays a b (omega arith)
    | inr le ↦ prefix_same (at a).output (at b).output (ap (λ (t : State). t.output) (over_stays b a le over))
  ]
