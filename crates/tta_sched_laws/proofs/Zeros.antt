-- What more input makes of a cycle.
use Rattle.std.proofs.Common.{◌≡◌, ◌⊎◌, inl, inr, ℕ, zero, suc, ◌+◌, ◌<◌, Bool, true, false, List, ◌++◌, Option, Some, None, refl, sym, ap, ◌∙◌, arith, replicate}
use Rattle.std.specs.Prelude.{slice_get, ◌==◌, ◌&&◌, is_none, if◌then◌else◌, fold}
use Rattle.std.specs.List.{filter_map, list_any}
use Rattle.std.proofs.lemmas.Bool.{cases_lt}
use Rattle.tta_sched_laws.specs.Cited.{Machine, Kind, Jumps, Calls, Halts, Written, Brought, Start, has_result, result_word, store_data, store_frame, put_out, takes, take_in, control_of, Units, State, Result', result_of, pending_after, lands, next}
use Rattle.tta_arch.specs.Effects.{first_some as pick}
use Rattle.tta_code.specs.Cycle.{Running, acts as act_cycle}
use Rattle.tta_code.specs.Cycle as machine
use Rattle.tta_sched_laws.proofs.Padded.{first_pad, left_pad}
use Rattle.tta_sched_laws.proofs.Pick.{Has, any_has}
use Rattle.tta_sched_laws.proofs.Spaces.{once_started}
use Rattle.tta_moves.proofs.Places.{either}

-- ---- more input

-- a state with zeros after its input
abbrev pub more : ℕ → State → State
more z s = record s { rest = s.rest ++ replicate z 0 }

-- of the operations that start, one at most takes a word
pub record OneTake (ts : List Start) : Type 0 where
  pub taken : Option Start
  pub whole : (w : List ℕ) → fold take_in w ts ≡ once_started take_in w taken
  pub there : (t : Start) → taken ≡ Some t → Has ts t

pub find_below : (p : ℕ → Bool) (k : ℕ) → ((j : ℕ) × (j < k) × (p j ≡ true)) ⊎ ((j : ℕ) → j < k → p j ≡ false)
find_below p zero = inr (λ j lt. absurd (omega arith))
find_below p (suc k) = either (p k)
    (λ e. inl (k, omega arith, e))
    (λ e. elim (find_below p k) [
      | inl r ↦ inl (r.0, omega (arith, r.1), r.2)
      | inr none ↦ inr (λ j lt. elim (cases_lt j k) [ inl less ↦ none j less | inr le ↦ let same : j ≡ k = omega arith in rw same e ])
    ])

-- what is taken of an input, and of the same with zeros after it
pub take_more_in : (z : ℕ) (r : List ℕ) (ts : List Start) → OneTake ts → (list_any takes ts && is_none (slice_get r 0)) ≡ false → fold take_in (r ++ replicate z 0) ts ≡ fold take_in r ts ++ replicate z 0
take_more_in z r ts one still = one.whole (r ++ replicate z 0) ∙ on one.taken one.there ∙ sym (ap (λ (w : List ℕ). w ++ replicate z 0) (one.whole r)) where
  on : (o : Option Start) → ((t : Start) → o ≡ Some t → Has ts t) → once_started take_in (r ++ replicate z 0) o ≡ once_started take_in r o ++ replicate z 0
  on None there = refl
  on (Some t) there = left_pad z r (takes t) (quiet (takes t) refl) where
    quiet : (b : Bool) → takes t ≡ b → (b && is_none (slice_get r 0)) ≡ false
    quiet false e = refl
    quiet true e = let g : (true && is_none (slice_get r 0)) ≡ false = rw (any_has takes ts t (there t refl) e) at still in g

lands_more : (z : ℕ) (s : State) (o : Option machine.Pending) → lands (more z s) o ≡ more z (lands s o)
lands_more z s None = refl
lands_more z s (Some p) = on (p.time == s.cycle) where
  kind : (k : Kind) → p.kind ≡ k → machine.takes_effect (more z s) p ≡ more z (machine.takes_effect s p)
  kind Jumps e = rw e refl
  kind Calls e = rw e refl
  kind Halts e = rw e refl

  on : (b : Bool) → (if b then machine.takes_effect (more z s) p else more z s) ≡ more z (if b then machine.takes_effect s p else s)
  on true = kind p.kind refl
  on false = refl

results_more : (u : Units) (z : ℕ) (s : State) (ts : List Start) → filter_map (result_of u (more z s)) ts ≡ filter_map (result_of u s) ts
results_more u z s ts = ap (λ (next : ℕ). filter_map (λ t. if has_result t.does.op then Some (record { unit = t.unit; due = s.cycle + t.does.latency; value = result_word u s.memory s.frame next t t.does.op }) else None) ts) (first_pad z s.rest)

pub act_more : (u : Units) (m : Machine) (z : ℕ) (s : State) (bs : List Brought) (ts : List Start) (written : Written) → fold take_in (s.rest ++ replicate z 0) ts ≡ fold take_in s.rest ts ++ replicate z 0
    → act_cycle u m (more z s) bs ts written ≡ more z (act_cycle u m s bs ts written)
act_more u m z s bs ts written e =
    ap (λ (rs : List Result'). lands (record (after_cycle s bs ts written) { started = rs ++ s.started; rest = fold take_in (s.rest ++ replicate z 0) ts }) (pending_after m s (pick control_of bs))) (results_more u z s ts)
    ∙ ap (λ (r : List ℕ). lands (record (after_cycle s bs ts written) { rest = r }) (pending_after m s (pick control_of bs))) e
    ∙ lands_more z (after_cycle s bs ts written) (pending_after m s (pick control_of bs)) where
      after_cycle : State → List Brought → List Start → Written → State
      after_cycle s bs ts written = record {
        written = written;
        started = filter_map (result_of u s) ts ++ s.started;
        memory = fold store_data s.memory ts;
        frame = fold store_frame s.frame ts;
        rest = fold take_in s.rest ts;
        output = fold put_out s.output ts;
        pc = s.pc + 1;
        cycle = s.cycle + 1;
        pending = pending_after m s (pick control_of bs);
        outcome = Running;
      }
