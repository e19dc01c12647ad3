-- The state after a cycle.
use Rattle.tta_sched_laws.proofs.Tests.{first_false}
use Rattle.std.proofs.Common.{◌≡◌, ◌⊎◌, inl, inr, ℕ, suc, ◌+◌, ◌<◌, true, false, List, ◌++◌, Some, None, refl, sym, ap, subst, ◌∙◌, arith, replicate}
use Rattle.std.specs.Prelude.{slice_get, ◌==◌, ◌&&◌, is_none, fold}
use Rattle.std.specs.List.{list_any}
use Rattle.std.proofs.lemmas.Bool.Decides.{nat_tests}
use Rattle.std.proofs.Math.Bool.{and-false}
use Rattle.tta_sched_laws.specs.Cited.{Effect, moved, bring, Start, start_of, store_data, store_frame, put_out, takes, take_in, State, read_source, pending_after, lands, waits, or_wait, or_fault, carry_out, next_of, next, read_held}
use Rattle.tta_arch.specs.Effects.{first_some as pick}
use Rattle.tta_code.specs.Cycle.{Running, Waiting, acts as act_cycle}
use Rattle.tta_sched_laws.proofs.Total.{started_by, wants}
use Rattle.tta_sched_laws.proofs.Padded.{longer}
use Rattle.tta_sched_laws.proofs.Pick.{Has, any_none, filter_map_has, any_has, and_then_some}
use Rattle.tta_sched_laws.proofs.Steps.{starting}
use Rattle.tta_sched_laws.proofs.Spaces.{once_started, fold_none, fold_one, fold_cycle, wanted, wants_space, once_noop, data_space, frame_space, out_space, in_space}
use Rattle.tta_sched_laws.proofs.Touches.{started_is}
use Rattle.tta_sched_laws.proofs.Zeros.{more, OneTake, find_below, take_more_in, act_more}
use Rattle.tta_sched_laws.proofs.Listed.{n, move_at, cycle_at, held_at, touches, one_toucher, space_cut, Stands}
use Rattle.tta_sched_laws.proofs.InCycle.{Now, word, vs, bs, new, ts, item_of, has_item}
use Rattle.tta_sched_laws.proofs.Places.{kept_next, starts_same}
use Rattle.tta_sched_laws.proofs.InSpaces.{space_next}
use Rattle.tta_sched_laws.proofs.Results.{news, flights_next, shown, ports_next}
use Rattle.tta_sched_laws.proofs.Faults.{start_of_item, wants_is, chooses, control_is, pending_next, faults_none}
use Rattle.tta_moves.proofs.Places.{either}
use Rattle.tta_sched_laws.proofs.Items.{and_parts as and_split}

module _ (moment : Now) where
  open moment use {run, c, s, lt, st}
  open run use {u, m, back, placed, h, len, f, code, base, begin, carries, back_is}

  -- no word of the input is wanted before the stop
  pub no_want : c < f.stop → waits s (ts moment) ≡ false
  no_want before = either (is_none (slice_get s.rest 0)) dry (λ e. rw e (and-false (list_any takes (ts moment)))) where
    takes_not : is_none (slice_get s.rest 0) ≡ true → (t : Start) → Has (ts moment) t → takes t ≡ false
    takes_not e t p =
        let b = start_of_item moment t p in
        either (takes t)
        (λ w.
        let g = wants_is moment b.0 b.1 b.2 t b.3 w ∙ e in
        let late = f.dry b.0 b.1 g in
        let at = b.2 in
        absurd (omega arith))
        (λ w. w)

    dry : is_none (slice_get s.rest 0) ≡ true → waits s (ts moment) ≡ false
    dry e = rw (any_none takes (ts moment) (takes_not e)) refl

  -- where the list wants a word that is not there, so does the machine
  pub want_here : (k : ℕ) → k < n run → cycle_at run k ≡ c → wants m (held_at run k) (move_at run k) ≡ true → waits s (ts moment) ≡ true
  want_here k lk at w =
      let own : started_by m (held_at run k) (bring (read_held (held_at run k).written) (move_at run k)) ≡ starting m (held_at run k).written (move_at run k).target (moved (read_held (held_at run k).written) (move_at run k)) =
      started_is m (held_at run k) (bring (read_held (held_at run k).written) (move_at run k)) in
      let t = wanted (started_by m (held_at run k) (bring (read_held (held_at run k).written) (move_at run k))) (is_none (slice_get (held_at run k).rest 0)) w in
      let g : starting m (new moment) (move_at run k).target (moved (read_source s) (move_at run k)) ≡ Some t.0 = starts_same moment k lk at ∙ sym own ∙ t.1 in
      let b = and_then_some (start_of m (new moment)) (bring (read_source s) (move_at run k)) t.0 g in
      let has : Has (ts moment) t.0 = filter_map_has (start_of m (new moment)) (bs moment) b.0 t.0 (filter_map_has (bring (read_source s)) (vs moment) (move_at run k) b.0 (has_item moment k lk at) b.1) b.2 in
      let empty : is_none (slice_get s.rest 0) ≡ true = sym (wants_is moment k lk at t.0 g t.2) ∙ w in
      rw (any_has takes (ts moment) t.0 has t.2, empty) refl

  -- the next state
  abbrev pub onward : State
  onward = record {
    written = new moment;
    started = news moment ++ s.started;
    memory = fold store_data s.memory (ts moment);
    frame = fold store_frame s.frame (ts moment);
    rest = fold take_in s.rest (ts moment);
    output = fold put_out s.output (ts moment);
    pc = s.pc + 1;
    cycle = s.cycle + 1;
    pending = pending_after m s (pick (chooses moment) (vs moment));
    outcome = Running;
  }

  pub acts_is : act_cycle u m s (bs moment) (ts moment) (new moment) ≡ lands onward onward.pending
  acts_is = ap (λ o. lands (record onward { pending = pending_after m s o }) (pending_after m s o)) (control_is moment)

  pub carry_is : carry_out u m s (Some (word moment)) ≡ or_wait s (waits s (ts moment)) (lands onward onward.pending)
  carry_is =
      ap (λ o. or_fault s o (or_wait s (waits s (ts moment)) (act_cycle u m s (bs moment) (ts moment) (new moment)))) (faults_none moment)
      ∙ ap (or_wait s (waits s (ts moment))) acts_is

  pub next_or : next u m code s ≡ or_wait s (waits s (ts moment)) (lands onward onward.pending)
  unfolding next
  next_or =
      ap (next_of u m code s) st.outcome
      ∙ ap (carry_out u m s) (ap (slice_get code.words) st.pc ∙ carries.stands c lt)
      ∙ carry_is

  pub next_is : c < f.stop → next u m code s ≡ lands onward onward.pending
  next_is before = next_or ∙ ap (λ b. or_wait s b (lands onward onward.pending)) (no_want before)

  pub stands_next : Stands run (suc c) onward
  unfolding shown data_space frame_space out_space in_space
  stands_next = record {
    outcome = refl;
    pc = let g = st.pc in omega arith;
    cycle = let g = st.cycle in omega arith;
    pending = pending_next moment;
    memory = space_next moment data_space s.memory st.memory;
    frame = space_next moment frame_space s.frame st.frame;
    rest = space_next moment in_space s.rest st.rest;
    output = space_next moment out_space s.output st.output;
    kept = kept_next moment;
    ports = ports_next moment;
    flights = λ unit d late. flights_next moment unit d (omega arith);
  }

  -- the block waits in the cycle of the move that wants a word, with what the list has then
  pub waits_here : (k : ℕ) → k < n run → cycle_at run k ≡ c → wants m (held_at run k) (move_at run k) ≡ true → next u m code s ≡ record s { outcome = Waiting }
  waits_here k lk at w = next_or ∙ ap (λ b. or_wait s b (lands onward onward.pending)) (want_here k lk at w)

  pub streams_here : (k : ℕ) → k < n run → cycle_at run k ≡ c → wants m (held_at run k) (move_at run k) ≡ true → (s.output ≡ (held_at run k).output) × (s.rest ≡ (held_at run k).rest)
  streams_here k lk at w =
      let space = wants_space m (held_at run k) (move_at run k) (f.plain k lk) w in
      let is : touches run 3 k ≡ true = grind (arith, nat_tests) in
      let cut = space_cut run 3 k c (omega arith) lk is at in
      (st.output k (omega arith) cut, st.rest k (omega arith) cut)

  -- one item of the cycle at most touches the streams
  pub one_stream : OneTake (ts moment)
  unfolding in_space
  one_stream = on (find_below (λ j. touches run 3 j && cycle_at run j == c) (n run)) where
    acts : List ℕ → Effect → List ℕ
    acts w v = once_started take_in w (starting m (new moment) v.target (moved (read_source s) v))

    other : (w : List ℕ) (v : Effect) (i : ℕ) → i < n run → move_at run i ≡ v → touches run 3 i ≡ false → acts w v ≡ w
    other w v i li e t = subst (λ v'. acts w v' ≡ w) e (once_noop in_space m (new moment) w (move_at run i) (moved (read_source s) (move_at run i)) (f.plain i li) (grind (arith, nat_tests)))

    on : ((j : ℕ) × (j < n run) × ((touches run 3 j && cycle_at run j == c) ≡ true)) ⊎ ((j : ℕ) → j < n run → (touches run 3 j && cycle_at run j == c) ≡ false) → OneTake (ts moment)
    on (inl r) =
        let j = r.0 in
        let lj : j < n run = r.1 in
        let t : touches run 3 j ≡ true = (and_split (touches run 3 j) (cycle_at run j == c) r.2).0 in
        let here : (cycle_at run j == c) ≡ true = (and_split (touches run 3 j) (cycle_at run j == c) r.2).1 in
        let at : cycle_at run j ≡ c = grind (arith, nat_tests) in
        let has = has_item moment j lj at in
        record {
          taken = starting m (new moment) (move_at run j).target (moved (read_source s) (move_at run j));
          whole = λ w. fold_cycle take_in m (read_source s) (new moment) w (vs moment) ∙ fold_one acts w (vs moment) has.0 (move_at run j) has.1 (λ i v p.
              let it = item_of moment v (i, p) in
              either (touches run 3 it.0)
              (λ t'.
              let same = one_toucher run 3 (omega arith) it.0 j it.1 lj t' t (ap suc (it.3 ∙ sym at)) in
              let v_is : v ≡ move_at run j = sym it.2 ∙ ap (move_at run) same in
              inl (carries.once c lt i has.0 (move_at run j) (rw v_is at p) has.1))
              (λ t'. inr (λ w. other w v it.0 it.1 it.2 t')));
          there = λ x e.
              let b = and_then_some (start_of m (new moment)) (bring (read_source s) (move_at run j)) x e in
              filter_map_has (start_of m (new moment)) (bs moment) b.0 x (filter_map_has (bring (read_source s)) (vs moment) (move_at run j) b.0 has b.1) b.2;
        }
    on (inr none) = record {
      taken = None;
      whole = λ w. fold_cycle take_in m (read_source s) (new moment) w (vs moment) ∙ fold_none acts w (vs moment) (λ w' v p.
          let it = item_of moment v p in
          other w' v it.0 it.1 it.2 (let g = none it.0 it.1 in let here : (cycle_at run it.0 == c) ≡ true = (let q = it.3 in grind (arith, nat_tests)) in first_false (touches run 3 it.0) (cycle_at run it.0 == c) g here));
      there = λ x e. absurd cc;
    }

  -- with more input the cycle does the same, and leaves it
  pub next_more : (z : ℕ) → c < f.stop → next u m code (more z s) ≡ more z (next u m code s)
  unfolding next
  next_more z before =
      let still = no_want before in
      let rest : fold take_in (s.rest ++ replicate z 0) (ts moment) ≡ fold take_in s.rest (ts moment) ++ replicate z 0 = take_more_in z s.rest (ts moment) one_stream still in
      ap (next_of u m code (more z s)) st.outcome
      ∙ ap (carry_out u m (more z s)) (ap (slice_get code.words) st.pc ∙ carries.stands c lt)
      ∙ ap (λ o. or_fault (more z s) o (or_wait (more z s) (waits (more z s) (ts moment)) (act_cycle u m (more z s) (bs moment) (ts moment) (new moment)))) (faults_none moment)
      ∙ ap (λ b. or_wait (more z s) b (act_cycle u m (more z s) (bs moment) (ts moment) (new moment))) (longer z s.rest (list_any takes (ts moment)) still)
      ∙ act_more u m z s (bs moment) (ts moment) (new moment) rest
      ∙ sym (ap (more z) (next_is before ∙ sym acts_is))
