-- A cycle has no fault, and what control is under way after it.
use Rattle.std.proofs.Common.{◌≡◌, ◌≢◌, inl, inr, ℕ, suc, ◌+◌, ◌<◌, true, false, Option, Some, None, refl, sym, ap, subst, ◌∙◌, arith}
use Rattle.std.specs.Prelude.{slice_get, ◌&&◌, ◌||◌, is_none, is_some}
use Rattle.std.proofs.lemmas.Bool.Decides.{nat_tests}
use Rattle.std.proofs.Math.Bool.{and-false}
use Rattle.tta_sched_laws.specs.Cited.{Kind, Effect, moved, bring, Start, has_result, takes, has_unset_guard, has_unset, is_register, is_port, lacks_operand, control_of, later, read_source, reads_unset_register, reads_unset_port, clashes, pending_after, fault_of, Held, read_held, exit_after}
use Rattle.tta_arch.specs.Effects.{first_some as pick}
use Rattle.tta_sched_laws.proofs.Total.{started_by, wants}
use Rattle.tta_code.specs.Cycle as machine
use Rattle.tta_sched_laws.proofs.Cut.{IsCut, Right, goes_on}
use Rattle.tta_sched_laws.proofs.Pick.{Has, pick-filter_map, pick_none, pick_one, any_none}
use Rattle.tta_sched_laws.proofs.Ports.{due_none}
use Rattle.tta_sched_laws.proofs.Steps.{starting, control_in, control_other, exit_then}
use Rattle.tta_sched_laws.proofs.Starts.{starts_writes}
use Rattle.tta_sched_laws.specs.Overlap.{space_by}
use Rattle.tta_sched_laws.proofs.Spaces.{starts_space, takes_space}
use Rattle.tta_sched_laws.proofs.Touches.{sets, has_operand, started_is}
use Rattle.tta_sched_laws.proofs.Listed.{n, move_at, cycle_at, held_at, slot, slot_shows, after_suc, coming_none, touches, space_cut, one_slot, ctl, ctl_rises, exit_same, exit_none, ctl_first, ctl_one, as_pending, as_result}
use Rattle.tta_sched_laws.proofs.InCycle.{Now, vs, bs, new, ts, item_of, has_item, reads_same, taken}
use Rattle.tta_sched_laws.proofs.Places.{starts_same}
use Rattle.tta_sched_laws.proofs.Results.{start_from, no_slot}
use Rattle.tta_moves.proofs.Places.{either}

module _ (moment : Now) where
  open moment use {run, c, s, lt, st}
  open run use {u, m, back, placed, h, len, f, code, base, begin, carries, back_is}

  -- faults
  pub no_unset : (v : Effect) → Has (vs moment) v → reads_unset_register s v ≡ false
  no_unset v p =
      let it = item_of moment v p in
      let a = sets m (held_at run it.0) (read_source s) (move_at run it.0) (f.sets it.0 it.1) (reads_same moment it.0 it.1 it.3) in
      subst (λ v'. (has_unset_guard (read_source s) v' || has_unset (read_source s) is_register v') ≡ false) it.2 (rw (a.0, a.1) refl)

  pub no_unset_port : (v : Effect) → Has (vs moment) v → has_unset (read_source s) is_port v ≡ false
  no_unset_port v p =
      let it = item_of moment v p in
      let a = sets m (held_at run it.0) (read_source s) (move_at run it.0) (f.sets it.0 it.1) (reads_same moment it.0 it.1 it.3) in
      subst (λ v'. has_unset (read_source s) is_port v' ≡ false) it.2 a.2

  pub start_of_item : (t : Start) → Has (ts moment) t → (j : ℕ) × (j < n run) × (cycle_at run j ≡ c) × (starting m (new moment) (move_at run j).target (moved (read_source s) (move_at run j)) ≡ Some t)
  start_of_item t p =
      let b = start_from moment t p in
      let it = item_of moment b.0 b.1 in
      (it.0, it.1, it.3, subst (λ (v' : Effect). starting m (new moment) v'.target (moved (read_source s) v') ≡ Some t) (sym it.2) b.2)

  -- what a move that takes a word does in the list
  pub wants_is : (j : ℕ) → j < n run → cycle_at run j ≡ c → (t : Start) → starting m (new moment) (move_at run j).target (moved (read_source s) (move_at run j)) ≡ Some t → takes t ≡ true
      → wants m (held_at run j) (move_at run j) ≡ is_none (slice_get s.rest 0)
  wants_is j lj e t g w =
      let space : space_by m (move_at run j).target ≡ 3 = starts_space m (new moment) (move_at run j) (moved (read_source s) (move_at run j)) t (f.plain j lj) g ∙ takes_space t w in
      let is : touches run 3 j ≡ true = grind (arith, nat_tests) in
      let same = st.rest j (omega arith) (space_cut run 3 j c (omega arith) lj is e) in
      let own : started_by m (held_at run j) (bring (read_held (held_at run j).written) (move_at run j)) ≡ Some t =
      started_is m (held_at run j) (bring (read_held (held_at run j).written) (move_at run j)) ∙ sym (starts_same moment j lj e) ∙ g in
      rw (own, w, same) refl

  pub no_lack : (t : Start) → Has (ts moment) t → lacks_operand t ≡ false
  no_lack t p =
      let b = start_of_item t p in
      let o = has_operand m (held_at run b.0) (move_at run b.0) (f.sets b.0 b.1) in
      let e = sym (starts_same moment b.0 b.1 b.2) ∙ b.3 in
      rw e at o

  pub no_clash_has : (t : Start) → Has (ts moment) t → has_result t.does.op ≡ true → clashes s t ≡ false
  no_clash_has t p has =
      let b = start_of_item t p in
      let j = b.0 in
      let lj : j < n run = b.1 in
      let at : cycle_at run j ≡ c = b.2 in
      let a = starts_writes m (new moment) (move_at run j) (moved (read_source s) (move_at run j)) t (f.plain j lj) b.3 has in
      let d = c + t.does.latency in
      let here : slot run t.unit (c + t.does.latency) j ≡ true = rw (a.0, at) (grind (arith, nat_tests)) in
      let cut : IsCut (slot run t.unit (c + t.does.latency)) (slot_shows run) (n run) c j = record {
        before = λ i li w. let g = one_slot run t.unit (c + t.does.latency) i j (omega arith) lj w here in absurd (omega arith);
        later = λ i le li w. let g = one_slot run t.unit (c + t.does.latency) i j li lj w here in let g' = ap (cycle_at run) g in omega arith;
      } in
      let none = coming_none run t.unit (c + t.does.latency) j (no_slot moment t.unit (c + t.does.latency) j lj here) in
      let old = st.flights t.unit (c + t.does.latency) (omega (arith, a.1)) j (omega arith) cut ∙ ap (as_result run t.unit (c + t.does.latency)) none in
      let now = st.cycle in
      let g : begin + (c + t.does.latency) ≡ s.cycle + t.does.latency = omega arith in
      let free = due_none t.unit (s.cycle + t.does.latency) s.started (rw g at old) in
      rw free (and-false (has_result t.does.op))

  pub no_clash : (t : Start) → Has (ts moment) t → clashes s t ≡ false
  no_clash t p =
      either (has_result t.does.op) (λ has. no_clash_has t p has) (λ has. rw has refl)

  -- control
  abbrev pub chooses : Effect → Option (Kind × ℕ)
  chooses v = control_in v.target (moved (read_source s) v)

  pub control_is : pick control_of (bs moment) ≡ pick chooses (vs moment)
  control_is = pick-filter_map control_of (bring (read_source s)) (vs moment)

  pub chooses_none : (v : Effect) (i : ℕ) → i < n run → move_at run i ≡ v → ctl run i ≡ false → chooses v ≡ None
  chooses_none v i li e w = subst (λ (v' : Effect). control_in v'.target (moved (read_source s) v') ≡ None) e (control_other m (move_at run i).target (moved (read_source s) (move_at run i)) (f.plain i li) w)

  pub chooses_is : (j : ℕ) → j < n run → cycle_at run j ≡ c → chooses (move_at run j) ≡ control_in (move_at run j).target (moved (read_held (held_at run j).written) (move_at run j))
  chooses_is j lj e = ap (control_in (move_at run j).target) (taken moment j lj e)

  pub ctl_cut : (j : ℕ) → j < n run → ctl run j ≡ true → cycle_at run j ≡ c → IsCut (ctl run) (slot_shows run) (n run) c j
  ctl_cut j lj w e = record {
    before = λ i lt w'. let g = f.last i (omega arith) w' in absurd (omega arith);
    later = λ i le li w'. let g = ctl_one run i j li lj w' w in let g' = ap (cycle_at run) g in omega arith;
  }

  pub pending_at : (j : ℕ) → j < n run → ctl run j ≡ true → cycle_at run j ≡ c → s.pending ≡ None
  pending_at j lj w e = st.pending j (omega arith) (ctl_cut j lj w e) ∙ ap (as_pending run) (exit_none run j (omega arith) (ctl_first run j lj w))

  pub no_jump : (is_some (pick control_of (bs moment)) && is_some s.pending) ≡ false
  no_jump = on s.pending refl where
    on : (o : Option machine.Pending) → s.pending ≡ o → (is_some (pick control_of (bs moment)) && is_some o) ≡ false
    on None e = and-false (is_some (pick control_of (bs moment)))
    on (Some p) e =
        let none : pick chooses (vs moment) ≡ None = pick_none chooses (vs moment) (λ v q.
        let it = item_of moment v q in
        either (ctl run it.0)
        (λ w. let z = pending_at it.0 it.1 w it.3 in absurd cc)
        (λ w. chooses_none v it.0 it.1 it.2 w)) in
        rw (control_is, none) refl

  pub pending_after_is : (o : Option (Kind × ℕ)) (j : ℕ) → j < n run → ctl run j ≡ true → cycle_at run j ≡ c → s.pending ≡ as_pending run (held_at run j).exit
      → pending_after m s o ≡ as_pending run (exit_after (held_at run j).exit o)
  pending_after_is None j lj w e was = was
  pending_after_is (Some k) j lj w e was =
      let a = f.ends j lj w in let b = st.cycle in
      let t : s.cycle + 1 + m.control.delay ≡ begin + len = omega arith in
      rw t refl

  pub pending_next : Right ◌≡◌ (ctl run) (slot_shows run) (n run) (λ k. as_pending run (held_at run k).exit) (suc c) (pending_after m s (pick chooses (vs moment)))
  pending_next =
      goes_on ◌≡◌ (ctl run) (slot_shows run) (n run) (λ k. as_pending run (held_at run k).exit) (ctl_rises run) (λ j lj e. ap (as_pending run) (exit_same run j lj e)) c s.pending (pending_after m s (pick chooses (vs moment))) st.pending keeps gets where
        keeps : ((j : ℕ) → j < n run → ctl run j ≡ true → slot_shows run j ≢ suc c) → pending_after m s (pick chooses (vs moment)) ≡ s.pending
        keeps none = ap (pending_after m s) (pick_none chooses (vs moment) (λ v p.
            let it = item_of moment v p in
            either (ctl run it.0) (λ w. absurd (none it.0 it.1 w (ap suc it.3))) (λ w. chooses_none v it.0 it.1 it.2 w)))

        gets : (j : ℕ) → j < n run → ctl run j ≡ true → slot_shows run j ≡ suc c → s.pending ≡ as_pending run (held_at run j).exit → pending_after m s (pick chooses (vs moment)) ≡ as_pending run (held_at run (suc j)).exit
        gets j lj w e was =
            let at : cycle_at run j ≡ c = omega arith in
            let own : pick chooses (vs moment) ≡ chooses (move_at run j) = pick_one chooses (vs moment) (move_at run j) (has_item moment j lj at) (λ v p.
            let it = item_of moment v p in
            either (ctl run it.0)
            (λ w'. inr (sym it.2 ∙ ap (move_at run) (ctl_one run it.0 j it.1 lj w' w)))
            (λ w'. inl (chooses_none v it.0 it.1 it.2 w'))) in
            ap (pending_after m s) (own ∙ chooses_is j lj at)
            ∙ pending_after_is (control_in (move_at run j).target (moved (read_held (held_at run j).written) (move_at run j))) j lj w at was
            ∙ sym (ap (as_pending run) (ap (λ (g : Held). g.exit) (after_suc run j lj) ∙ exit_then u m back (held_at run j) (move_at run j) (f.plain j lj)))

  pub faults_none : fault_of s (vs moment) (bs moment) (ts moment) ≡ None
  faults_none =
      rw (
        any_none (reads_unset_register s) (vs moment) no_unset,
        any_none (reads_unset_port s) (vs moment) no_unset_port,
        any_none lacks_operand (ts moment) no_lack,
        any_none (clashes s) (ts moment) no_clash,
        no_jump,
      ) refl
