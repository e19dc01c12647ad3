-- The results under way and the result ports after a cycle.
use Rattle.std.proofs.Common.{◌≡◌, ◌≢◌, inl, inr, ℕ, suc, ◌+◌, ◌<◌, ◌≤◌, true, false, List, ◌++◌, Option, Some, None, refl, sym, ap, subst, ◌∙◌, arith}
use Rattle.std.specs.Prelude.{slice_index, option_and_then, if◌then◌else◌, fold}
use Rattle.std.specs.Option.{option_map_or}
use Rattle.std.specs.List.{filter_map}
use Rattle.tta_sched_laws.specs.Cited.{Effect, KeptPort, moved, bring, Start, start_of, or_else, Result', later, port, result_of, read_source, Held}
use Rattle.tta_arch.specs.Effects.{kept as lookup, first_some as pick}
use Rattle.tta_sched_laws.proofs.Cut.{IsCut, Right, goes_on}
use Rattle.tta_sched_laws.proofs.Pick.{Has, pick_none, pick_one, has_filter_map}
use Rattle.tta_sched_laws.proofs.Ports.{due_then, port_next, port_early, past_none}
use Rattle.tta_sched_laws.proofs.Steps.{IsPlain, port_after, starting, shown_of}
use Rattle.tta_sched_laws.proofs.Starts.{due_cycle, coming_of, coming_is, starts_later, write_later, Covers, covers_or}
use Rattle.tta_sched_laws.proofs.Placing.{some_is}
use Rattle.tta_sched_laws.proofs.Listed.{n, move_at, cycle_at, held_at, write_at, writes, shows, value, slot, slot_shows, result_at, coming, after_suc, coming_other, coming_none, show_rises, port_same, slot_writes, writes_slot, one_slot, slot_rises, as_result}
use Rattle.tta_sched_laws.proofs.InCycle.{Now, vs, bs, new, ts, item_of, has_item}
use Rattle.tta_sched_laws.proofs.Places.{starts_same, value_same}
use Rattle.tta_moves.proofs.Places.{either}
use Rattle.tta_arch.proofs.FirstSome.{or_none}

module _ (moment : Now) where
  open moment use {run, c, s, lt, st}
  open run use {u, m, back, placed, h, len, f, code, base, begin, carries, back_is}

  pub now_is : (j : ℕ) → cycle_at run j ≡ c → s.cycle ≡ begin + cycle_at run j
  now_is j e = let g = st.cycle in omega arith

  pub comes : (unit d : ℕ) → Effect → Option Result'
  comes unit d v = coming_of u s unit (begin + d) (starting m (new moment) v.target (moved (read_source s) v))

  -- the result that a move of this cycle brings
  pub comes_is : (unit d j : ℕ) → j < n run → cycle_at run j ≡ c → comes unit d (move_at run j) ≡ (if slot run unit d j then as_result run unit d (result_at run unit j) else None)
  unfolding comes
  comes_is unit d j lj e =
      coming_is u m s begin (cycle_at run j) d unit (held_at run j).memory (held_at run j).frame (slice_index (held_at run j).rest 0) (new moment) (move_at run j) (moved (read_source s) (move_at run j)) (f.plain j lj) (now_is j e) (value_same moment j lj e)
      ∙ ap (λ t. if slot run unit d j then as_result run unit d (shown_of u (held_at run j).memory (held_at run j).frame (slice_index (held_at run j).rest 0) unit t) else None) (starts_same moment j lj e)

  pub comes_other : (unit d j : ℕ) (v : Effect) → j < n run → move_at run j ≡ v → cycle_at run j ≡ c → slot run unit d j ≡ false → comes unit d v ≡ None
  comes_other unit d j v lj q e w = subst (λ v'. comes unit d v' ≡ None) q (comes_is unit d j lj e ∙ rw w refl)

  pub or_result : (unit d : ℕ) (a b : Option ℕ) → or_else (as_result run unit d a) (as_result run unit d b) ≡ as_result run unit d (or_else a b)
  or_result unit d None b = refl
  or_result unit d (Some a) b = refl

  abbrev pub due_old : (unit d : ℕ) → Option Result'
  due_old unit d = pick (due_then unit (begin + d)) s.started

  abbrev pub news : List Result'
  news = filter_map (result_of u s) (ts moment)

  pub flights_next : (unit d : ℕ) → c < d → Right ◌≡◌ (slot run unit d) (slot_shows run) (n run) (λ k. as_result run unit d (coming run unit d k)) (suc c) (pick (due_then unit (begin + d)) (news ++ s.started))
  unfolding comes
  flights_next unit d late =
      goes_on ◌≡◌ (slot run unit d) (slot_shows run) (n run) (λ k. as_result run unit d (coming run unit d k)) (slot_rises run unit d) (λ j lj e. ap (as_result run unit d) (coming_other run unit d j e)) c
      (pick (due_then unit (begin + d)) s.started) (pick (due_then unit (begin + d)) (news ++ s.started)) (st.flights unit d late) keeps gets where
        whole : pick (due_then unit (begin + d)) (news ++ s.started) ≡ or_else (pick (comes unit d) (vs moment)) (due_old unit d)
        whole = due_cycle u m s (read_source s) (new moment) unit (begin + d) (vs moment) s.started

        keeps : ((j : ℕ) → j < n run → slot run unit d j ≡ true → slot_shows run j ≢ suc c) → pick (due_then unit (begin + d)) (news ++ s.started) ≡ (due_old unit d)
        keeps none = whole ∙ ap (λ o. or_else o (due_old unit d)) (pick_none (comes unit d) (vs moment) (λ v p.
            let it = item_of moment v p in
            either (slot run unit d it.0) (λ w. absurd (none it.0 it.1 w (ap suc it.3))) (λ w. comes_other unit d it.0 v it.1 it.2 it.3 w)))

        gets : (j : ℕ) → j < n run → slot run unit d j ≡ true → slot_shows run j ≡ suc c → (due_old unit d) ≡ as_result run unit d (coming run unit d j) → pick (due_then unit (begin + d)) (news ++ s.started) ≡ as_result run unit d (coming run unit d (suc j))
        gets j lj w e was =
            let at : cycle_at run j ≡ c = omega arith in
            let own : pick (comes unit d) (vs moment) ≡ comes unit d (move_at run j) = pick_one (comes unit d) (vs moment) (move_at run j) (has_item moment j lj at) (λ v p.
            let it = item_of moment v p in
            either (slot run unit d it.0)
            (λ w'. inr (sym it.2 ∙ ap (move_at run) (one_slot run unit d it.0 j it.1 lj w' w)))
            (λ w'. inl (comes_other unit d it.0 v it.1 it.2 it.3 w'))) in
            let is : comes unit d (move_at run j) ≡ as_result run unit d (result_at run unit j) = comes_is unit d j lj at ∙ rw w refl in
            whole ∙ ap (λ o. or_else o (due_old unit d)) (own ∙ is) ∙ ap (or_else (as_result run unit d (result_at run unit j))) was ∙ or_result unit d (result_at run unit j) (coming run unit d j) ∙ rw w refl

  -- what starts in this cycle
  pub start_from : (t : Start) → Has (ts moment) t → (v : Effect) × Has (vs moment) v × (starting m (new moment) v.target (moved (read_source s) v) ≡ Some t)
  start_from t p =
      let a = has_filter_map (start_of m (new moment)) (bs moment) t p in
      let b = has_filter_map (bring (read_source s)) (vs moment) a.0 a.1 in
      (b.0, b.1, ap (option_and_then (start_of m (new moment))) b.2 ∙ a.2)

  pub plain_of : (v : Effect) → Has (vs moment) v → IsPlain m v.target
  plain_of v p = let it = item_of moment v p in subst (λ (v' : Effect). IsPlain m v'.target) it.2 (f.plain it.0 it.1)

  pub news_late : (r : Result') → Has news r → s.cycle < r.due
  news_late r p =
      let a = has_filter_map (result_of u s) (ts moment) r p in
      let b = start_from a.0 a.1 in
      starts_later u m s (new moment) b.0 (moved (read_source s) b.0) a.0 r (plain_of b.0 b.1) b.2 a.2

  unfoldable pub shown : Option Result' → Option ℕ
  shown o = option_map_or (λ (r : Result'). Some r.value) o None

  pub or_shown : (a b : Option Result') → shown (or_else a b) ≡ or_else (shown a) (shown b)
  unfolding shown
  or_shown None b = refl
  or_shown (Some r) b = refl

  pub shown_result : (unit d : ℕ) (o : Option ℕ) → shown (as_result run unit d o) ≡ o
  unfolding shown
  shown_result unit d None = refl
  shown_result unit d (Some w) = refl

  -- what a port shows at the next moment
  pub port_then : (unit : ℕ) → shown (fold (later unit (s.cycle + 1)) None (news ++ s.started)) ≡ or_else (shown (pick (due_then unit (begin + suc c)) (news ++ s.started))) (port s unit)
  unfolding shown
  port_then unit =
      let now = st.cycle in
      let e : s.cycle + 1 ≡ suc s.cycle = omega arith in
      let g : suc s.cycle ≡ begin + suc c = omega arith in
      rw e (ap shown (port_next unit s.cycle (news ++ s.started) None past_none ∙ ap (or_else (pick (due_then unit (suc s.cycle)) (news ++ s.started))) (port_early unit s.cycle news s.started news_late))
      ∙ or_shown (pick (due_then unit (suc s.cycle)) (news ++ s.started)) (fold (later unit s.cycle) None s.started)
      ∙ ap (λ k. or_else (shown (pick (due_then unit k) (news ++ s.started))) (port s unit)) g)

  -- no move before the one that brings a result to a port at a moment does
  pub no_slot : (unit d j : ℕ) → j < n run → slot run unit d j ≡ true → (i : ℕ) → i < j → slot run unit d i ≡ false
  no_slot unit d j lj w i li = either (slot run unit d i) (λ w'. let e = one_slot run unit d i j (omega arith) lj w' w in absurd (omega arith)) (λ w'. w')

  pub ports_next : (unit : ℕ) → Right Covers (writes run (KeptPort unit)) (shows run (KeptPort unit)) (n run) (value run (KeptPort unit)) (suc c) (shown (fold (later unit (s.cycle + 1)) None (news ++ s.started)))
  ports_next unit =
      goes_on Covers (writes run (KeptPort unit)) (shows run (KeptPort unit)) (n run) (value run (KeptPort unit)) (show_rises run (KeptPort unit)) (port_same run unit) c (port s unit) _ (st.ports unit) keeps gets where
        due_now : (k : ℕ) → k ≤ n run → IsCut (slot run unit (suc c)) (slot_shows run) (n run) (suc c) k → shown (pick (due_then unit (begin + suc c)) (news ++ s.started)) ≡ coming run unit (suc c) k
        due_now k le cut = ap shown (flights_next unit (suc c) (omega arith) k le cut) ∙ shown_result unit (suc c) (coming run unit (suc c) k)

        keeps : ((j : ℕ) → j < n run → writes run (KeptPort unit) j ≡ true → shows run (KeptPort unit) j ≢ suc c) → shown (fold (later unit (s.cycle + 1)) None (news ++ s.started)) ≡ port s unit
        keeps none = port_then unit ∙ ap (λ o. or_else o (port s unit)) (due_now 0 (omega arith) (record {
          before = λ j li w. absurd (omega arith);
          later = λ j le lj w. let a = slot_writes run unit (suc c) j w in absurd (none j lj a.0 a.1);
        }))

        gets : (j : ℕ) → j < n run → writes run (KeptPort unit) j ≡ true → shows run (KeptPort unit) j ≡ suc c → Covers (port s unit) (value run (KeptPort unit) j)
            → Covers (shown (fold (later unit (s.cycle + 1)) None (news ++ s.started))) (value run (KeptPort unit) (suc j))
        gets j lj w e was =
            let here = writes_slot run unit (suc c) j w e in
            let late = write_later m (KeptPort unit) (move_at run j) _ (f.plain j lj) (some_is (write_at run (KeptPort unit) j) w) in
            let cut : IsCut (slot run unit (suc c)) (slot_shows run) (n run) (suc c) (suc j) = record {
              before = λ i li w'. let g = one_slot run unit (suc c) i j (omega arith) lj w' here in let g' = ap (cycle_at run) g in omega arith;
              later = λ i le li w'. let g = one_slot run unit (suc c) i j li lj w' here in absurd (omega arith);
            } in
            let one : coming run unit (suc c) (suc j) ≡ result_at run unit j =
            rw here (ap (or_else (result_at run unit j)) (coming_none run unit (suc c) j (no_slot unit (suc c) j lj here)) ∙ or_none (result_at run unit j)) in
            subst (λ o. Covers o (value run (KeptPort unit) (suc j))) (sym (port_then unit ∙ ap (λ o. or_else o (port s unit)) (due_now (suc j) (omega arith) cut ∙ one)))
            (subst (Covers (or_else (result_at run unit j) (port s unit)))
            (sym (ap (λ (g : Held). lookup g.written (KeptPort unit)) (after_suc run j lj) ∙ port_after u m back (held_at run j) (move_at run j) unit (f.plain j lj)))
            (covers_or (result_at run unit j) (port s unit) (value run (KeptPort unit) j) was))
