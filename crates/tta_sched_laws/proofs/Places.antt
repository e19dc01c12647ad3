-- What places hold after a cycle, and what operations start in it.
use Rattle.std.proofs.Common.{◌≡◌, ◌≢◌, inl, inr, ℕ, suc, ◌+◌, ◌<◌, true, false, Option, Some, None, refl, sym, ap, subst, ◌∙◌, arith}
use Rattle.std.specs.Prelude.{slice_index}
use Rattle.std.proofs.lemmas.Bool.Decides.{nat_tests}
use Rattle.tta_sched_laws.specs.Cited.{Op, Ldw, Stw, Ldf, Stf, Out, Take, Set, Effect, Place, KeptOperand, moved, Start, result_word, or_else, read_source, Held, read_held}
use Rattle.tta_arch.specs.Effects.{kept as lookup, first_some as pick}
use Rattle.tta_sched_laws.proofs.Cut.{Right, goes_on}
use Rattle.tta_sched_laws.proofs.Pick.{pick_none, pick_one}
use Rattle.tta_sched_laws.proofs.Steps.{into, into_other, is_kept, kept_after, starting, into_back}
use Rattle.tta_sched_laws.proofs.Starts.{kept_cycle, kept_offset, starting_same, Covers, covers_or}
use Rattle.tta_sched_laws.specs.Overlap.{space_of, space_by}
use Rattle.tta_sched_laws.proofs.Spaces.{starts_space}
use Rattle.tta_sched_laws.proofs.Touches.{reads_operand, has_operand}
use Rattle.tta_sched_laws.proofs.Placing.{some_is}
use Rattle.tta_sched_laws.proofs.Listed.{n, move_at, cycle_at, held_at, write_at, writes, shows, value, after_suc, show_rises, kept_same, touches, space_cut, cut_at_read, one_writer}
use Rattle.tta_sched_laws.proofs.InCycle.{Now, vs, ret, new, item_of, has_item, taken, back_same}
use Rattle.tta_moves.proofs.Places.{either}
use Rattle.tta_list.proofs.Tests.{none_from_is_some}

module _ (moment : Now) where
  open moment use {run, c, s, lt, st}
  open run use {u, m, back, placed, h, len, f, code, base, begin, carries, back_is}

  -- places
  pub kept_next : (x : Place) → is_kept x ≡ true → Right Covers (writes run x) (shows run x) (n run) (value run x) (suc c) (lookup (new moment) x)
  kept_next x kept = goes_on Covers (writes run x) (shows run x) (n run) (value run x) (show_rises run x) (kept_same run x kept) c (lookup s.written x) (lookup (new moment) x) (st.kept x kept) keeps gets where
    puts : Effect → Option ℕ
    puts v = into m (ret moment) x v.target (moved (read_source s) v)

    now : (j : ℕ) → j < n run → cycle_at run j ≡ c → writes run x j ≡ true → shows run x j ≡ suc c
    now j lj e w = let o = kept_offset m x (move_at run j) _ (f.plain j lj) kept (some_is (write_at run x j) w) in omega arith

    here : (j : ℕ) → j < n run → writes run x j ≡ true → shows run x j ≡ suc c → cycle_at run j ≡ c
    here j lj w e = let o = kept_offset m x (move_at run j) _ (f.plain j lj) kept (some_is (write_at run x j) w) in omega arith

    other : (v : Effect) (i : ℕ) → i < n run → move_at run i ≡ v → writes run x i ≡ false → puts v ≡ None
    other v i li q w = subst (λ v'. puts v' ≡ None) q (into_other m (ret moment) x (move_at run i) (moved (read_source s) (move_at run i)) (f.plain i li) (none_from_is_some (write_at run x i) w))

    keeps : ((j : ℕ) → j < n run → writes run x j ≡ true → shows run x j ≢ suc c) → lookup (new moment) x ≡ lookup s.written x
    keeps none = kept_cycle m (ret moment) (read_source s) x (vs moment) s.written ∙ ap (λ o. or_else o (lookup s.written x)) (pick_none puts (vs moment) (λ v p.
        let it = item_of moment v p in
        either (writes run x it.0) (λ w. absurd (none it.0 it.1 w (now it.0 it.1 it.3 w))) (λ w. other v it.0 it.1 it.2 w)))

    gets : (j : ℕ) → j < n run → writes run x j ≡ true → shows run x j ≡ suc c → Covers (lookup s.written x) (value run x j) → Covers (lookup (new moment) x) (value run x (suc j))
    gets j lj w e was =
        let at = here j lj w e in
        let own : pick puts (vs moment) ≡ puts (move_at run j) = pick_one puts (vs moment) (move_at run j) (has_item moment j lj at) (λ v p.
        let it = item_of moment v p in
        either (writes run x it.0)
        (λ w'. inr (sym it.2 ∙ ap (move_at run) (one_writer run x it.0 j it.1 lj w' w (now it.0 it.1 it.3 w' ∙ sym e))))
        (λ w'. inl (other v it.0 it.1 it.2 w'))) in
        subst (λ o. Covers o (value run x (suc j)))
        (sym (kept_cycle m (ret moment) (read_source s) x (vs moment) s.written ∙ ap (λ o. or_else o (lookup s.written x)) (own ∙ ap (into m (ret moment) x (move_at run j).target) (taken moment j lj at) ∙ into_back m (ret moment) back x (move_at run j).target (moved (read_held (held_at run j).written) (move_at run j)) (f.plain j lj) (back_same moment j lj at))))
        (subst (Covers (or_else (into m back x (move_at run j).target (moved (read_held (held_at run j).written) (move_at run j))) (lookup s.written x)))
        (sym (ap (λ (g : Held). lookup g.written x) (after_suc run j lj) ∙ kept_after u m back (held_at run j) (move_at run j) x (f.plain j lj) kept))
        (covers_or (into m back x (move_at run j).target (moved (read_held (held_at run j).written) (move_at run j))) (lookup s.written x) (value run x j) was))

  -- operations
  pub starts_same : (j : ℕ) → j < n run → cycle_at run j ≡ c
      → starting m (new moment) (move_at run j).target (moved (read_source s) (move_at run j)) ≡ starting m (held_at run j).written (move_at run j).target (moved (read_held (held_at run j).written) (move_at run j))
  starts_same j lj e =
      ap (starting m (new moment) (move_at run j).target) (taken moment j lj e)
      ∙ starting_same m (new moment) (held_at run j).written (move_at run j) (moved (read_held (held_at run j).written) (move_at run j)) (f.plain j lj) (λ unit k q.
      let g : cycle_at run j + 1 ≡ suc c = omega arith in
      kept_next (KeptOperand unit) refl j (omega arith) (rw g at (cut_at_read run (KeptOperand unit) j 1 lj (reads_operand m (move_at run j) unit k q))))
      (has_operand m (held_at run j) (move_at run j) (f.sets j lj))

  pub value_same : (j : ℕ) → j < n run → cycle_at run j ≡ c → (t : Start) → starting m (new moment) (move_at run j).target (moved (read_source s) (move_at run j)) ≡ Some t
      → result_word u s.memory s.frame (slice_index s.rest 0) t t.does.op ≡ result_word u (held_at run j).memory (held_at run j).frame (slice_index (held_at run j).rest 0) t t.does.op
  value_same j lj e t g = on t.does.op (starts_space m (new moment) (move_at run j) (moved (read_source s) (move_at run j)) t (f.plain j lj) g) where
    on : (o : Op) → space_by m (move_at run j).target ≡ space_of o → result_word u s.memory s.frame (slice_index s.rest 0) t o ≡ result_word u (held_at run j).memory (held_at run j).frame (slice_index (held_at run j).rest 0) t o
    on Ldw q = let is : touches run 1 j ≡ true = grind (arith, nat_tests) in rw (st.memory j (omega arith) (space_cut run 1 j c (omega arith) lj is e)) refl
    on Stw q = refl
    on Ldf q = let is : touches run 2 j ≡ true = grind (arith, nat_tests) in rw (st.frame j (omega arith) (space_cut run 2 j c (omega arith) lj is e)) refl
    on Stf q = refl
    on Out q = refl
    on Take q = let is : touches run 3 j ≡ true = grind (arith, nat_tests) in rw (st.rest j (omega arith) (space_cut run 3 j c (omega arith) lj is e)) refl
    on (Set id) q = refl
