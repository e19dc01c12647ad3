-- The spaces after a cycle.
use Rattle.std.proofs.Common.{◌≡◌, ◌≢◌, inl, inr, ℕ, suc, ◌<◌, true, false, List, sym, ap, subst, ◌∙◌, arith}
use Rattle.std.specs.Prelude.{fold}
use Rattle.std.proofs.lemmas.Bool.Decides.{nat_tests}
use Rattle.tta_sched_laws.specs.Cited.{Effect, moved, read_source, read_held}
use Rattle.tta_sched_laws.proofs.Cut.{Right, goes_on}
use Rattle.tta_sched_laws.proofs.Steps.{starting}
use Rattle.tta_sched_laws.proofs.Spaces.{Space, once_started, fold_none, fold_one, fold_cycle, once_noop}
use Rattle.tta_sched_laws.proofs.Listed.{n, move_at, cycle_at, held_at, slot_shows, after_suc, touches, space_rises, one_toucher, space_same}
use Rattle.tta_sched_laws.proofs.InCycle.{Now, vs, new, ts, item_of, has_item}
use Rattle.tta_sched_laws.proofs.Places.{starts_same}
use Rattle.tta_moves.proofs.Places.{either}

module _ (moment : Now) where
  open moment use {run, c, s, lt, st}
  open run use {u, m, back, placed, h, len, f, code, base, begin, carries, back_is}

  -- a space after this cycle
  pub space_next : (q : Space) (held : List ℕ) → Right ◌≡◌ (touches run q.number) (slot_shows run) (n run) (λ k. q.of (held_at run k)) c held
      → Right ◌≡◌ (touches run q.number) (slot_shows run) (n run) (λ k. q.of (held_at run k)) (suc c) (fold q.does held (ts moment))
  space_next q held right =
      goes_on ◌≡◌ (touches run q.number) (slot_shows run) (n run) (λ k. q.of (held_at run k)) (space_rises run q.number q.positive) (space_same run q) c held (fold q.does held (ts moment)) right keeps gets where
        acts : List ℕ → Effect → List ℕ
        acts w v = once_started q.does w (starting m (new moment) v.target (moved (read_source s) v))

        whole : fold q.does held (ts moment) ≡ fold acts held (vs moment)
        whole = fold_cycle q.does m (read_source s) (new moment) held (vs moment)

        other : (w : List ℕ) (v : Effect) (i : ℕ) → i < n run → move_at run i ≡ v → touches run q.number i ≡ false → acts w v ≡ w
        other w v i li e t = subst (λ v'. acts w v' ≡ w) e (once_noop q m (new moment) w (move_at run i) (moved (read_source s) (move_at run i)) (f.plain i li) (grind (arith, nat_tests)))

        keeps : ((j : ℕ) → j < n run → touches run q.number j ≡ true → slot_shows run j ≢ suc c) → fold q.does held (ts moment) ≡ held
        keeps none = whole ∙ fold_none acts held (vs moment) (λ w v p.
            let it = item_of moment v p in
            either (touches run q.number it.0) (λ t. absurd (none it.0 it.1 t (ap suc it.3))) (λ t. other w v it.0 it.1 it.2 t))

        gets : (j : ℕ) → j < n run → touches run q.number j ≡ true → slot_shows run j ≡ suc c → held ≡ q.of (held_at run j) → fold q.does held (ts moment) ≡ q.of (held_at run (suc j))
        gets j lj t e was =
            let at : cycle_at run j ≡ c = omega arith in
            let has = has_item moment j lj at in
            let own : fold acts held (vs moment) ≡ acts held (move_at run j) = fold_one acts held (vs moment) has.0 (move_at run j) has.1 (λ i v p.
            let it = item_of moment v (i, p) in
            either (touches run q.number it.0)
            (λ t'.
            let same = one_toucher run q.number q.positive it.0 j it.1 lj t' t (ap suc (it.3 ∙ sym at)) in
            let v_is : v ≡ move_at run j = sym it.2 ∙ ap (move_at run) same in
            inl (carries.once c lt i has.0 (move_at run j) (rw v_is at p) has.1))
            (λ t'. inr (λ w. other w v it.0 it.1 it.2 t'))) in
            whole ∙ own
            ∙ ap (once_started q.does held) (starts_same moment j lj at)
            ∙ ap (λ w. once_started q.does w (starting m (held_at run j).written (move_at run j).target (moved (read_held (held_at run j).written) (move_at run j)))) was
            ∙ sym (q.after u m back (held_at run j) (move_at run j) (f.plain j lj))
            ∙ sym (ap q.of (after_suc run j lj))
