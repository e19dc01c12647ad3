-- A block of code runs as its list was placed.
use Rattle.std.proofs.Common.{◌≡◌, ℕ, zero, suc, ◌+◌, ◌<◌, ◌≤◌, true, false, None, refl, sym, ap, subst, ◌∙◌, arith}
use Rattle.std.specs.Prelude.{◌==◌}
use Rattle.std.proofs.lemmas.Bool.Decides.{nat_tests}
use Rattle.tta_sched_laws.specs.Cited.{Place, KeptPort, State, port, lands, next, Exit, Next, Leaves, Held, iterate}
use Rattle.tta_arch.specs.Effects.{kept as lookup, first_some as pick}
use Rattle.tta_code.specs.Cycle.{Running}
use Rattle.tta_moves.specs.Meaning.{Waits as Stops}
use Rattle.tta_sched_laws.proofs.Cut.{IsCut, at_start, cut_exists}
use Rattle.tta_sched_laws.proofs.Ports.{due_then}
use Rattle.tta_sched_laws.proofs.Steps.{is_kept}
use Rattle.tta_sched_laws.proofs.Starts.{write_later, Covers}
use Rattle.tta_sched_laws.proofs.Spaces.{data_space, frame_space, out_space, in_space}
use Rattle.tta_sched_laws.proofs.Placing.{some_is}
use Rattle.tta_sched_laws.proofs.Zeros.{more}
use Rattle.tta_sched_laws.proofs.Listed.{Run, n, move_at, held_at, write_at, writes, shows, value, slot, slot_shows, coming, coming_other, coming_none, show_rises, kept_same, port_same, touches, space_rises, space_same, out_same, slot_writes, slot_rises, ctl, ctl_rises, exit_same, as_pending, as_result, Stands}
use Rattle.tta_sched_laws.proofs.InCycle.{Now, word}
use Rattle.tta_sched_laws.proofs.Onward.{onward, next_is, stands_next, next_more}
use Rattle.tta_moves.proofs.Places.{either}

module _ (run : Run) where
  open run use {u, m, back, placed, h, len, f, code, base, begin, carries, back_is}

  -- a cycle of the list, and the machine there
  abbrev pub now_at : (c : ℕ) (s : State) → c < len → Stands run c s → Now
  now_at c s lt st = record { run = run; c = c; s = s; lt = lt; st = st }

  -- before the block's end no control takes effect
  stays : (c : ℕ) (s : State) → c < len → Stands run c s → lands s s.pending ≡ s
  stays c s lt st =
      let a = cut_exists ◌≡◌ (ctl run) (slot_shows run) (n run) (λ k. as_pending run (held_at run k).exit) (ctl_rises run) (λ j lj e. ap (as_pending run) (exit_same run j lj e)) c in
      ap (lands s) (st.pending a.0 a.1 a.2) ∙ on (held_at run a.0).exit where
        on : (o : Exit) → lands s (as_pending run o) ≡ s
        on Next = refl
        on Stops = refl
        on (Leaves kind word) = let g = st.cycle in let e : (begin + len == s.cycle) ≡ false = grind (arith, nat_tests) in rw e refl

  -- the list's run
  pub runs : (c : ℕ) (s : State) → c < len → c ≤ f.stop → Stands run 0 s → Stands run c (iterate c (next u m code) s)
  runs zero s lt le st = st
  runs (suc c) s lt le st =
      let before = runs c s (omega arith) (omega arith) st in
      let t = iterate c (next u m code) s in
      let on = stands_next (now_at c t (omega arith) before) in
      subst (Stands run (suc c)) (sym (next_is (now_at c t (omega arith) before) (omega arith) ∙ stays (suc c) (onward (now_at c t (omega arith) before)) lt on)) on

  -- with more input the list's run is the same up to the stop, and leaves it
  pub runs_more : (z c : ℕ) (s : State) → c < len → c ≤ f.stop → Stands run 0 s → iterate c (next u m code) (more z s) ≡ more z (iterate c (next u m code) s)
  runs_more z zero s lt le st = refl
  runs_more z (suc c) s lt le st =
      ap (next u m code) (runs_more z c s (omega arith) (omega arith) st)
      ∙ next_more (now_at c (iterate c (next u m code) s) (omega arith) (runs c s (omega arith) (omega arith) st)) z (omega arith)

  -- the list's last cycle: what it leaves, and then its exit is taken
  pub runs_out : (s : State) → 0 < len → f.stop ≡ len → Stands run 0 s → (e : State) × Stands run len e × (iterate len (next u m code) s ≡ lands e e.pending)
  runs_out s lt dry st = last len refl where
    last : (l : ℕ) → len ≡ l → (e : State) × Stands run len e × (iterate l (next u m code) s ≡ lands e e.pending)
    last zero q = absurd (omega arith)
    last (suc c) q =
        let before = runs c s (omega arith) (omega arith) st in
        let t = iterate c (next u m code) s in
        (onward (now_at c t (omega arith) before), subst (λ l. Stands run l (onward (now_at c t (omega arith) before))) (sym q) (stands_next (now_at c t (omega arith) before)), next_is (now_at c t (omega arith) before) (omega arith))

  module _ (s : State) (st : Stands run len s) where
    all_show : (x : Place) → IsCut (writes run x) (shows run x) (n run) len (n run)
    all_show x = record { before = λ j lj w. f.shown_in j x _ lj (some_is (write_at run x j) w); later = λ j le lj w. absurd (omega arith) }

    pub end_kept : (x : Place) → is_kept x ≡ true → Covers (lookup s.written x) (value run x (n run))
    end_kept x kept = st.kept x kept (n run) (omega arith) (all_show x)

    pub end_ports : (unit : ℕ) → Covers (port s unit) (value run (KeptPort unit) (n run))
    end_ports unit = st.ports unit (n run) (omega arith) (all_show (KeptPort unit))

    pub end_settled : (unit d : ℕ) → len < d → pick (due_then unit (begin + d)) s.started ≡ None
    end_settled unit d late =
        st.flights unit d late (n run) (omega arith) (record { before = λ j lj w. f.within j lj; later = λ j le lj w. absurd (omega arith) })
        ∙ ap (as_result run unit d) (coming_none run unit d (n run) (λ i li. either (slot run unit d i)
        (λ w. let a = slot_writes run unit d i w in let b = f.shown_in i (KeptPort unit) _ li (some_is (write_at run (KeptPort unit) i) a.0) in absurd (omega (arith, a.1)))
        (λ w. w)))

    all_touch : (q : ℕ) → IsCut (touches run q) (slot_shows run) (n run) len (n run)
    all_touch q = record { before = λ j lj w. f.within j lj; later = λ j le lj w. absurd (omega arith) }

    pub end_pending : s.pending ≡ as_pending run (held_at run (n run)).exit
    end_pending = st.pending (n run) (omega arith) (record { before = λ j lj w. f.within j lj; later = λ j le lj w. absurd (omega arith) })

    pub end_memory : s.memory ≡ (held_at run (n run)).memory
    end_memory = st.memory (n run) (omega arith) (all_touch 1)

    pub end_frame : s.frame ≡ (held_at run (n run)).frame
    end_frame = st.frame (n run) (omega arith) (all_touch 2)

    pub end_input : s.rest ≡ (held_at run (n run)).rest
    end_input = st.rest (n run) (omega arith) (all_touch 3)

    pub end_output : s.output ≡ (held_at run (n run)).output
    end_output = st.output (n run) (omega arith) (all_touch 3)

  -- at each moment the output is that of a prefix of the list
  pub output_at : (c : ℕ) (s : State) → Stands run c s → (k : ℕ) × (k ≤ n run) × (s.output ≡ (held_at run k).output)
  output_at c s st =
      let a = cut_exists ◌≡◌ (touches run 3) (slot_shows run) (n run) (λ k. (held_at run k).output) (space_rises run 3 (omega arith)) (output_same) c in
      (a.0, a.1, st.output a.0 a.1 a.2) where
        output_same : (j : ℕ) → j < n run → touches run 3 j ≡ false → (held_at run (suc j)).output ≡ (held_at run j).output
        output_same j lj e = out_same run j lj e

-- ---- where a block begins

module _ (run : Run) (j : ℕ) (lt : j < n run) where
  memory_first : touches run 1 j ≡ false → (held_at run (suc j)).memory ≡ (held_at run j).memory
  unfolding data_space
  memory_first e = space_same run data_space j lt e

  frame_first : touches run 2 j ≡ false → (held_at run (suc j)).frame ≡ (held_at run j).frame
  unfolding frame_space
  frame_first e = space_same run frame_space j lt e

  rest_first : touches run 3 j ≡ false → (held_at run (suc j)).rest ≡ (held_at run j).rest
  unfolding in_space
  rest_first e = space_same run in_space j lt e

  output_first : touches run 3 j ≡ false → (held_at run (suc j)).output ≡ (held_at run j).output
  unfolding out_space
  output_first e = space_same run out_space j lt e

-- The machine holds what a list's state holds, at a block's edge, and no result is due later. What is to come of a control
-- move is said apart.
pub record Matches (s : State) (h : Held) : Type 0 where
  pub outcome : s.outcome ≡ Running
  pub kept : (x : Place) → is_kept x ≡ true → Covers (lookup s.written x) (lookup h.written x)
  pub ports : (unit : ℕ) → Covers (port s unit) (lookup h.written (KeptPort unit))
  pub memory : s.memory ≡ h.memory
  pub frame : s.frame ≡ h.frame
  pub rest : s.rest ≡ h.rest
  pub output : s.output ≡ h.output
  pub settled : (unit d : ℕ) → s.cycle < d → pick (due_then unit d) s.started ≡ None

module _ (run : Run) (s : State) (base_is : s.pc ≡ run.base) (begin_is : s.cycle ≡ run.begin) (pending : s.pending ≡ None) (match : Matches s run.h) where
  open run use {u, m, back, placed, h, len, f, code, base, begin, carries, back_is}

  -- at the block's start the machine stands at the list's
  pub first_stands : Stands run 0 s
  first_stands = record {
    outcome = match.outcome;
    pc = omega arith;
    cycle = omega arith;
    pending = at_start ◌≡◌ (ctl run) (slot_shows run) (n run) (λ k. as_pending run (held_at run k).exit) (ctl_rises run) (λ j lj e. ap (as_pending run) (exit_same run j lj e)) 0 s.pending (pending ∙ sym (ap (as_pending run) f.opens)) (λ j lt w. omega arith);
    kept = λ x kept. at_start Covers (writes run x) (shows run x) (n run) (value run x) (show_rises run x) (kept_same run x kept) 0 (lookup s.written x) (match.kept x kept)
        (λ j lt w. let l = write_later m x (move_at run j) _ (f.plain j lt) (some_is (write_at run x j) w) in omega arith);
    ports = λ unit. at_start Covers (writes run (KeptPort unit)) (shows run (KeptPort unit)) (n run) (value run (KeptPort unit)) (show_rises run (KeptPort unit)) (port_same run unit) 0 (port s unit) (match.ports unit)
        (λ j lt w. let l = write_later m (KeptPort unit) (move_at run j) _ (f.plain j lt) (some_is (write_at run (KeptPort unit) j) w) in omega arith);
    memory = at_start ◌≡◌ (touches run 1) (slot_shows run) (n run) (λ k. (held_at run k).memory) (space_rises run 1 (omega arith)) (memory_first run) 0 s.memory match.memory (λ j lt w. omega arith);
    frame = at_start ◌≡◌ (touches run 2) (slot_shows run) (n run) (λ k. (held_at run k).frame) (space_rises run 2 (omega arith)) (frame_first run) 0 s.frame match.frame (λ j lt w. omega arith);
    rest = at_start ◌≡◌ (touches run 3) (slot_shows run) (n run) (λ k. (held_at run k).rest) (space_rises run 3 (omega arith)) (rest_first run) 0 s.rest match.rest (λ j lt w. omega arith);
    output = at_start ◌≡◌ (touches run 3) (slot_shows run) (n run) (λ k. (held_at run k).output) (space_rises run 3 (omega arith)) (output_first run) 0 s.output match.output (λ j lt w. omega arith);
    flights = λ unit d late. at_start ◌≡◌ (slot run unit d) (slot_shows run) (n run) (λ k. as_result run unit d (coming run unit d k)) (slot_rises run unit d) (λ j lj e. ap (as_result run unit d) (coming_other run unit d j e)) 0
        (pick (due_then unit (begin + d)) s.started) (match.settled unit (begin + d) (omega arith)) (λ j lt w. omega arith);
  }
