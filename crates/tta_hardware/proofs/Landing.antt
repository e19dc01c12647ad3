-- Control moves that are under way, and those that take effect.
use Rattle.std.proofs.Common.{◌≡◌, ℕ, zero, suc, ◌+◌, ◌<◌, ◌≤◌, ◌/◌, ◌%◌, ◌^◌, ◌==◌, Bool, true, false, not, ◌&&◌, Option, Some, None, refl, sym, ap, ◌∙◌, subst, inl, inr, arith}
use Rattle.std.specs.Prelude.{is_some, if◌then◌else◌}
use Rattle.std.specs.Option.{option_map_or}
use Rattle.std.proofs.lemmas.Option.{none-some, same_Some}
use Rattle.std.proofs.lemmas.Bool.{false≢true, eq-eqb, ne_eqb, eqb-true, cases_lt}
use Rattle.tta_hardware.specs.Cited.{Units, Machine, Kind, Jumps, Calls, Halts, first_some, control_of, State, Pending, Running, pending_after, lands, takes_effect, bit, is_set, value}
use Rattle.tta_circuit.specs.Circuit.{Signal as OfSignal}
use Rattle.tta_hardware.specs.Signals.{Signal as Named, Pc, HasHalted, Underway, Goal, Controls, GoalNow, EndsNow, Lands}
use Rattle.tta_hardware.specs.Stands.{Hardware, IsSettled, HasClocked, HasPending, halts, is_halted}
use Rattle.tta_hardware.specs.Laws.{brought, Steers, HasSteered, ControlKeeps}
use Rattle.tta_hardware.proofs.Chained.{set_bit}
use Rattle.tta_hardware.proofs.Steering.{steering_alike}

-- what is no more and another is less
strict : (a b : ℕ) → a ≤ b → (a == b) ≡ false → a < b
strict a b le other = elim (cases_lt a b) [
  | inl less ↦ less
  | inr past ↦ let same : a ≡ b = omega (arith, le, past) in absurd (false≢true (sym other ∙ eq-eqb a b same))
]

-- What the circuit has of the control move that is under way once the cycle's own is.
record Pends (m : Machine) (env after : Named → ℕ) (s : State) (p : Option Pending) : Type 0 where
  lands : is_set (env Lands) ≡ option_map_or (λ p. p.time == s.cycle + 1) p false
  ends : (q : Pending) → p ≡ Some q → is_set (env EndsNow) ≡ halts q.kind
  goal : (q : Pending) → p ≡ Some q → halts q.kind ≡ false → env GoalNow ≡ q.word
  underway : (delay : ℕ) → 0 < delay → delay ≤ m.control.delay → is_set (after (Underway delay))
      ≡ option_map_or (λ p. p.time == s.cycle + 1 + delay) p false
  soon : (q : Pending) → p ≡ Some q → (s.cycle < q.time) × (q.time ≤ s.cycle + 1 + m.control.delay)

module _ (u : Units) (m : Machine) (h : Hardware) (env after : Named → ℕ) (s : State) (settled : IsSettled u m h env)
    (clocked : HasClocked u m h env after)
    (pending : HasPending m h.words s) where
  -- what is under way is one cycle nearer
  nearer : (delay : ℕ) → 0 < delay → delay < m.control.delay → is_set (after (Underway delay))
      ≡ option_map_or (λ p. p.time == s.cycle + (delay + 1)) s.pending false
  nearer delay some less =
      ap is_set (clocked.underway delay some (omega (arith, less)))
      ∙ ap (λ b. is_set (value u h.memories env (if b then OfSignal Controls else OfSignal (Underway (delay + 1)))))
      (ne_eqb delay m.control.delay (λ e. omega (arith, e, less)))
      ∙ ap is_set (settled.underway (delay + 1)) ∙ pending.underway (delay + 1) (omega arith) (omega (arith, less))

  -- the farthest is the cycle's own
  farthest : (delay : ℕ) → 0 < delay → delay ≡ m.control.delay → is_set (after (Underway delay)) ≡ is_set (env Controls)
  farthest delay some same =
      ap is_set (clocked.underway delay some (omega (arith, same)))
      ∙ ap (λ b. is_set (value u h.memories env (if b then OfSignal Controls else OfSignal (Underway (delay + 1)))))
      (eq-eqb delay m.control.delay same)

  -- which takes effect now
  lands_now : m.control.delay ≡ 0 → is_set (env Lands) ≡ is_set (env Controls)
  lands_now none = ap is_set settled.lands
      ∙ ap (λ b. is_set (value u h.memories env (if b then OfSignal Controls else OfSignal (Underway 1)))) (eq-eqb m.control.delay 0 none)

  lands_next : 0 < m.control.delay → is_set (env Lands) ≡ option_map_or (λ p. p.time == s.cycle + 1) s.pending false
  lands_next some =
      ap is_set settled.lands
      ∙ ap (λ b. is_set (value u h.memories env (if b then OfSignal Controls else OfSignal (Underway 1))))
      (ne_eqb m.control.delay 0 (λ e. omega (arith, e, some)))
      ∙ ap is_set (settled.underway 1) ∙ pending.underway 1 (omega arith) (omega (arith, some))

  by_delay : {P : Type 0} → (m.control.delay ≡ 0 → P) → (0 < m.control.delay → P) → P
  by_delay {P = P} none some = by m.control.delay refl where
    by : (d : ℕ) → m.control.delay ≡ d → P
    by zero is = none is
    by (suc d) is = some (omega (arith, is))

  -- where a control move acts, and none was under way
  pends_new : (c : Kind × ℕ) → Steers env h.words (Some c) → s.pending ≡ None
      → Pends m env after s (Some (record { time = s.cycle + 1 + m.control.delay; kind = c.0; word = c.1 }))
  pends_new c steers none = record {
    lands = by_delay
        (λ zero_delay. lands_now zero_delay ∙ steers.controls
        ∙ sym (eq-eqb (s.cycle + 1 + m.control.delay) (s.cycle + 1) (omega (arith, zero_delay))))
        (λ some. lands_next some ∙ ap (λ o. option_map_or (λ (p : Pending). p.time == s.cycle + 1) o false) none
        ∙ sym (ne_eqb (s.cycle + 1 + m.control.delay) (s.cycle + 1) (λ e. omega (arith, e, some))));
    ends = λ q is. steers.ends
        ∙ ap (λ (p : Pending). halts p.kind) (same_Some (record { time = s.cycle + 1 + m.control.delay; kind = c.0; word = c.1 }) q is);
    goal = λ q is goes_on.
        let same = same_Some (record { time = s.cycle + 1 + m.control.delay; kind = c.0; word = c.1 }) q is in
        steers.goal ∙ ap (λ b. if b then h.words Goal else c.1) (ap (λ (p : Pending). halts p.kind) same ∙ goes_on)
        ∙ ap (λ (p : Pending). p.word) same;
    underway = λ delay some most. by_which delay some most (delay == m.control.delay) refl;
    soon = λ q is.
        let same : s.cycle + 1 + m.control.delay ≡ q.time =
        ap (λ (p : Pending). p.time) (same_Some (record { time = s.cycle + 1 + m.control.delay; kind = c.0; word = c.1 }) q is) in
        (omega (arith, same), omega (arith, same));
  } where
    by_which : (delay : ℕ) → 0 < delay → delay ≤ m.control.delay → (b : Bool) → (delay == m.control.delay) ≡ b
        → is_set (after (Underway delay)) ≡ (s.cycle + 1 + m.control.delay == s.cycle + 1 + delay)
    by_which delay some most true is =
        let same : delay ≡ m.control.delay = eqb-true delay m.control.delay is in
        farthest delay some same ∙ steers.controls
        ∙ sym (eq-eqb (s.cycle + 1 + m.control.delay) (s.cycle + 1 + delay) (omega (arith, same)))
    by_which delay some most false is =
        let less : delay < m.control.delay = strict delay m.control.delay most is in
        nearer delay some less ∙ ap (λ o. option_map_or (λ (p : Pending). p.time == s.cycle + (delay + 1)) o false) none
        ∙ sym (ne_eqb (s.cycle + 1 + m.control.delay) (s.cycle + 1 + delay) (λ e. omega (arith, e, less)))

  -- where none acts
  pends_old : Steers env h.words None → Pends m env after s s.pending
  pends_old steers = record {
    lands = by_delay
        (λ zero_delay. lands_now zero_delay ∙ steers.controls ∙ sym (never zero_delay s.pending refl))
        (λ some. lands_next some);
    ends = λ q is. steers.ends ∙ pending.ends q is;
    goal = λ q is goes_on. steers.goal ∙ pending.goal q is goes_on;
    underway = λ delay some most. by_which delay some most (delay == m.control.delay) refl;
    soon = λ q is. let soon = pending.soon q is in (soon.0, omega (arith, soon.1));
  } where
    never : m.control.delay ≡ 0 → (p : Option Pending) → s.pending ≡ p → option_map_or (λ (p : Pending). p.time == s.cycle + 1) p false
        ≡ false
    never zero_delay None is = refl
    never zero_delay (Some p) is = let soon = pending.soon p is in absurd (omega (arith, soon.0, soon.1, zero_delay))

    late : (delay : ℕ) → delay ≡ m.control.delay → (p : Option Pending) → s.pending ≡ p
        → option_map_or (λ (p : Pending). p.time == s.cycle + 1 + delay) p false ≡ false
    late delay same None is = refl
    late delay same (Some p) is = let soon = pending.soon p is in ne_eqb p.time (s.cycle + 1 + delay) (λ e. omega (arith, e, soon.1, same))

    by_which : (delay : ℕ) → 0 < delay → delay ≤ m.control.delay → (b : Bool) → (delay == m.control.delay) ≡ b
        → is_set (after (Underway delay)) ≡ option_map_or (λ (p : Pending). p.time == s.cycle + 1 + delay) s.pending false
    by_which delay some most true is =
        let same : delay ≡ m.control.delay = eqb-true delay m.control.delay is in
        farthest delay some same ∙ steers.controls ∙ sym (late delay same s.pending refl)
    by_which delay some most false is =
        let less : delay < m.control.delay = strict delay m.control.delay most is in
        let e : s.cycle + (delay + 1) ≡ s.cycle + 1 + delay = omega arith in
        nearer delay some less ∙ ap (λ n. option_map_or (λ (p : Pending). p.time == n) s.pending false) e

  -- the control move that acts or is under way
  pends : (c : Option (Kind × ℕ)) → Steers env h.words c → (is_some c && is_some s.pending) ≡ false
      → Pends m env after s (pending_after m s c)
  pends None steers free = pends_old steers
  pends (Some c) steers free = pends_new c steers (none s.pending free) where
    none : (p : Option Pending) → is_some p ≡ false → p ≡ None
    none None is = refl
    none (Some p) is = absurd (false≢true (sym is))

  -- ---- after the clock

  module _ (pc : h.words Pc ≡ s.pc) (base : State) (cycle : base.cycle ≡ s.cycle + 1) (next_pc : base.pc ≡ s.pc + 1)
      (runs : base.outcome ≡ Running) where
    whole : (x w : ℕ) → x / 2 ^ 0 % 2 ^ w ≡ x % 2 ^ w
    whole x w = let e : x / 2 ^ 0 ≡ x = omega arith in ap (λ (n : ℕ). n % 2 ^ w) e

    pc_after : (l e : Bool) → is_set (env Lands) ≡ l → is_set (env EndsNow) ≡ e
        → after Pc ≡ (if l && not e then env GoalNow % 2 ^ m.control.address else (s.pc + 1) % 2 ^ m.control.address)
    pc_after l e lands ends =
        clocked.pc ∙ ap (λ b. if b then env GoalNow / 2 ^ 0 % 2 ^ m.control.address else (env Pc + 1) % 2 ^ m.control.address)
        (set_bit (is_set (env Lands) && is_set (bit (not (is_set (env EndsNow)))))
        ∙ ap (λ b. is_set (env Lands) && b) (set_bit (not (is_set (env EndsNow))))
        ∙ ap (λ b. b && not (is_set (env EndsNow))) lands ∙ ap (λ b. l && not b) ends)
        ∙ ap (λ (n : ℕ). if l && not e then n else (env Pc + 1) % 2 ^ m.control.address) (whole (env GoalNow) m.control.address)
        ∙ ap (λ (n : ℕ). if l && not e then env GoalNow % 2 ^ m.control.address else (n + 1) % 2 ^ m.control.address) (settled.pc ∙ pc)

    halted_after : (l e : Bool) → is_set (env Lands) ≡ l → is_set (env EndsNow) ≡ e → is_set (after HasHalted) ≡ (l && e)
    halted_after l e lands ends =
        ap is_set clocked.halted ∙ set_bit (is_set (env Lands) && is_set (env EndsNow)) ∙ ap (λ b. b && is_set (env EndsNow)) lands
        ∙ ap (λ b. l && b) ends

    off : (a b : Bool) → a ≡ false → (a && b) ≡ false
    off a b is = ap (λ x. x && b) is

    module _ (p : Option Pending) (are : Pends m env after s p) (base_pending : base.pending ≡ p) where
      -- where none takes effect
      stays : is_set (env Lands) ≡ false → ((q : Pending) → p ≡ Some q → (q.time == s.cycle + 1) ≡ false) → HasSteered m after base
      stays not_now later = record {
        pending = record {
          soon = λ q is.
              let at = sym base_pending ∙ is in
              let soon = are.soon q at in
              let other = later q at in
              (apart s.cycle q.time base.cycle soon.0 other cycle, omega (arith, soon.1, cycle));
          underway = λ delay some most.
              are.underway delay some most ∙ ap (λ n. option_map_or (λ (p : Pending). p.time == n + delay) p false) (sym cycle)
              ∙ ap (λ o. option_map_or (λ (p : Pending). p.time == base.cycle + delay) o false) (sym base_pending);
          ends = λ q is. ap is_set clocked.ends ∙ are.ends q (sym base_pending ∙ is);
          goal = λ q is goes_on. clocked.goal ∙ are.goal q (sym base_pending ∙ is) goes_on;
        };
        pc = pc_after false (is_set (env EndsNow)) not_now refl ∙ ap (λ (n : ℕ). n % 2 ^ m.control.address) (sym next_pc);
        halted = halted_after false (is_set (env EndsNow)) not_now refl ∙ ap is_halted (sym runs);
      } where
        turn : (x y : ℕ) → (y == x) ≡ false → (x == y) ≡ false
        turn x y other = ne_eqb x y (λ e. absurd (false≢true (sym other ∙ eq-eqb y x (sym e))))

        apart : (a t b : ℕ) → a < t → (t == a + 1) ≡ false → b ≡ a + 1 → b < t
        apart a t b less other is =
            let more : a + 1 < t = strict (a + 1) t (omega (arith, less)) (turn (a + 1) t other) in omega (arith, more, is)

      -- where one does
      takes : (q : Pending) → p ≡ Some q → q.time ≡ s.cycle + 1 → is_set (env Lands) ≡ true → HasSteered m after (takes_effect base q)
      takes q is now lands = by q.kind refl where
        nothing_more : (delay : ℕ) → 0 < delay → delay ≤ m.control.delay → is_set (after (Underway delay)) ≡ false
        nothing_more delay some most =
            are.underway delay some most ∙ ap (λ o. option_map_or (λ (p : Pending). p.time == s.cycle + 1 + delay) o false) is
            ∙ ne_eqb q.time (s.cycle + 1 + delay) (λ e. omega (arith, e, now, some))

        leads : halts q.kind ≡ false → HasSteered m after (record base { pending = None; pc = q.word })
        leads goes_on = record {
          pending = record {
            soon = λ x none. absurd (none-some x none);
            underway = nothing_more;
            ends = λ x none. absurd (none-some x none);
            goal = λ x none. absurd (none-some x none);
          };
          pc = pc_after true false lands (are.ends q is ∙ goes_on) ∙ ap (λ (n : ℕ). n % 2 ^ m.control.address) (are.goal q is goes_on);
          halted = halted_after true false lands (are.ends q is ∙ goes_on) ∙ ap is_halted (sym runs);
        }

        by : (k : Kind) → q.kind ≡ k → HasSteered m after (takes_effect base (record q { kind = k }))
        by Jumps kind = leads (ap halts kind)
        by Calls kind = leads (ap halts kind)
        by Halts kind = record {
          pending = record {
            soon = λ x none. absurd (none-some x none);
            underway = nothing_more;
            ends = λ x none. absurd (none-some x none);
            goal = λ x none. absurd (none-some x none);
          };
          pc = pc_after true true lands (are.ends q is ∙ ap halts kind) ∙ ap (λ (n : ℕ). n % 2 ^ m.control.address) (sym next_pc);
          halted = halted_after true true lands (are.ends q is ∙ ap halts kind);
        }

      -- after the clock all is as after the cycle
      steered : HasSteered m after (lands base p)
      steered = by p refl where
        at : (q : Pending) → p ≡ Some q → (b : Bool) → (q.time == s.cycle + 1) ≡ b
            → HasSteered m after (if b then takes_effect base q else base)
        at q is true now =
            takes q is (eqb-true q.time (s.cycle + 1) now)
            (are.lands ∙ ap (λ o. option_map_or (λ (p : Pending). p.time == s.cycle + 1) o false) is ∙ now)
        at q is false later =
            stays (are.lands ∙ ap (λ o. option_map_or (λ (p : Pending). p.time == s.cycle + 1) o false) is ∙ later)
            (λ x it. ap (λ (p : Pending). p.time == s.cycle + 1) (same_Some x q (sym it ∙ is)) ∙ later)

        by : (o : Option Pending) → p ≡ o → HasSteered m after (lands base o)
        by None is = stays (are.lands ∙ ap (λ o. option_map_or (λ (p : Pending). p.time == s.cycle + 1) o false) is)
            (λ q it. absurd (none-some q (sym is ∙ it)))
        by (Some q) is =
            subst (λ b. HasSteered m after (if b then takes_effect base q else base)) (ap (λ (n : ℕ). q.time == n) (sym cycle))
            (at q is (q.time == s.cycle + 1) refl)

pub control_keeps : ControlKeeps
control_keeps u m h env after s base i meet clocked pending pc free cycle next_pc runs base_pending =
    subst (λ p. HasSteered m after (lands base p)) (sym base_pending)
    (steered u m h env after s meet.settled clocked pending pc base cycle next_pc runs
    (pending_after m s (first_some control_of (brought m s i)))
    (pends u m h env after s meet.settled clocked pending (first_some control_of (brought m s i)) (steering_alike u m h env s i meet) free)
    base_pending)
