-- Control moves in the delay of another, and those that take effect.
use Rattle.std.proofs.Common.{◌≡◌, ℕ, zero, suc, ◌+◌, ◌-◌, ◌<◌, ◌==◌, false, ◌&&◌, map, Option, Some, None, refl, sym, ap, ◌∙◌, arith}
use Rattle.std.specs.Prelude.{is_some, if◌then◌else◌}
use Rattle.std.specs.Option.{option_map_or}
use Rattle.std.specs.List.{list_any, range_with_len}
use Rattle.std.proofs.lemmas.Option.{same_Some}
use Rattle.std.proofs.lemmas.Bool.{false≢true, eq-eqb, ne_eqb}
use Rattle.tta_circuit.specs.Circuit.{Signal as OfSignal}
use Rattle.tta_hardware.specs.Cited.{Units, Machine, Kind, first_some, control_of, Instruction, State, Pending, pending_after, jumps_in_delay, is_set, value}
use Rattle.tta_hardware.specs.Signals.{Signal as Named, Underway, Goal, Controls, GoalNow, EndsNow, Lands}
use Rattle.tta_hardware.specs.Chains.{any_of}
use Rattle.tta_hardware.specs.Stands.{Hardware, IsSettled, HasPending, halts}
use Rattle.tta_hardware.specs.Laws.{Meet, Steers, brought}
use Rattle.tta_hardware.proofs.Chained.{set_bit}
use Rattle.tta_hardware.proofs.Steering.{steers_alike}
use Rattle.tta_trap.specs.Watches.{jumps_again}
use Rattle.tta_trap.proofs.Tests.{any_set, any_range, some_range, all_fail}

-- ---- while another is under way

module _ (u : Units) (m : Machine) (h : Hardware) (env : Named → ℕ) (s : State) (settled : IsSettled u m h env)
    (pending : HasPending m h.words s) where
  -- whether one is under way
  under_told : list_any (λ delay. is_set (env (Underway delay))) (range_with_len 1 m.control.delay) ≡ is_some s.pending
  under_told =
      any_range (λ delay. is_set (env (Underway delay))) (λ delay. option_map_or (λ p. p.time == s.cycle + delay) s.pending false) 1
      m.control.delay
      (λ delay least below. ap is_set (settled.underway delay) ∙ pending.underway delay (omega (arith, least)) (omega (arith, below)))
      ∙ by s.pending refl
    where
      by : (o : Option Pending) → s.pending ≡ o
          → list_any (λ delay. option_map_or (λ p. p.time == s.cycle + delay) o false) (range_with_len 1 m.control.delay) ≡ is_some o
      by None is = all_fail (λ delay. false) 1 m.control.delay (λ delay least below. refl)
      by (Some p) is =
          let soon = pending.soon p is in
          some_range (λ delay. p.time == s.cycle + delay) 1 m.control.delay (p.time - s.cycle) (omega (arith, soon.0))
          (omega (arith, soon.0, soon.1)) (eq-eqb p.time (s.cycle + (p.time - s.cycle)) (omega (arith, soon.0)))

-- whether a control move acts then
pub jumps_told : (u : Units) (m : Machine) (h : Hardware) (env : Named → ℕ) (s : State) (i : Instruction) → Meet u m h env s i
    → HasPending m h.words s → is_set (value u h.memories env (jumps_again m)) ≡ jumps_in_delay s (brought m s i)
jumps_told u m h env s i meet pending =
    let under = is_set (value u h.memories env (any_of (map (λ delay. OfSignal (Underway delay)) (range_with_len 1 m.control.delay)))) in
    set_bit (is_set (env Controls) && under) ∙ ap (λ b. b && under) (steers_alike u m h env s i meet).controls
    ∙ ap (λ b. is_some (first_some control_of (brought m s i)) && b)
    (any_set u h.memories env (λ delay. OfSignal (Underway delay)) (range_with_len 1 m.control.delay)
    ∙ under_told u m h env s meet.settled pending)

-- ---- what takes effect

-- What the circuit has of the control move that is under way once the cycle's own is.
pub record Leads (env : Named → ℕ) (s : State) (p : Option Pending) : Type 0 where
  pub lands : is_set (env Lands) ≡ option_map_or (λ p. p.time == s.cycle + 1) p false
  pub ends : (q : Pending) → p ≡ Some q → is_set (env EndsNow) ≡ halts q.kind
  pub goal : (q : Pending) → p ≡ Some q → halts q.kind ≡ false → env GoalNow ≡ q.word

module _ (u : Units) (m : Machine) (h : Hardware) (env : Named → ℕ) (s : State) (settled : IsSettled u m h env)
    (pending : HasPending m h.words s) where
  -- whether one takes effect: at once where there is no delay, or one that was under way
  at_once : m.control.delay ≡ 0 → is_set (env Lands) ≡ is_set (env Controls)
  at_once none = ap is_set settled.lands
      ∙ ap (λ b. is_set (value u h.memories env (if b then OfSignal Controls else OfSignal (Underway 1)))) (eq-eqb m.control.delay 0 none)

  from_before : 0 < m.control.delay → is_set (env Lands) ≡ option_map_or (λ p. p.time == s.cycle + 1) s.pending false
  from_before some =
      ap is_set settled.lands
      ∙ ap (λ b. is_set (value u h.memories env (if b then OfSignal Controls else OfSignal (Underway 1))))
      (ne_eqb m.control.delay 0 (λ e. omega (arith, e, some)))
      ∙ ap is_set (settled.underway 1) ∙ pending.underway 1 (omega arith) (omega (arith, some))

  by_delay : {P : Type 0} → (m.control.delay ≡ 0 → P) → (0 < m.control.delay → P) → P
  by_delay {P = P} none some = by m.control.delay refl where
    by : (d : ℕ) → m.control.delay ≡ d → P
    by zero is = none is
    by (suc d) is = some (omega (arith, is))

  leads_new : (c : Kind × ℕ) → Steers env h.words (Some c) → s.pending ≡ None
      → Leads env s (Some (record { time = s.cycle + 1 + m.control.delay; kind = c.0; word = c.1 }))
  leads_new c steers none = record {
    lands = by_delay
        (λ zero_delay. at_once zero_delay ∙ steers.controls
        ∙ sym (eq-eqb (s.cycle + 1 + m.control.delay) (s.cycle + 1) (omega (arith, zero_delay))))
        (λ some. from_before some ∙ ap (λ o. option_map_or (λ (p : Pending). p.time == s.cycle + 1) o false) none
        ∙ sym (ne_eqb (s.cycle + 1 + m.control.delay) (s.cycle + 1) (λ e. omega (arith, e, some))));
    ends = λ q is. steers.ends
        ∙ ap (λ (p : Pending). halts p.kind) (same_Some (record { time = s.cycle + 1 + m.control.delay; kind = c.0; word = c.1 }) q is);
    goal = λ q is goes_on.
        let same = same_Some (record { time = s.cycle + 1 + m.control.delay; kind = c.0; word = c.1 }) q is in
        steers.goal ∙ ap (λ b. if b then h.words Goal else c.1) (ap (λ (p : Pending). halts p.kind) same ∙ goes_on)
        ∙ ap (λ (p : Pending). p.word) same;
  }

  leads_old : Steers env h.words None → Leads env s s.pending
  leads_old steers = record {
    lands = by_delay
        (λ zero_delay. at_once zero_delay ∙ steers.controls ∙ sym (none_now zero_delay s.pending refl))
        (λ some. from_before some);
    ends = λ q is. steers.ends ∙ pending.ends q is;
    goal = λ q is goes_on. steers.goal ∙ pending.goal q is goes_on;
  } where
    none_now : m.control.delay ≡ 0 → (p : Option Pending) → s.pending ≡ p → option_map_or (λ (p : Pending). p.time == s.cycle + 1) p false
        ≡ false
    none_now zero_delay None is = refl
    none_now zero_delay (Some p) is = let soon = pending.soon p is in absurd (omega (arith, soon.0, soon.1, zero_delay))

  -- the control move that acts or is under way
  pub leads : (c : Option (Kind × ℕ)) → Steers env h.words c → (is_some c && is_some s.pending) ≡ false
      → Leads env s (pending_after m s c)
  leads None steers free = leads_old steers
  leads (Some c) steers free = leads_new c steers (none s.pending free) where
    none : (p : Option Pending) → is_some p ≡ false → p ≡ None
    none None is = refl
    none (Some p) is = absurd (false≢true (sym is))
