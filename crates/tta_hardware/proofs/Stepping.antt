-- One clock of the circuit is one cycle of the machine.
use Rattle.std.proofs.Common.{◌≡◌, ℕ, ◌+◌, ◌<◌, Bool, true, false, not, ◌&&◌, ◌||◌, List, [], ◌∷◌, ◌++◌, Option, Some, None, slice_get, refl, sym, ap, ◌∙◌, subst}
use Rattle.std.specs.Prelude.{is_none, slice_index, fold}
use Rattle.std.specs.List.{list_any, filter_map}
use Rattle.std.proofs.lemmas.Option.{none-some, same_Some}
use Rattle.std.proofs.lemmas.Bool.{false≢true, and_parts}
use Rattle.tta_hardware.specs.Cited.{Units, Machine, IsMachine, store_data, store_frame, put_out, take_in, takes, lacks_operand, first_some, control_of, Instruction, IsLegalCode, State, Running, Waiting, next, carry_out, or_fault, or_wait, waits, acts, lands, fault_of, first_fault, effects_of, pending_after, clashes, jumps_in_delay, is_set}
use Rattle.tta_code.specs.declared.code.Code.{Code as Program}
use Rattle.tta_code.specs.Cycle.{next_of, result_of}
use Rattle.tta_hardware.specs.Signals.{Signal as Named, Pc, Whole, Code, HasHalted, IsOffered, Offer, IsReady, IsReset, Asks, Gives, Goes}
use Rattle.tta_hardware.specs.Stands.{Hardware, StandsFor, IsSettled, HasClocked, HasComing, HasPorts, is_halted}
use Rattle.tta_hardware.specs.Laws.{Meet, AreStarted, HasStored, HasSteered, Streams, brought, written_after, started_in}
use Rattle.tta_hardware.specs.Theorem.{is_fault, IsFed, HasStepped, HasStalled, OneClock}
use Rattle.tta_hardware.proofs.Chained.{going}
use Rattle.tta_hardware.proofs.Fetching.{fetched_at}
use Rattle.tta_hardware.proofs.Keeping.{words_keep}
use Rattle.tta_hardware.proofs.Coming.{results_keep}
use Rattle.tta_hardware.proofs.Started.{starts_alike}
use Rattle.tta_hardware.proofs.Apart.{all_later}
use Rattle.tta_hardware.proofs.Serving.{apart}
use Rattle.tta_hardware.proofs.Meeting as known
use Rattle.tta_hardware.proofs.Landing.{control_keeps}
use Rattle.tta_hardware.proofs.Spaces.{spaces_keep}
use Rattle.tta_hardware.proofs.Faultless.{IsSame, lands_same}

-- ---- one clock

module _ (u : Units) (m : Machine) (code : Program) (h g : Hardware) (env : Named → ℕ) (s : State) (rules : IsMachine m)
    (legal : IsLegalCode m code)
    (stands : StandsFor m code h s) (runs : s.outcome ≡ Running) (settled : IsSettled u m h env) (fed : IsFed env s.rest)
    (on : is_set (env IsReset) ≡ false)
    (i : Instruction) (at : slice_get code.words s.pc ≡ Some i)
    (no_fault : fault_of s (effects_of m i) (brought m s i) (started_in m s i) ≡ None) where
  third : (list_any lacks_operand (started_in m s i) ≡ false)
      × (first_fault ((list_any (clashes s) (started_in m s i), 63) ∷ (jumps_in_delay s (brought m s i), 64) ∷ []) ≡ None)
  third = known.third u m code h env s rules legal stands settled i at no_fault

  fifth : (jumps_in_delay s (brought m s i) ≡ false) × (first_fault [] ≡ None)
  fifth = known.fifth u m code h env s rules legal stands settled i at no_fault

  meet : Meet u m h env s i
  meet = known.meet u m code h env s rules legal stands settled i at no_fault

  pc_is : h.words Pc ≡ s.pc
  pc_is = known.pc_is u m code h env s rules legal stands settled i at no_fault

  small : s.pc < 65536
  small = known.small u m code h env s rules legal stands settled i at no_fault

  streams : Streams env s (started_in m s i)
  streams = known.streams u m code h env s rules legal stands settled i at no_fault

  -- whether the clock carries the instruction out
  goes_is : is_set (env Goes) ≡ ((not (is_set (env Asks)) || is_set (env IsOffered)) && (not (is_set (env Gives)) || is_set (env IsReady)))
  goes_is =
      ap is_set settled.goes ∙ going (is_set (env IsReset)) (is_set (env HasHalted)) (is_set (env Asks)) (is_set (env IsOffered))
      (is_set (env Gives)) (is_set (env IsReady))
      ∙ ap (λ b. not b
      && (not (is_set (env HasHalted))
      && ((not (is_set (env Asks)) || is_set (env IsOffered)) && (not (is_set (env Gives)) || is_set (env IsReady))))) on
      ∙ ap (λ b. not b && ((not (is_set (env Asks)) || is_set (env IsOffered)) && (not (is_set (env Gives)) || is_set (env IsReady))))
      (ap is_set settled.halted ∙ stands.halted ∙ ap is_halted runs)

  abbrev base : State
  base = record {
    written = written_after m s i;
    started = filter_map (result_of u s) (started_in m s i) ++ s.started;
    memory = fold store_data s.memory (started_in m s i);
    frame = fold store_frame s.frame (started_in m s i);
    rest = fold take_in s.rest (started_in m s i);
    output = fold put_out s.output (started_in m s i);
    pc = s.pc + 1;
    cycle = s.cycle + 1;
    pending = pending_after m s (first_some control_of (brought m s i));
    outcome = Running;
  }

  abbrev after : State
  after = lands base (pending_after m s (first_some control_of (brought m s i)))

  head : (ws : List ℕ) (w : ℕ) → slice_get ws 0 ≡ Some w → w ≡ slice_index ws 0
  head [] w is = absurd (none-some w is)
  head (x ∷ ws) w is = sym (same_Some x w is)

  module _ (goes : is_set (env Goes) ≡ true) where
    offered : is_set (env Asks) ≡ true → is_set (env IsOffered) ≡ true
    offered asks =
        sym (ap (λ b. not b || is_set (env IsOffered)) asks)
        ∙ (and_parts (not (is_set (env Asks)) || is_set (env IsOffered)) (not (is_set (env Gives)) || is_set (env IsReady))
        (sym goes_is ∙ goes)).0

    -- the cycle does not wait
    waits_not : waits s (started_in m s i) ≡ false
    waits_not = by (list_any takes (started_in m s i)) refl where
      by : (b : Bool) → list_any takes (started_in m s i) ≡ b → (b && is_none (slice_get s.rest 0)) ≡ false
      by true is = ap is_none (fed (offered (streams.asks ∙ is)))
      by false is = refl

    are_started : AreStarted m env s (started_in m s i)
    are_started = record {
      apart = apart u m h env s i meet third.0;
      later = all_later m rules (written_after m s i) (brought m s i);
      alike = starts_alike u m h env s i meet third.0;
      offered = λ is. head s.rest (env Offer) (fed (offered (streams.asks ∙ is)));
    }

    module _ (clocked : HasClocked u m h env g.words) (stored : HasStored u m h env g.memories) where
      same : IsSame after base
      same = lands_same base (pending_after m s (first_some control_of (brought m s i))) refl

      steered : HasSteered m g.words after
      steered = control_keeps u m h env g.words s base i meet clocked stands.pending pc_is fifth.0 refl refl refl refl

      results : HasComing m g.words after × HasPorts m g.words after
      results = results_keep u m h env g.words s after (started_in m s i) settled clocked stands.spaces are_started stands.coming
          stands.ports same.started same.cycle

      keeps : StandsFor m code g after
      keeps = record {
        words = words_keep u m h env g.words s after i meet clocked pc_is small same.written;
        ports = results.1;
        coming = results.0;
        pending = steered.pending;
        pc = steered.pc;
        whole = fetched_at m code (h.memories Code) (g.words Pc) (g.words Whole) after.pc steered.pc stands.rom clocked.whole legal;
        halted = steered.halted;
        rom = stored.rom ∙ stands.rom;
        spaces = spaces_keep u m h g env s after i meet third.0 goes stored stands.spaces same.memory same.frame;
      }

      stepped : HasStepped u m code g env s after
      stepped = record {
        stands = keeps;
        output = same.output ∙ streams.output goes;
        rest = same.rest ∙ streams.rest;
        goes_on = same.goes_on refl;
      }

  -- where it does not, a word is asked for that is not offered, or one is given that is not taken
  module _ (stops : is_set (env Goes) ≡ false) where
    parts : (a o g r : Bool) → ((not a || o) && (not g || r)) ≡ false → (a && not o || g && not r) ≡ true
    parts true false g r is = refl
    parts true true true false is = refl
    parts true true true true is = absurd (false≢true (sym is))
    parts true true false r is = absurd (false≢true (sym is))
    parts false o true false is = refl
    parts false o true true is = absurd (false≢true (sym is))
    parts false o false r is = absurd (false≢true (sym is))

    why : (is_set (env Asks) && not (is_set (env IsOffered)) || is_set (env Gives) && not (is_set (env IsReady))) ≡ true
    why = parts (is_set (env Asks)) (is_set (env IsOffered)) (is_set (env Gives)) (is_set (env IsReady)) (sym goes_is ∙ stops)

    waits_too : is_set (env Asks) ≡ true → s.rest ≡ [] → waits s (started_in m s i) ≡ true
    waits_too asks none =
        ap (λ b. b && is_none (slice_get s.rest 0)) (sym streams.asks ∙ asks) ∙ ap (λ ws. is_none (slice_get ws 0)) none

-- ---- the cycle of a state that runs

pub next_is : (u : Units) (m : Machine) (code : Program) (s : State) → s.outcome ≡ Running
    → next u m code s ≡ carry_out u m s (slice_get code.words s.pc)
unfolding next
next_is u m code s runs = ap (next_of u m code s) runs

pub one_clock : OneClock
one_clock u m code h g env s rules legal stands runs fine settled fed on =
    by (slice_get code.words s.pc) refl (sym (ap (λ t. is_fault t.outcome) (next_is u m code s runs)) ∙ fine)
  where
    fetched : (i : Instruction) → slice_get code.words s.pc ≡ Some i → (f : Option ℕ)
        → fault_of s (effects_of m i) (brought m s i) (started_in m s i) ≡ f
        → is_fault (or_fault s f
        (or_wait s (waits s (started_in m s i)) (acts u m s (brought m s i) (started_in m s i) (written_after m s i)))).outcome ≡ false
        → (is_set (env Goes) ≡ true → HasClocked u m h env g.words → HasStored u m h env g.memories
        → HasStepped u m code g env s (next u m code s))
        × (is_set (env Goes) ≡ false → HasStalled u m code env s)
    fetched i at (Some n) is fine = absurd (false≢true (sym fine))
    fetched i at None is fine = (
      λ goes clocked stored.
          let it : next u m code s ≡ after u m code h g env s rules legal stands runs settled fed on i at is =
          next_is u m code s runs ∙ ap (carry_out u m s) at
          ∙ ap (λ o. or_fault s o
          (or_wait s (waits s (started_in m s i)) (acts u m s (brought m s i) (started_in m s i) (written_after m s i)))) is
          ∙ ap (λ b. or_wait s b (acts u m s (brought m s i) (started_in m s i) (written_after m s i)))
          (waits_not u m code h g env s rules legal stands runs settled fed on i at is goes) in
          subst (HasStepped u m code g env s) (sym it)
          (stepped u m code h g env s rules legal stands runs settled fed on i at is goes clocked stored),
      λ stops.
          record {
            why = why u m code h g env s rules legal stands runs settled fed on i at is stops;
            waits = λ asks none.
                let it : next u m code s ≡ record s { outcome = Waiting } =
                next_is u m code s runs ∙ ap (carry_out u m s) at
                ∙ ap (λ o. or_fault s o
                (or_wait s (waits s (started_in m s i)) (acts u m s (brought m s i) (started_in m s i) (written_after m s i)))) is
                ∙ ap (λ b. or_wait s b (acts u m s (brought m s i) (started_in m s i) (written_after m s i)))
                (waits_too u m code h g env s rules legal stands runs settled fed on i at is stops asks none) in
                it;
          },
    )

    by : (o : Option Instruction) → slice_get code.words s.pc ≡ o → is_fault (carry_out u m s o).outcome ≡ false
        → (is_set (env Goes) ≡ true → HasClocked u m h env g.words → HasStored u m h env g.memories
        → HasStepped u m code g env s (next u m code s))
        × (is_set (env Goes) ≡ false → HasStalled u m code env s)
    by None at fine = absurd (false≢true (sym fine))
    by (Some i) at fine = fetched i at (fault_of s (effects_of m i) (brought m s i) (started_in m s i)) refl fine
