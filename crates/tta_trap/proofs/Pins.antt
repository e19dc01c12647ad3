-- The pins of a circuit that tells the first fault.
use Rattle.std.proofs.Common.{◌≡◌, ℕ, ◌==◌, Bool, true, false, not, ◌&&◌, ◌||◌, List, refl, sym, ap, ◌∙◌}
use Rattle.std.specs.Prelude.{nat_lt}
use Rattle.std.proofs.lemmas.Bool.{false≢true, ltb-true, ltb-false}
use Rattle.tta_circuit.specs.Meaning.{bit}
use Rattle.tta_trap.specs.Cited.{Units, Machine, State, Outcome, Running, Halted, Waiting, Fault, Circuit, is_set, Store, HasHalted, IsOffered, IsReady, IsReset, Asks, Gives, Goes, FaultNow, Watches, is_halted, is_fault, Hardware, held_after, signals_after, cycles_after, cyc_over}
use Rattle.tta_code.specs.declared.code.Code.{Code as Program}
use Rattle.tta_hardware.specs.Signals.{Signal as Named}
use Rattle.tta_hardware.specs.Theorem.{is_waiting}
use Rattle.tta_hardware.proofs.Chained.{set_bit}
use Rattle.tta_hardware.proofs.Pins.{streams_apart}
use Rattle.tta_trap.specs.Trap.{trap_circuit}
use Rattle.tta_trap.specs.Tells.{TellsFaults, KnowsOn}
use Rattle.tta_trap.specs.Theorem.{IsClocked}
use Rattle.tta_trap.specs.Pins.{TrapPinsSay, TrapPinsServe}
use Rattle.tta_trap.proofs.Settled.{free_settled, is_settled, goes_is, at_puts, reset_is}
use Rattle.tta_trap.proofs.Waited.{free_goes}
use Rattle.tta_trap.proofs.Trapped.{Reaches}
use Rattle.tta_trap.proofs.Stopped.{every, set}

-- ---- tests

-- whether a clock goes, from whether a fault is told, whether it begins anew, whether the machine has halted, and what is asked,
-- offered, given and taken
abbrev goes_by : (f x h a o g r : Bool) → Bool
goes_by f x h a o g r = not f && (not x && (not h && ((not a || o) && (not g || r))))

and_false : (b : Bool) → (b && false) ≡ false
and_false true = refl
and_false false = refl

and_true : (b : Bool) → (b && true) ≡ b
and_true true = refl
and_true false = refl

-- no word is taken and another put out
abbrev NotBoth : (f x h a g : Bool) → Type 0
NotBoth f x h a g = f ≡ false → x ≡ false → h ≡ false → a ≡ true → g ≡ false

out_by : (f x h a o g r : Bool) → NotBoth f x h a g → ((not f && (not x && (not h && g))) && r) ≡ (goes_by f x h a o g r && g)
out_by true x h a o g r not_both = refl
out_by false true h a o g r not_both = refl
out_by false false true a o g r not_both = refl
out_by false false false a o false r not_both = sym (and_false ((not a || o) && true))
out_by false false false true o true r not_both = absurd (false≢true (sym (not_both refl refl refl refl)))
out_by false false false false o true r not_both = sym (and_true r)

taken_by : (f x h a o g r : Bool) → NotBoth f x h a g → ((not f && (not x && (not h && a))) && o) ≡ (goes_by f x h a o g r && a)
taken_by true x h a o g r not_both = refl
taken_by false true h a o g r not_both = refl
taken_by false false true a o g r not_both = refl
taken_by false false false false o g r not_both = sym (and_false (not g || r))
taken_by false false false true o true r not_both = absurd (false≢true (sym (not_both refl refl refl refl)))
taken_by false false false true o false r not_both = sym (and_true (o && true) ∙ and_true o)

-- a pin, from the tests that it is made of
pin : (n : ℕ) (x h g : Bool)
    → is_set (bit (is_set (bit (n == 0)) && is_set (bit (is_set (bit (not x)) && is_set (bit (is_set (bit (not h)) && g))))))
    ≡ (not (is_set n) && (not x && (not h && g)))
pin n x h g = by (n == 0) x h where
  by : (c x h : Bool)
      → is_set (bit (is_set (bit c) && is_set (bit (is_set (bit (not x)) && is_set (bit (is_set (bit (not h)) && g))))))
      ≡ (not (not c) && (not x && (not h && g)))
  by false x h = refl
  by true true h = refl
  by true false true = refl
  by true false false = set_bit _ ∙ set_bit _ ∙ set_bit g

-- ---- every clock

module _ (tells : TellsFaults) (knows_on : KnowsOn) (u : Units) (m : Machine) (code : Program)
    (had memory frame input : List ℕ) (h : Hardware) (inputs : ℕ → Named → ℕ) (last : ℕ)
    (given : IsClocked u m code had memory frame input h inputs last) (t : ℕ) where
  abbrev it : Circuit Named Store
  it = trap_circuit m code had

  abbrev held : Hardware
  held = held_after u it h inputs t

  abbrev env : Named → ℕ
  env = signals_after u it h inputs t

  abbrev state : State
  state = cyc_over u m code memory frame input (cycles_after u it h inputs t)

  not_at_once : NotBoth (is_set (env (Watches FaultNow))) (is_set (env IsReset)) (is_set (env HasHalted)) (is_set (env Asks))
      (is_set (env Gives))
  not_at_once fine on goes_on = at (nat_lt last t) refl where
    at : (b : Bool) → nat_lt last t ≡ b → is_set (env Asks) ≡ true → is_set (env Gives) ≡ false
    at false early =
        absurd (false≢true (sym on ∙ ap is_set (reset_is u m given.rules code had held (inputs t))
        ∙ given.clocks.reset t (ltb-false last t early)))
    at true late = by state.outcome refl where
      is : Reaches tells knows_on u m code had memory frame input h inputs last given t state
      is = every tells knows_on u m code had memory frame input h inputs last given t (ltb-true last t late)

      by : (o : Outcome) → state.outcome ≡ o → is_set (env Asks) ≡ true → is_set (env Gives) ≡ false
      by Running runs =
          streams_apart u m code held env state given.rules given.legal is.run.stands runs
          (sym (set tells knows_on u m code had memory frame input h inputs last given t (ltb-true last t late)) ∙ fine)
          (is_settled u m given.rules code had held (inputs t) fine)
      by Halted ends =
          absurd (false≢true (sym goes_on ∙ ap is_set (free_settled u m given.rules code had held (inputs t)).halted
          ∙ is.run.stands.halted ∙ ap is_halted ends))
      by Waiting waits = absurd (false≢true (sym is.run.goes_on ∙ ap is_waiting waits))
      by (Fault number cycle) bad = absurd (false≢true (sym is.sound ∙ ap is_fault bad))

  goes : is_set (env Goes) ≡ goes_by (is_set (env (Watches FaultNow))) (is_set (env IsReset)) (is_set (env HasHalted)) (is_set (env Asks))
      (is_set (env IsOffered)) (is_set (env Gives)) (is_set (env IsReady))
  goes =
      goes_is u m given.rules code had held (inputs t)
      ∙ ap (λ b. not (is_set (env (Watches FaultNow))) && b) (free_goes u m given.rules code had held (inputs t))

  pub pins_say : TrapPinsSay u held env
  pins_say = record {
    out = ap (λ b. b && is_set (env IsReady))
        (pin (env (Watches FaultNow)) (is_set (env IsReset)) (is_set (env HasHalted)) (is_set (env Gives)))
        ∙ out_by (is_set (env (Watches FaultNow))) (is_set (env IsReset)) (is_set (env HasHalted)) (is_set (env Asks))
        (is_set (env IsOffered)) (is_set (env Gives)) (is_set (env IsReady)) not_at_once
        ∙ ap (λ b. b && is_set (env Gives)) (sym goes)
        ∙ sym (ap is_set (at_puts u m given.rules code had held (inputs t)) ∙ set_bit (is_set (env Goes) && is_set (env Gives)));
    taken = ap (λ b. b && is_set (env IsOffered))
        (pin (env (Watches FaultNow)) (is_set (env IsReset)) (is_set (env HasHalted)) (is_set (env Asks)))
        ∙ taken_by (is_set (env (Watches FaultNow))) (is_set (env IsReset)) (is_set (env HasHalted)) (is_set (env Asks))
        (is_set (env IsOffered)) (is_set (env Gives)) (is_set (env IsReady)) not_at_once
        ∙ ap (λ b. b && is_set (env Asks)) (sym goes);
  }

pub trap_pins_serve : TellsFaults → KnowsOn → TrapPinsServe
trap_pins_serve tells knows_on u m code first memory frame input h inputs last given t =
    pins_say tells knows_on u m code first memory frame input h inputs last given t
