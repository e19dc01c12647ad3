-- Code that agrees with a program meets no fault in a circuit that would tell it.
use Rattle.std.proofs.Common.{◌≡◌, ℕ, suc, ◌+◌, ◌*◌, ◌<◌, Bool, true, false, not, ◌&&◌, ◌||◌, List, refl, sym, ap, ◌∙◌, subst}
use Rattle.std.specs.Prelude.{replicate}
use Rattle.std.proofs.lemmas.List.{length-replicate}
use Rattle.tta_realised.specs.Cited.{IsPrefixOf, over, Units, Machine, IsMachine, Program, step_count, Whole, data_in, IsLegalWhole, IsGiven, AgreesAt, program_at, code_at, is_set, code_words, Asks, Goes, IsOffered, FaultNow, Watches, is_halted, AreClocks, signals_at, cycles_at}
use Rattle.tta_list.proofs.Sets.{over-length}
use Rattle.tta_circuit.specs.Meaning.{powered}
use Rattle.tta_hardware.specs.Signals.{Signal as Named, same_signal, same_store}
use Rattle.tta_hardware.specs.Stands.{Hardware}
use Rattle.tta_hardware.specs.Runs.{HoldsWords}
use Rattle.tta_hardware.proofs.Imaged.{image_kept}
use Rattle.tta_trap.specs.Trap.{trap_circuit}
use Rattle.tta_trap.specs.Theorem.{HasTrapped, IsClocked}
use Rattle.tta_trap.proofs.Onward.{knows_on}
use Rattle.tta_trap.proofs.Stopped.{trap_runs, trap_stands_still}
use Rattle.tta_trap.proofs.Telling.{tells_faults}
use Rattle.tta_realised.specs.Realised.{is_untaken, IsHeldUp}
use Rattle.tta_realised.specs.Faultless.{trap_on, TellsNone, CircuitTellsNone, BuiltTellsNone}

module _ (u : Units) (m : Machine) (p : Program) (rate : ℕ) (whole : Whole) (memory input : List ℕ) (powers : Named → ℕ)
    (inputs : ℕ → Named → ℕ) (rules : IsMachine m) (legal : IsLegalWhole m whole) (agrees : AgreesAt u m p rate whole)
    (given : IsGiven m memory input) (last : ℕ)
    (clocks : AreClocks u (trap_on m whole (code_words m whole.code) memory) input powers inputs last) where
  -- the words of the data space, what the circuit holds when the power comes, and the cycles that it has made
  abbrev first : List ℕ
  first = over (data_in whole) memory

  abbrev begins : Hardware
  begins = powered same_signal same_store (trap_circuit m whole.code first) powers

  abbrev made : ℕ → ℕ
  made t = cycles_at u (trap_circuit m whole.code first) powers inputs t

  holds : HoldsWords m whole.code first (replicate m.frame_words 0) begins
  holds = record {
    rom = refl;
    data_has = refl;
    frame_has = refl;
    memory_size = over-length (data_in whole) memory ∙ given.size;
    frame_size = length-replicate m.frame_words 0;
  }

  clocked : IsClocked u m whole.code first first (replicate m.frame_words 0) input begins inputs last
  clocked = record { rules = rules; legal = legal.code; holds = holds; clocks = clocks }

  trapped : (t : ℕ) → last < t → HasTrapped u m whole.code (trap_circuit m whole.code first) begins input inputs t (code_at u m whole memory input (made t))
  trapped t less =
      trap_runs tells_faults knows_on u m whole.code first first (replicate m.frame_words 0) input begins inputs last
      clocked t less

  none : (t : ℕ) → last < t → is_set (signals_at u (trap_circuit m whole.code first) powers inputs t (Watches FaultNow)) ≡ false
  none t less = by (is_set (signals_at u (trap_circuit m whole.code first) powers inputs t (Watches FaultNow))) refl where
    by : (b : Bool) → is_set (signals_at u (trap_circuit m whole.code first) powers inputs t (Watches FaultNow)) ≡ b
        → is_set (signals_at u (trap_circuit m whole.code first) powers inputs t (Watches FaultNow)) ≡ false
    by true is = absurd (agrees.no_fault memory input (suc (made t)) _ _ given ((trapped t less).fault is))
    by false is = is

  held_up : (t : ℕ) → last < t → is_set (signals_at u (trap_circuit m whole.code first) powers inputs t Goes) ≡ false
      → IsHeldUp u (trap_circuit m whole.code first) input powers inputs t
  held_up t less stops =
      ap (λ (b : Bool). b || why) (trapped t less).runs.stands.halted
      ∙ ap (λ (b : Bool). is_halted (code_at u m whole memory input (made t)).outcome || (b || why)) (sym (none t less))
      ∙ (trap_stands_still tells_faults knows_on u m whole.code first first (replicate m.frame_words 0) input begins inputs last clocked t less
      stops).why where
        why : Bool
        why = is_set (signals_at u (trap_circuit m whole.code first) powers inputs t Asks)
            && not (is_set (signals_at u (trap_circuit m whole.code first) powers inputs t IsOffered))
            || is_untaken u (trap_circuit m whole.code first) input powers inputs t

  pub tells_none : (t : ℕ) → last < t → TellsNone u (trap_on m whole (code_words m whole.code) memory) input powers inputs p memory rate t
  tells_none t less = record {
    fault = none t less;
    goes = held_up t less;
    output = subst (λ (l : List ℕ). IsPrefixOf l (program_at u p memory input (rate * (made t + 1))).output) (sym (trapped t less).runs.output)
        (agrees.output_only memory input (made t) given);
  }

pub circuit_tells_none : CircuitTellsNone
circuit_tells_none u m p rate whole memory input powers inputs rules legal agrees given last clocks t less =
    tells_none u m p rate whole memory input powers inputs rules legal agrees given last clocks t less

pub built_tells_none : BuiltTellsNone
built_tells_none u m p whole digest bytes memory input powers inputs rules built many image given =
    subst (λ (ws : List ℕ). (last : ℕ) → AreClocks u (trap_on m whole ws memory) input powers inputs last → (t : ℕ) → last < t
    → TellsNone u (trap_on m whole ws memory) input powers inputs p memory (step_count p) t)
    (sym (image_kept m digest whole bytes rules many image))
    (circuit_tells_none u m p (step_count p) whole memory input powers inputs rules built.legal built.agrees given)
