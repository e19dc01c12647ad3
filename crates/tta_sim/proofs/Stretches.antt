-- Stretches of a run, by its control and by what is held of it.
use Rattle.std.proofs.Common.{◌≡◌, ℕ, ◌<◌, ◌≤◌, List, Option, Some, None, refl, sym, ap, ◌∙◌, arith}
use Rattle.std.specs.Prelude.{option_map}
use Rattle.std.proofs.lemmas.Option.{same_Some}
use Rattle.tta_code.specs.Cycle.{Running, Pending as Underway}
use Rattle.tta_sim.specs.declared.control.Control.{Control}
use Rattle.tta_sim.specs.declared.control.Pending.{Pending}
use Rattle.tta_sim.specs.declared.control.Phase.{Phase}
use Rattle.tta_sim.specs.declared.control.Phase.TheVariants as phase
use Rattle.tta_sim.specs.declared.decoded.Line.{Line}
use Rattle.tta_sim.specs.declared.store.Store.{Store}
use Rattle.tta_sim.specs.declared.stretch.Stretch.{Stretch}
use Rattle.tta_sim.specs.Controls.{underway, outcome_of, IsStretch}
use Rattle.tta_sim.specs.Kept.{held_of, HasStretch}

-- a run that goes on is in the phase of one
phase_runs : (cycle : ℕ) (p : Phase) → outcome_of cycle p ≡ Running → p ≡ phase.Running
phase_runs cycle phase.Running is = refl
phase_runs cycle phase.Halted is = cc
phase_runs cycle (phase.Fault number) is = cc

timed : (o : Option Pending) (end : ℕ) → ((q : Pending) → o ≡ Some q → end ≤ q.time) → (p : Underway) → option_map underway o ≡ Some p → end ≤ p.time
timed None end later p is = cc
timed (Some q) end later p is =
    let same : q.time ≡ p.time = ap (λ x. x.time) (same_Some (underway q) p is) in
    omega (arith, same, later q refl)

module _ (lines : List Line) (store : Store) (control : Control) (s : Stretch) where
  pub held_stretch : IsStretch store.cycle control s → HasStretch (held_of lines store control) s
  held_stretch is = record {
    within = is.within;
    runs = λ less. ap (outcome_of store.cycle) (is.goes less).running;
    later = λ less. timed control.pending s.end (is.goes less).later;
  }

  pub stretch_held : HasStretch (held_of lines store control) s → IsStretch store.cycle control s
  stretch_held has = record {
    within = has.within;
    goes = λ less. record {
      running = phase_runs store.cycle control.phase (has.runs less);
      later = λ p is. has.later less (underway p) (ap (option_map underway) is);
    };
  }
