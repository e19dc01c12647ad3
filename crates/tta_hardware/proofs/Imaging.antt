-- The circuit whose memory of code has the bits of an image runs as its machine.
use Rattle.std.proofs.Common.{◌≡◌, ℕ, ◌<◌, false, List, length, sym, subst}
use Rattle.tta_hardware.specs.Cited.{Units, Machine, IsMachine, IsLegalCode, cyc}
use Rattle.tta_code.specs.declared.code.Code.{Code as Program}
use Rattle.tta_hardware.specs.Signals.{Signal as Named}
use Rattle.tta_hardware.specs.Hardware.{code_words, circuit_with}
use Rattle.tta_hardware.specs.Theorem.{is_fault}
use Rattle.tta_hardware.specs.Runs.{cycles_at, AreClocks}
use Rattle.tta_hardware.specs.Images.{ShowsRun, ImageRuns}
use Rattle.tta_hardware.proofs.Running.{circuit_runs}
use Rattle.tta_hardware.proofs.Imaged.{image_kept}

-- the circuit of code shows the run of its machine
pub shows_run : (u : Units) (m : Machine) (code : Program) (memory input : List ℕ) (powers : Named → ℕ) (inputs : ℕ → Named → ℕ)
    → IsMachine m → IsLegalCode m code → length memory ≡ m.data_words
    → ((n : ℕ) → is_fault (cyc u m code memory input n).outcome ≡ false)
    → (last : ℕ) → AreClocks u (circuit_with m (code_words m code) memory) input powers inputs last → (t : ℕ) → last < t
    → ShowsRun u m (code_words m code) memory input powers inputs t
    (cyc u m code memory input (cycles_at u (circuit_with m (code_words m code) memory) powers inputs t))
shows_run u m code memory input powers inputs rules legal sized fine last clocks t less =
    let run = circuit_runs u m code memory input powers inputs rules legal sized fine last clocks t less in
    record {
      output = run.output;
      rest = run.rest;
      halted = run.stands.halted;
      data_space = run.stands.spaces.memory;
      frame_space = run.stands.spaces.frame;
      goes_on = run.goes_on;
    }

pub image_runs : ImageRuns
image_runs u m digest whole bytes memory input powers inputs rules many image sized fine =
    subst (λ (ws : List ℕ). (last : ℕ) → AreClocks u (circuit_with m ws memory) input powers inputs last → (t : ℕ) → last < t
    → ShowsRun u m ws memory input powers inputs t
    (cyc u m whole.code memory input (cycles_at u (circuit_with m ws memory) powers inputs t)))
    (sym (image_kept m digest whole bytes rules many image))
    (shows_run u m whole.code memory input powers inputs rules image.legal sized fine)
