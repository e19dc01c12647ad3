-- What a circuit stands for hangs on what it holds alone.
use Rattle.std.proofs.Common.{◌≡◌, ℕ, ◌+◌, ◌&&◌, nat_lt, List, Some, None, ap, ◌∙◌}
use Rattle.std.specs.Prelude.{if◌then◌else◌}
use Rattle.tta_hardware.specs.Cited.{Machine, KeptPort, State, is_set}
use Rattle.tta_code.specs.declared.code.Code.{Code as Program}
use Rattle.tta_hardware.specs.Signals.{Signal as Named, Code, Data, Frame, Pc, Whole, HasHalted, Underway, Goal, Ends, Keeps, IsDue, Due, HasBegun, Raw, IsInside}
use Rattle.tta_hardware.specs.Wires.{longest, loads}
use Rattle.tta_hardware.specs.Stands.{Hardware, StandsFor, fresh_in}
use Rattle.tta_hardware.proofs.Fresh.{same_fresh}

-- what stands for a state still does where all that it holds is the same, whatever the rest of the input is
pub stands_too : (m : Machine) (code : Program) (h g : Hardware) (s : State) (rest : List ℕ) → ((n : Named) → g.words n ≡ h.words n)
    → g.memories Data ≡ h.memories Data → g.memories Frame ≡ h.memories Frame → g.memories Code ≡ h.memories Code
    → StandsFor m code h s → StandsFor m code g (record s { rest = rest })
stands_too m code h g s rest words memory frame rom stands = record {
  words = λ p w can has is. words (Keeps p) ∙ stands.words p w can has is;
  ports = λ unit w less is. fresh unit 1 (Keeps (KeptPort unit)) ∙ stands.ports unit w less is;
  coming = λ unit delay less some.
      ap (λ n. if nat_lt delay (longest m unit) && is_set n then Some (fresh_in m g.words unit (delay + 1) (g.words (Due unit delay)))
      else None) (words (IsDue unit delay))
      ∙ ap (λ n. if nat_lt delay (longest m unit) && is_set (h.words (IsDue unit delay)) then Some n else None)
      (fresh unit (delay + 1) (Due unit delay))
      ∙ stands.coming unit delay less some;
  pending = record {
    soon = stands.pending.soon;
    underway = λ delay some most. ap is_set (words (Underway delay)) ∙ stands.pending.underway delay some most;
    ends = λ p is. ap is_set (words Ends) ∙ stands.pending.ends p is;
    goal = λ p is goes_on. words Goal ∙ stands.pending.goal p is goes_on;
  };
  pc = words Pc ∙ stands.pc;
  whole = λ i at. words Whole ∙ stands.whole i at;
  halted = ap is_set (words HasHalted) ∙ stands.halted;
  rom = rom ∙ stands.rom;
  spaces = record {
    memory = memory ∙ stands.spaces.memory;
    frame = frame ∙ stands.spaces.frame;
    memory_size = stands.spaces.memory_size;
    frame_size = stands.spaces.frame_size;
  };
} where
  fresh : (unit latency : ℕ) (n : Named) → fresh_in m g.words unit latency (g.words n) ≡ fresh_in m h.words unit latency (h.words n)
  fresh unit latency n =
      ap (fresh_in m g.words unit latency) (words n)
      ∙ same_fresh g.words h.words unit (λ op. words (HasBegun unit op)) (λ op. words (Raw unit op)) (λ op. words (IsInside unit op))
      (loads m unit latency) (h.words n)

-- so it is where the rest of the input is the same, too
pub still_stands : (m : Machine) (code : Program) (h g : Hardware) (s : State) → ((n : Named) → g.words n ≡ h.words n)
    → g.memories Data ≡ h.memories Data → g.memories Frame ≡ h.memories Frame
    → g.memories Code ≡ h.memories Code → StandsFor m code h s → StandsFor m code g s
still_stands m code h g s words memory frame rom stands = stands_too m code h g s s.rest words memory frame rom stands
