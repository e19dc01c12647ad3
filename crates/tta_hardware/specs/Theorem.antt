-- What a clock of the circuit is to a cycle of the machine.
use Rattle.std.specs.Prelude.{◌≡◌, ℕ, Bool, true, false, not, ◌&&◌, ◌||◌, List, [], ◌∷◌, ◌++◌, Some, slice_get, if◌then◌else◌}
use Rattle.tta_hardware.specs.Cited.{left, Units, Machine, IsMachine, IsLegalCode, State, Outcome, Running, Halted, Waiting, Fault, next, is_set}
use Rattle.tta_code.specs.declared.code.Code.{Code as Program}
use Rattle.tta_hardware.specs.Signals.{Signal as Named, IsOffered, Offer, IsReady, IsReset, Asks, Gives, Goes, Puts, PutWord}
use Rattle.tta_hardware.specs.Stands.{Hardware, StandsFor, IsSettled, HasClocked}
use Rattle.tta_hardware.specs.Laws.{HasStored}

-- whether a run is at a fault
abbrev pub is_fault : Outcome → Bool
is_fault Running = false
is_fault Halted = false
is_fault Waiting = false
is_fault (Fault number at) = true

-- whether a run waits
abbrev pub is_waiting : Outcome → Bool
is_waiting Running = false
is_waiting Halted = false
is_waiting Waiting = true
is_waiting (Fault number at) = false

-- A word that is offered is the next of the rest of the input.
abbrev pub IsFed : (Named → ℕ) → List ℕ → Type 0
IsFed env rest = is_set (env IsOffered) ≡ true → slice_get rest 0 ≡ Some (env Offer)

-- The circuit has made a cycle: it stands for the next state, which waits for nothing; it put out the word that the cycle outputs, if
-- any; and a word that it asked for was taken.
pub record HasStepped (u : Units) (m : Machine) (code : Program) (g : Hardware) (env : Named → ℕ) (s t : State) : Type 0 where
  pub stands : StandsFor m code g t
  pub output : t.output ≡ s.output ++ (if is_set (env Puts) then env PutWord ∷ [] else [])
  pub rest : t.rest ≡ left (is_set (env Asks)) s.rest
  pub goes_on : is_waiting t.outcome ≡ false

-- The circuit waits: it asks for a word, and none is offered, or it has a word to put out that nobody takes. Where it asks for a
-- word and none is left, the machine waits too.
pub record HasStalled (u : Units) (m : Machine) (code : Program) (env : Named → ℕ) (s : State) : Type 0 where
  pub why : (is_set (env Asks) && not (is_set (env IsOffered)) || is_set (env Gives) && not (is_set (env IsReady))) ≡ true
  pub waits : is_set (env Asks) ≡ true → s.rest ≡ [] → next u m code s ≡ record s { outcome = Waiting }

-- One clock, where the circuit stands for a state that runs, and whose next cycle is no fault: a clock that carries the instruction out
-- makes that cycle, and any other one waits.
abbrev pub OneClock : Type 0
OneClock =
    (u : Units) (m : Machine) (code : Program) (h g : Hardware) (env : Named → ℕ) (s : State)
    → IsMachine m → IsLegalCode m code → StandsFor m code h s → s.outcome ≡ Running → is_fault (next u m code s).outcome ≡ false
    → IsSettled u m h env → IsFed env s.rest → is_set (env IsReset) ≡ false
    → (is_set (env Goes) ≡ true → HasClocked u m h env g.words → HasStored u m h env g.memories
    → HasStepped u m code g env s (next u m code s))
    × (is_set (env Goes) ≡ false → HasStalled u m code env s)
