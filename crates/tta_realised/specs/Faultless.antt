-- Code that agrees with a program meets no fault in a circuit that would tell it.
use Rattle.std.specs.Prelude.{◌≡◌, ℕ, ◌+◌, ◌*◌, ◌<◌, false, List, length}
use Rattle.tta_realised.specs.Cited.{IsPrefixOf, over, Units, Machine, IsMachine, Program, step_count, Whole, data_in, IsLegalWhole, IsGiven, AgreesAt, program_at, IsBuilt, Image, Circuit, is_set, Store, code_words, image_words, Goes, FaultNow, Watches, AreClocks, signals_at, cycles_at, put_at, trap_with}
use Rattle.tta_hardware.specs.Signals.{Signal as Named}
use Rattle.tta_realised.specs.Realised.{IsHeldUp}

-- the circuit of a machine that tells faults, whose memory of code has these words, and whose data space has the data of code over a memory
abbrev pub trap_on : Machine → Whole → (words memory : List ℕ) → Circuit Named Store
trap_on m whole words memory = trap_with m (length whole.code.words) words (over (data_in whole) memory)

-- After so many clocks a circuit tells no fault, what it put out begins the program's output, and each clock carries an instruction out
-- that is not held up.
pub record TellsNone (u : Units) (c : Circuit Named Store) (input : List ℕ) (powers : Named → ℕ) (inputs : ℕ → Named → ℕ)
    (p : Program) (memory : List ℕ) (rate t : ℕ) : Type 0 where
  pub fault : is_set (signals_at u c powers inputs t (Watches FaultNow)) ≡ false
  pub goes : is_set (signals_at u c powers inputs t Goes) ≡ false → IsHeldUp u c input powers inputs t
  pub output : IsPrefixOf (put_at u c powers inputs t) (program_at u p memory input (rate * (cycles_at u c powers inputs t + 1))).output

-- So it is of legal code that agrees with a program, under the premises of the circuit that tells no faults.
abbrev pub CircuitTellsNone : Type 0
CircuitTellsNone =
    (u : Units) (m : Machine) (p : Program) (rate : ℕ) (whole : Whole) (memory input : List ℕ) (powers : Named → ℕ) (inputs : ℕ → Named → ℕ)
    → IsMachine m → IsLegalWhole m whole → AgreesAt u m p rate whole → IsGiven m memory input → (last : ℕ)
    → AreClocks u (trap_on m whole (code_words m whole.code) memory) input powers inputs last → (t : ℕ) → last < t
    → TellsNone u (trap_on m whole (code_words m whole.code) memory) input powers inputs p memory rate t

-- And so of the circuit of an image that `build` wrote for a program.
abbrev pub BuiltTellsNone : Type 0
BuiltTellsNone =
    (u : Units) (m : Machine) (p : Program) (whole : Whole) (digest bytes memory input : List ℕ) (powers : Named → ℕ)
    (inputs : ℕ → Named → ℕ) → IsMachine m → IsBuilt u m p whole → length digest ≡ 32 → Image m digest whole bytes
    → IsGiven m memory input → (last : ℕ)
    → AreClocks u (trap_on m whole (image_words m bytes) memory) input powers inputs last → (t : ℕ) → last < t
    → TellsNone u (trap_on m whole (image_words m bytes) memory) input powers inputs p memory (step_count p) t
