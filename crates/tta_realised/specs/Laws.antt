-- What the circuit of code does that agrees with a program, and that of a built image.
use Rattle.std.specs.Prelude.{◌≡◌, ℕ, ◌<◌, List, length}
use Rattle.tta_realised.specs.Cited.{Units, Machine, IsMachine, Program, step_count, Whole, IsLegalWhole, IsGiven, AgreesAt, Agrees, IsBuilt, Image, code_words, image_words, AreClocks}
use Rattle.tta_hardware.specs.Signals.{Signal as Named}
use Rattle.tta_realised.specs.Realised.{circuit_on, DoesAs}

-- The circuit of legal code that agrees with a program does what the program does: from every memory, for every input, whatever words
-- its registers have when the power comes, after clocks that begin anew and then every number of clocks, in which it may be offered
-- the words of the input at any time, and those that it puts out may be taken at any time.
abbrev pub CircuitDoes : Type 0
CircuitDoes =
    (u : Units) (m : Machine) (p : Program) (rate : ℕ) (whole : Whole) (memory input : List ℕ) (powers : Named → ℕ) (inputs : ℕ → Named → ℕ)
    → IsMachine m → IsLegalWhole m whole → AgreesAt u m p rate whole → IsGiven m memory input → (last : ℕ)
    → AreClocks u (circuit_on m whole (code_words m whole.code) memory) input powers inputs last → (t : ℕ) → last < t
    → DoesAs u (circuit_on m whole (code_words m whole.code) memory) input powers inputs p memory rate (length whole.code.words) t

-- The same of the circuit whose memory of code has the bits of an image of that code.
abbrev pub ImageDoes : Type 0
ImageDoes =
    (u : Units) (m : Machine) (p : Program) (whole : Whole) (digest bytes memory input : List ℕ) (powers : Named → ℕ)
    (inputs : ℕ → Named → ℕ) → IsMachine m → IsLegalWhole m whole → Agrees u m p whole → length digest ≡ 32 → Image m digest whole bytes
    → IsGiven m memory input → (last : ℕ)
    → AreClocks u (circuit_on m whole (image_words m bytes) memory) input powers inputs last → (t : ℕ) → last < t
    → DoesAs u (circuit_on m whole (image_words m bytes) memory) input powers inputs p memory (step_count p) (length whole.code.words) t

-- So the circuit of an image does that `build` wrote for a program: it does what the program does.
abbrev pub BuiltDoes : Type 0
BuiltDoes =
    (u : Units) (m : Machine) (p : Program) (whole : Whole) (digest bytes memory input : List ℕ) (powers : Named → ℕ)
    (inputs : ℕ → Named → ℕ) → IsMachine m → IsBuilt u m p whole → length digest ≡ 32 → Image m digest whole bytes
    → IsGiven m memory input → (last : ℕ)
    → AreClocks u (circuit_on m whole (image_words m bytes) memory) input powers inputs last → (t : ℕ) → last < t
    → DoesAs u (circuit_on m whole (image_words m bytes) memory) input powers inputs p memory (step_count p) (length whole.code.words) t
