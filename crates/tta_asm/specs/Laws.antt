-- That a whole and its canonical text determine each other.
use Rattle.std.specs.Prelude.{◌≡◌, ℕ, List, Ok}
use Rattle.tta_asm.specs.Cited.{Units, Machine, IsMachine, StandsOver, Whole, IsLegalWhole}
use Rattle.tta_asm.specs.Assembly.{assembled}
use Rattle.tta_disasm.specs.Canonical.{canonical}

-- a legal whole is read back from its canonical text
abbrev pub ReadsBack : Type 0
ReadsBack =
    (u : Units) (m : Machine) (whole : Whole) → IsMachine m → StandsOver u m → IsLegalWhole m whole
    → assembled u m (canonical u m whole) ≡ Ok whole

-- two legal wholes of one canonical text are one
abbrev pub HasOneWhole : Type 0
HasOneWhole =
    (u : Units) (m : Machine) (whole whole' : Whole) → IsMachine m → StandsOver u m → IsLegalWhole m whole → IsLegalWhole m whole'
    → canonical u m whole ≡ canonical u m whole' → whole ≡ whole'

-- the whole of a text is legal
abbrev pub AssemblesLegal : Type 0
AssemblesLegal =
    (u : Units) (m : Machine) (text : List ℕ) (whole : Whole) → assembled u m text ≡ Ok whole → IsLegalWhole m whole

-- so what a text is read as is read back from its canonical text
abbrev pub ReadsTextBack : Type 0
ReadsTextBack =
    (u : Units) (m : Machine) (text : List ℕ) (whole : Whole) → IsMachine m → StandsOver u m → assembled u m text ≡ Ok whole
    → assembled u m (canonical u m whole) ≡ Ok whole
