-- A whole and its canonical text determine each other.
use Rattle.std.proofs.Common.{◌≡◌, ℕ, List, ap, sym, ◌∙◌}
use Rattle.std.specs.Prelude.{Ok}
use Rattle.tta_parse.proofs.Steps.{same_ok}
use Rattle.tta_asm.specs.Cited.{Units, Machine, IsMachine, StandsOver, Whole, IsLegalWhole}
use Rattle.tta_asm.specs.Assembly.{assembled}
use Rattle.tta_disasm.specs.Canonical.{canonical}
use Rattle.tta_asm.proofs.ShownText.{canonical_assembled}
use Rattle.tta_asm.proofs.AssembledLegal.{assembled_legal}

-- two legal wholes of one canonical text are one
pub canonical_once : (u : Units) (m : Machine) (whole whole' : Whole) → IsMachine m → StandsOver u m → IsLegalWhole m whole
    → IsLegalWhole m whole' → canonical u m whole ≡ canonical u m whole' → whole ≡ whole'
canonical_once u m whole whole' rules stands legal legal' same =
    let one = canonical_assembled u m whole rules stands legal in
    let other = canonical_assembled u m whole' rules stands legal' in
    same_ok whole whole' (sym one ∙ ap (λ text. assembled u m text) same ∙ other)

-- what a text is read as is read back from its canonical text
pub text_assembled : (u : Units) (m : Machine) (text : List ℕ) (whole : Whole) → IsMachine m → StandsOver u m
    → assembled u m text ≡ Ok whole → assembled u m (canonical u m whole) ≡ Ok whole
text_assembled u m text whole rules stands read =
    canonical_assembled u m whole rules stands (assembled_legal u m text whole read)
