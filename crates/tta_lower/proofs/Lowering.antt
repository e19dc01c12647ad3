-- The law of register code.
use Rattle.std.proofs.Common.{arith}
use Rattle.tta_lower.specs.Lower.{Part, Entry, Steps, Returned, parts, number_of, entry_number, lowered}
use Rattle.tta_lower.specs.Keeps.{KeepsMeaning}
use Rattle.tta_lower.specs.Law.{LowersWell}
use Rattle.tta_lower.specs.Members.{In}
use Rattle.tta_lower.proofs.Whole.{keeps-meaning}
use Rattle.tta_lower.proofs.Placed.{before, is-lowered}
use Rattle.tta_lower.proofs.Shutting.{IsPartOf, parts-are}
use Rattle.tta_lower.proofs.Shut.{is-closed}
use Rattle.tta_lower.proofs.Counting.{IsPart, names-few, asks-few, assigns-few}
use Rattle.tta_lower.proofs.Weighing.{few-blocks, weight-fits}

-- register code is what the law says
pub lowers_well : LowersWell
lowers_well u p known homes frame_words sound flow apart answers = record {
  keeps = keeps;
  closed = λ need. is-closed p known homes frame_words sound flow answers need u keeps.meaning;
  slots = λ x is. names-few p known homes flow x (part x is);
  asked = λ wanted x is. asks-few p known homes flow u wanted x (part x is);
  assigned = λ x is. assigns-few p known homes flow x (part x is);
  few = omega (arith, few-blocks p known homes sound flow answers);
  light = weight-fits p known homes sound flow answers;
} where
  keeps : KeepsMeaning u p (lowered p known homes)
  keeps = keeps-meaning u p known (lowered p known homes) (number_of p known.blocks known.first) (entry_number p known.blocks known.first)
      (before p known homes sound flow answers) flow apart sound (is-lowered p known homes sound flow answers)

  -- a part of the program
  part : (x : Part) → In x (parts p known.blocks known.first) → IsPart p known homes flow x
  part x is = by x (parts-are p known homes sound flow answers x is) where
    by : (x : Part) → IsPartOf p known.blocks x → IsPart p known homes flow x
    by (Entry owner) lt = tt
    by (Steps b) has = has
    by (Returned b d callee) r = tt
