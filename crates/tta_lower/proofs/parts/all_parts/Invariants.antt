use Rattle.std.proofs.Common.{◌≡◌, ◌++◌}
use Rattle.tta_lower.specs.LoweringInput.{first_by}
use Rattle.tta_lower.specs.Lower.{parts}
use Rattle.tta_lower.proofs.Split.{others_from}
use Rattle.tta_lower.proofs.parts.all_parts.Given as goal

abbrev pub invariant-loop-owner : goal.invariant-loop-owner
invariant-loop-owner l =
    l.into.items ++ others_from l.p l.blocks (first_by l.p l.live) l.owner
    ≡ parts l.p l.blocks (first_by l.p l.live)
