use Rattle.std.proofs.Common.{◌≡◌, ◌++◌, drop}
use Rattle.std.specs.List.{flat_map}
use Rattle.tta_lower.specs.Lower.{span_parts}
use Rattle.tta_lower.proofs.parts.push_spans.Given as goal

abbrev pub invariant-loop-b : goal.invariant-loop-b
invariant-loop-b l = l.into.items ++ flat_map (span_parts l.p) (drop l.b-index l.blocks) ≡ l.fn.into.items ++ flat_map (span_parts l.p) l.blocks
