use Rattle.std.proofs.Common.{◌≡◌, ◌++◌, drop, map}
use Rattle.tta_lower.specs.Plan.{block_in}
use Rattle.tta_lower.proofs.made.blocks_for.Given as goal

abbrev pub invariant-loop-part : goal.invariant-loop-part
invariant-loop-part l = l.blocks.items ++ map (block_in l.plan l.numbers) (drop l.part-index l.parts) ≡ map (block_in l.plan l.numbers) l.parts
