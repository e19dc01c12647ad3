use Rattle.std.proofs.Common.{◌≡◌, drop, map}
use Rattle.tta_code.specs.Cited.{over}
use Rattle.tta_code.specs.Whole.{word_of}
use Rattle.tta_code.proofs.whole.lay.Given as goal

abbrev pub invariant-loop-datum : goal.invariant-loop-datum
invariant-loop-datum l = over (map word_of (drop l.datum-index l.init)) l.memory.items ≡ over (map word_of l.init) l.fn.memory.items
