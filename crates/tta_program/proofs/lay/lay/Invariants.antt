use Rattle.std.proofs.Common.{◌≡◌, drop, map}
use Rattle.tta_list.specs.Laid.{over}
use Rattle.tta_program.specs.Program.{datum_of}
use Rattle.tta_program.proofs.lay.lay.Given as goal

abbrev pub invariant-loop-datum : goal.invariant-loop-datum
invariant-loop-datum l = over (map datum_of (drop l.datum-index l.init)) l.memory.items ≡ over (map datum_of l.init) l.fn.memory.items
