use Rattle.std.proofs.Common.{◌≡◌, ◌+◌, take}
use Rattle.tta_sim.specs.Decoded.{lines_from}
use Rattle.tta_sim.proofs.decode.decode.Given as goal

abbrev pub invariant-loop-i : goal.invariant-loop-i
invariant-loop-i l = record {
  back : l.back ≡ 1 + l.m.control.delay + l.i-index;
  lines : l.lines ≡ lines_from l.m (1 + l.m.control.delay) (take l.i-index l.i-items);
}
