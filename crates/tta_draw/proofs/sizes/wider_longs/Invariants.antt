use Rattle.std.proofs.Common.{◌≡◌, ◌≤◌, drop}
use Rattle.tta_draw.specs.CodeWidths.{wider_longs}
use Rattle.tta_draw.proofs.sizes.wider_longs.Given as goal

abbrev pub invariant-loop-i : goal.invariant-loop-i
invariant-loop-i l =
    record {
      rest : wider_longs l.m l.widest (drop l.i-index l.words) ≡ wider_longs l.m l.width l.words;
      few : l.widest ≤ 7008;
    }
