use Rattle.std.proofs.Common.{◌≡◌, ◌≤◌, drop}
use Rattle.tta_draw.specs.Cited.{stated}
use Rattle.tta_draw.specs.CodeWidths.{wider_rows}
use Rattle.tta_draw.proofs.sizes.wider_rows.Given as goal

abbrev pub invariant-loop-i : goal.invariant-loop-i
invariant-loop-i g l =
    let U = stated (λ v. (goal.OpUnit-dyn g v).unit_meaning v.1) l.units in
    record {
      rest : wider_rows U l.m l.widest (drop l.i-index l.words) ≡ wider_rows U l.m l.width l.words;
      few : l.widest ≤ 7008;
    }
