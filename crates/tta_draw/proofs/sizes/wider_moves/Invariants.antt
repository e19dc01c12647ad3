use Rattle.std.proofs.Common.{◌≡◌, ◌≤◌, drop}
use Rattle.tta_draw.specs.Cited.{stated}
use Rattle.tta_draw.specs.CodeWidths.{wider_moves}
use Rattle.tta_draw.proofs.sizes.wider_moves.Given as goal

abbrev pub invariant-loop-slot : goal.invariant-loop-slot
invariant-loop-slot g l =
    let U = stated (λ v. (goal.OpUnit-dyn g v).unit_meaning v.1) l.units in
    record {
      rest : wider_moves U l.m l.widest (drop l.slot-index l.slots) ≡ wider_moves U l.m l.width l.slots;
      few : l.widest ≤ 7008;
    }
