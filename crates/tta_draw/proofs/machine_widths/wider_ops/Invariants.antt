use Rattle.std.proofs.Common.{◌≡◌, ◌≤◌, drop}
use Rattle.tta_draw.specs.Cited.{stated}
use Rattle.tta_draw.specs.MachineWidths.{wider_ops}
use Rattle.tta_draw.proofs.machine_widths.wider_ops.Given as goal

abbrev pub invariant-loop-o : goal.invariant-loop-o
invariant-loop-o g l =
    let U = stated (λ v. (goal.OpUnit-dyn g v).unit_meaning v.1) l.units in
    record {
      rest : wider_ops U l.widest (drop l.o-index l.ops) ≡ wider_ops U l.width l.ops;
      few : l.widest ≤ 7029;
    }
