use Rattle.std.proofs.Common.{◌≡◌, ◌+◌, ◌*◌, ◌≤◌, drop}
use Rattle.tta_draw.specs.Cited.{stated}
use Rattle.tta_draw.specs.MachineWidths.{after_units}
use Rattle.tta_draw.proofs.machine_widths.after_units.Given as goal

abbrev pub invariant-loop-u : goal.invariant-loop-u
invariant-loop-u g l =
    let U = stated (λ v. (goal.OpUnit-dyn g v).unit_meaning v.1) l.set in
    record {
      rest : after_units U l.m l.next (drop l.u-index l.units) ≡ after_units U l.m l.left l.units;
      few : l.next ≤ l.left + 21044 * l.u-index;
    }
