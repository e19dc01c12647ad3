use Rattle.std.proofs.Common.{◌≡◌, ◌+◌, ◌*◌, ◌≤◌, drop}
use Rattle.tta_draw.specs.MachineWidths.{after_imms}
use Rattle.tta_draw.proofs.machine_widths.after_imms.Given as goal

abbrev pub invariant-loop-i : goal.invariant-loop-i
invariant-loop-i l =
    record {
      rest : after_imms l.m l.next (drop l.i-index l.imms) ≡ after_imms l.m l.left l.imms;
      few : l.next ≤ l.left + 21044 * l.i-index;
    }
