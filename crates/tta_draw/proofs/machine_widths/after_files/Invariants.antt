use Rattle.std.proofs.Common.{◌≡◌, ◌+◌, ◌*◌, ◌≤◌, drop}
use Rattle.tta_draw.specs.MachineWidths.{after_files}
use Rattle.tta_draw.proofs.machine_widths.after_files.Given as goal

abbrev pub invariant-loop-f : goal.invariant-loop-f
invariant-loop-f l =
    record {
      rest : after_files l.m l.next (drop l.f-index l.files) ≡ after_files l.m l.left l.files;
      few : l.next ≤ l.left + 21044 * l.f-index;
    }
