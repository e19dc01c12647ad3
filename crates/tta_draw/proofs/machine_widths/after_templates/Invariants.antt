use Rattle.std.proofs.Common.{◌≡◌, ◌+◌, ◌*◌, ◌≤◌, drop}
use Rattle.tta_draw.specs.MachineWidths.{after_templates}
use Rattle.tta_draw.proofs.machine_widths.after_templates.Given as goal

abbrev pub invariant-loop-t : goal.invariant-loop-t
invariant-loop-t l =
    record {
      rest : after_templates l.m l.next (drop l.t-index l.templates) ≡ after_templates l.m l.left l.templates;
      few : l.next ≤ l.left + 21044 * l.t-index;
    }
