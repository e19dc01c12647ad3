use Rattle.std.proofs.Common.{◌≡◌, ◌+◌, ◌*◌, ◌≤◌, ◌++◌, drop}
use Rattle.tta_draw.specs.MachinePicture.{templates_text}
use Rattle.tta_draw.proofs.machine_picture.push_templates.Given as goal

abbrev pub invariant-loop-t : goal.invariant-loop-t
invariant-loop-t l =
    record {
      text : l.out.items ++ templates_text l.m l.next (drop l.t-index l.templates) ≡ l.initial.out.items ++ templates_text l.m l.left l.templates;
      few : l.next ≤ l.left + 21044 * l.t-index;
    }
