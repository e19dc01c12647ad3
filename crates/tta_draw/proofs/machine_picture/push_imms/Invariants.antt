use Rattle.std.proofs.Common.{◌≡◌, ◌+◌, ◌*◌, ◌≤◌, ◌++◌, drop}
use Rattle.tta_draw.specs.MachinePicture.{imms_text}
use Rattle.tta_draw.proofs.machine_picture.push_imms.Given as goal

abbrev pub invariant-loop-i : goal.invariant-loop-i
invariant-loop-i l =
    record {
      text : l.out.items ++ imms_text l.m l.next (drop l.i-index l.imms) ≡ l.initial.out.items ++ imms_text l.m l.left l.imms;
      few : l.next ≤ l.left + 21044 * l.i-index;
    }
