use Rattle.std.proofs.Common.{◌≡◌, ◌+◌, ◌*◌, ◌≤◌, ◌++◌, drop}
use Rattle.tta_draw.specs.MachinePicture.{files_text}
use Rattle.tta_draw.proofs.machine_picture.push_files.Given as goal

abbrev pub invariant-loop-f : goal.invariant-loop-f
invariant-loop-f l =
    record {
      text : l.out.items ++ files_text l.m l.next (drop l.f-index l.files) ≡ l.initial.out.items ++ files_text l.m l.left l.files;
      few : l.next ≤ l.left + 21044 * l.f-index;
    }
