use Rattle.std.proofs.Common.{◌≡◌, drop}
use Rattle.tta_connect.specs.Coverage.{hub_of, first_by, is_hub}
use Rattle.std.specs.Prelude.{Some, None, if◌then◌else◌}
use Rattle.tta_connect.proofs.hub.hub_of.Given as goal

abbrev pub invariant-loop-file : goal.invariant-loop-file
invariant-loop-file l =
    let m = l.on.machine.now in
    hub_of m ≡ first_by (λ file f. if is_hub m file f then Some file else None) l.file (drop l.file m.files)
