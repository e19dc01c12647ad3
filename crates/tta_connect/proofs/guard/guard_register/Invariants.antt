use Rattle.std.proofs.Common.{◌≡◌, drop}
use Rattle.tta_connect.specs.Coverage.{guard_register, first_by, guard_in}
use Rattle.tta_connect.proofs.guard.guard_register.Given as goal

abbrev pub invariant-loop-file : goal.invariant-loop-file
invariant-loop-file l =
    let m = l.on.machine.now in
    guard_register m l.hub ≡ first_by (guard_in m l.hub) l.file (drop l.file m.files)
