use Rattle.std.proofs.Common.{◌≡◌, ◌++◌, drop}
use Rattle.tta_connect.specs.Coverage.{homes_from}
use Rattle.tta_connect.proofs.homes.push_files.Given as goal

abbrev pub invariant-loop-file : goal.invariant-loop-file
invariant-loop-file l =
    let m = l.on.machine.now in
    l.homes.items ++ homes_from m l.hub l.file (drop l.file m.files) ≡ l.initial.homes.items ++ homes_from m l.hub 0 m.files
