use Rattle.std.proofs.Common.{◌≡◌, ◌++◌, drop}
use Rattle.std.specs.List.{flat_map, enumerate_from}
use Rattle.tta_waves.specs.Signals.{file_signals}
use Rattle.tta_waves.proofs.signals.push_files.Given as goal

abbrev pub invariant-loop-file : goal.invariant-loop-file
invariant-loop-file l =
    l.list.items ++ flat_map file_signals (enumerate_from l.file (drop l.file l.files)) ≡ l.initial.list.items ++ flat_map file_signals (enumerate_from 0 l.files)
