use Rattle.std.proofs.Common.{◌≡◌, ◌++◌, ◌-◌}
use Rattle.tta_connect.specs.Coverage.{registers_from}
use Rattle.tta_connect.proofs.homes.push_registers.Given as goal

abbrev pub invariant-loop-index : goal.invariant-loop-index
invariant-loop-index l =
    l.homes.items ++ registers_from l.file l.index (l.size - l.index) ≡ l.initial.homes.items ++ registers_from l.file l.first (l.size - l.first)
