use Rattle.std.proofs.Common.{◌≡◌, ◌-◌}
use Rattle.std.specs.Prelude.{Some, None, if◌then◌else◌}
use Rattle.std.specs.List.{range_with_len}
use Rattle.tta_connect.specs.Coverage.{guard_in, first_by, can_guard}
use Rattle.tta_connect.proofs.guard.guard_in.Given as goal

abbrev pub invariant-loop-index : goal.invariant-loop-index
invariant-loop-index l =
    guard_in l.on.machine.now l.hub l.file l.f
    ≡ first_by (λ k index. if can_guard l.on.machine.now l.hub l.file index then Some (l.file, index) else None) l.index
    (range_with_len l.index (l.f.size - l.index))
