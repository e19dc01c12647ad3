use Rattle.std.proofs.Common.{◌≡◌, ◌++◌, drop}
use Rattle.std.specs.Prelude.{slice_get}
use Rattle.std.specs.List.{flat_map, enumerate_from}
use Rattle.tta_waves.specs.Dump.{change_text}
use Rattle.tta_waves.proofs.changes.push_changes.Given as goal

abbrev pub invariant-loop-number : goal.invariant-loop-number
invariant-loop-number l =
    l.out.items ++ flat_map (λ e. change_text (slice_get l.before e.0) e.0 e.1) (enumerate_from l.number (drop l.number l.now))
    ≡ l.initial.out.items ++ flat_map (λ e. change_text (slice_get l.before e.0) e.0 e.1) (enumerate_from 0 l.now)
